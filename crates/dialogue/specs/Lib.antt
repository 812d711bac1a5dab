pub mod Bytes
pub mod Dialogue
pub mod Feeds
pub mod Whole
