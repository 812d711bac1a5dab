pub mod Blocks
pub mod Cases
pub mod Founds
pub mod Searches
pub mod Trees
