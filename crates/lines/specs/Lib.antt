pub mod Answer
pub mod Bytes
pub mod Good
pub mod Read
