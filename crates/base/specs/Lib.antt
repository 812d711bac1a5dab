pub mod Bits
pub mod Code
pub mod Refused
pub mod Ring
pub mod Size
pub mod Walk
