pub mod Blocks
pub mod Firsts
pub mod Items
pub mod Tails
pub mod Writing
