pub mod Flag
pub mod Run
pub mod Ensured
