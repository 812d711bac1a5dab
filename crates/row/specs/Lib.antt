pub mod Ensured
pub mod Means
pub mod Row
