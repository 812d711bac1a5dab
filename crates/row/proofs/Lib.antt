pub mod Halves
pub mod Lanes
pub mod Laws
pub mod Marks
pub mod Theorems
