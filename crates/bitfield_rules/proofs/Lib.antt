pub mod Laws
pub mod Order
pub mod Search
pub mod Theorems
pub mod Toggles
