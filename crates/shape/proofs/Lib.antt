pub mod Ceils
