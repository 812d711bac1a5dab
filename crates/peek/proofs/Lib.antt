pub mod Peeks
