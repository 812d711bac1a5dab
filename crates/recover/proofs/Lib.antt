pub mod Hinders
pub mod Mends
pub mod Totals
