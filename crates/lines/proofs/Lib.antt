pub mod Cases
pub mod Laws
pub mod OneField
pub mod Pastes
pub mod Texts
