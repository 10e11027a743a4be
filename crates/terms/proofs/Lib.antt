pub mod Refusals
pub mod Guards
pub mod Limits
pub mod Signs
pub mod Meanings
pub mod Places
pub mod Telling
pub mod OneAnswer
