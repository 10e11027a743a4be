pub mod Terms
pub mod Guards
pub mod Comparing
pub mod Telling
