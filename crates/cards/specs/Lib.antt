pub mod Cards
pub mod Fitting
pub mod Worked
