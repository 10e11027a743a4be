pub mod Lookups
pub mod Placing
pub mod Steps
pub mod Worked
pub mod WorkedSteps
