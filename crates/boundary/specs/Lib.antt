pub mod Boundary
pub mod Handling
pub mod Calls
pub mod Caller
pub mod Worked
