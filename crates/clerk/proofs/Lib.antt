pub mod Handling
pub mod InForce
pub mod Areas
pub mod Answered
pub mod Refused
pub mod Promises
