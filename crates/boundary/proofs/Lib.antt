pub mod Returned
pub mod Caller
pub mod Promises
