pub mod Bytes
pub mod Feeding
pub mod Progress
pub mod Stream
pub mod Calls
pub mod Sentences
pub mod Example
pub mod Promises
