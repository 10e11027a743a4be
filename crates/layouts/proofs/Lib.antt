pub mod Judging
pub mod Writing
pub mod Accepting
pub mod CardBytes
