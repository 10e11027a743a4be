pub mod Determined
pub mod CountedRuns
pub mod Answers
pub mod Refused
pub mod Moved
pub mod Promises
