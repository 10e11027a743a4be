pub mod Fitted
pub mod Refused
pub mod Departures
pub mod Promises
pub mod Exactly
