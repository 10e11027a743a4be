pub mod Shapes
pub mod Spelt
pub mod Asking
pub mod Refused
pub mod Promises
