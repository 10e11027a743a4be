pub mod Clipped
pub mod Stretches
