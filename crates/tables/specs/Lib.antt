pub mod Tables
pub mod Worked
