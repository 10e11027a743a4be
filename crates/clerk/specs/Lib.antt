pub mod Clerk
pub mod Worked
