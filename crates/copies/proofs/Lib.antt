pub mod Entered
pub mod Alike
pub mod Siblings
pub mod Images
