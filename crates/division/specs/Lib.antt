pub mod Division
pub mod Forms
