pub mod Steps
pub mod Declarations
pub mod Whole
