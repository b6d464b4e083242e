pub mod Outcomes
pub mod Goals
pub mod Begins
pub mod Machine
pub mod Theorems
