pub mod Trees
pub mod Meanings
pub mod Sorts
pub mod Grammar
pub mod Levels
pub mod Starts
