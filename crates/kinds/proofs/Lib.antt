pub mod Ranks
pub mod Finds
pub mod Copied
