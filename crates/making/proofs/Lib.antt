pub mod Following
pub mod Standing
pub mod Keeping
pub mod Bounding
pub mod Arguments
