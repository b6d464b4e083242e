pub mod Faults
pub mod Seen
pub mod Looking
pub mod Reading
pub mod Closing
pub mod Making
pub mod Headers
pub mod Taking
