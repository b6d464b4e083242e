pub mod Declaring
pub mod Readings
