pub mod Closers
pub mod Heads
