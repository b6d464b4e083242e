pub mod Holding
pub mod Handing
pub mod Settled
