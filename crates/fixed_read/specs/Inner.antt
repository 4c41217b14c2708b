-- Contracts of private functions. No public contract cites them.
pub mod Blocks
pub mod Rounding
pub mod BinaryPower
