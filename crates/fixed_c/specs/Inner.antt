-- Contracts of private functions; nothing public cites them.
pub mod Asked
pub mod Decimals
pub mod Floats
pub mod KeptRange
