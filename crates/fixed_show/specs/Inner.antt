-- Contracts of private functions; nothing public cites them.
pub mod Naturals
pub mod Decimals
pub mod Errors
pub mod Words
pub mod Measures
pub mod Nibbles
