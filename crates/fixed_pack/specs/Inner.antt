-- Contracts of private functions.
pub mod Packing
pub mod Unpacking
