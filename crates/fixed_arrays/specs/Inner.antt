-- Contracts of private functions.
pub mod Elements
pub mod Literals
