-- Contracts of private functions.
pub mod Fractions
