-- Contracts of private functions.
pub mod Known
