-- Contracts of private functions.
pub mod Representative
