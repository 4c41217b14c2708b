-- Contracts of private functions: progress between two chunks of an input.
pub mod Progress
pub mod Whole
