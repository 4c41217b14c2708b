-- Contracts of private functions.
pub mod Lengths
pub mod Progress
pub mod Serving
pub mod Reading
