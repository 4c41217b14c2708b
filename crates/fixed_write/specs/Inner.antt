-- Contracts of private functions. No public contract cites them.
pub mod Digits
pub mod Lanes
pub mod Fraction
pub mod Passes
pub mod Styling
pub mod Figures
