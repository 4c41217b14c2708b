-- Contracts of private functions. No public contract cites them.
pub mod Shift
pub mod Scan
pub mod LiteralScan
pub mod MovedPoint
pub mod Segments
pub mod Prefix
pub mod Run
pub mod LastNumeral
