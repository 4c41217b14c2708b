pub mod Laws
pub mod Report
pub mod Sums
pub mod Inner
pub mod Text
