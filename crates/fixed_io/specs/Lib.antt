pub mod Laws
pub mod Process
pub mod Report
