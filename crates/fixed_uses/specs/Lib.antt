pub mod Meter
pub mod Taps
pub mod Gain
pub mod Money
pub mod Dial
