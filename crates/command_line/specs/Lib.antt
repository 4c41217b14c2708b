-- Devices that carry bytes, and the operands and options that a command line gives a command.
pub mod Device
pub mod Words
pub mod Said
pub mod JsonLine
