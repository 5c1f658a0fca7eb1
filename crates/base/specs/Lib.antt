pub mod Words
pub mod Bits
pub mod Checks
pub mod Commas
