pub mod Forms
pub mod Lines
pub mod Reading
pub mod Fault
