pub mod Sets
pub mod Places
pub mod Tests
pub mod Ones
pub mod Checks
pub mod Arrays
