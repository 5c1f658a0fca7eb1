pub mod Supports
pub mod Asked
pub mod Search
pub mod Walk
pub mod Found
