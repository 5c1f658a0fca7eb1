pub mod Chains
pub mod Matrix
pub mod Flips
pub mod Links
pub mod Joins
pub mod Splits
pub mod Finishing
