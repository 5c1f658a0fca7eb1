pub mod Rounds
pub mod Canonical
pub mod Walks
pub mod Selections
pub mod Marking
pub mod Scrubs
