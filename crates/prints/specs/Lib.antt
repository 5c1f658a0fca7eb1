pub mod Print
pub mod Output
