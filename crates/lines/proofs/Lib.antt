pub mod Numbers
pub mod Fields
pub mod Openings
pub mod NumbersRead
pub mod Ends
pub mod Inverse
pub mod OneFault
