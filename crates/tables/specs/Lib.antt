pub mod Table
pub mod Rows
pub mod OneProof
pub mod Laws
