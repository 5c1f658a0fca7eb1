pub mod Lists
pub mod Rankings
pub mod Sets
pub mod SetsLemmas
