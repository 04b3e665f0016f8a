pub mod Numbers
pub mod Chains
pub mod Stays
pub mod Cuts
pub mod Tabled
pub mod Bounds
pub mod TableLaws
