pub mod Rising
pub mod Leaves
pub mod ToldClaims
