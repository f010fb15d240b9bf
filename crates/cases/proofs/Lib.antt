pub mod Claim
pub mod Single
