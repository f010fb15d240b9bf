pub mod Execution
pub mod Run
pub mod Claim
pub mod Ownership
