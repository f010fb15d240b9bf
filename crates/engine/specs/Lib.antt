pub mod Outcomes
pub mod Answers
pub mod InArrays
pub mod Computed
pub mod Reached
pub mod Accounts
pub mod Emptied
pub mod Ownership
