pub mod Shift
pub mod Stores
