pub mod Changes
pub mod Sights
