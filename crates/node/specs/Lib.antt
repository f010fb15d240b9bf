pub mod Shape
pub mod Actions
