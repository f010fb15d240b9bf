pub mod Tests
pub mod Shape
pub mod Posts
