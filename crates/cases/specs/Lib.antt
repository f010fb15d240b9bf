pub mod Table
pub mod Single
