pub mod Text
pub mod Buffers
pub mod Pages
