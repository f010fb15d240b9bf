pub mod Arrays
pub mod Reads
pub mod Walks
