pub mod Laws
pub mod PageLaws
pub mod DecimalLaws
pub mod Spelling
