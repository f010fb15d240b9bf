pub mod Laws
pub mod TestLaws
pub mod WordLaws
