pub mod Lengths
pub mod ArrayLaws
pub mod Places
pub mod Exchanges
pub mod Clauses
pub mod LiveLaws
