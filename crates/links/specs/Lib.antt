pub mod Walk
pub mod Ring
