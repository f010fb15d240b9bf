pub mod RecordLaws
pub mod NeverLaws
pub mod ScriptLaws
pub mod Theorem
pub mod OwnershipLaws
pub mod Example
