pub mod MemberLaws
pub mod TurnLaws
