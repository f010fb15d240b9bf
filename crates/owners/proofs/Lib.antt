pub mod QuestionLaws
pub mod TurnLaws
pub mod WalkLaws
