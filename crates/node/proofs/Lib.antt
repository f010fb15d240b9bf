pub mod ActionLaws
pub mod EffectLaws
pub mod FitLaws
