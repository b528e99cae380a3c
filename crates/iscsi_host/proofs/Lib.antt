pub mod AnswerLemmas
pub mod AsBox
pub mod EffectLemmas
pub mod ServingLemmas
