pub mod DenseLemmas
pub mod Digits
pub mod LineLemmas
pub mod RecordedLemmas
pub mod ReadingLemmas
pub mod OrderLemmas
pub mod Written
pub mod CommonLemmas
pub mod FieldLemmas
pub mod EffectLemmas
pub mod SourceLemmas
mod DigitTable
mod DigitSteps
mod PairLemmas
mod FirstLemmas
mod FrontLemmas
mod EightLemmas
pub mod NextLemmas
