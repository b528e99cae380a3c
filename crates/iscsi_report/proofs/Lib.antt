pub mod LineLemmas
pub mod DigitLanes
pub mod LineEnds
mod DecimalLemmas
mod EntryLemmas
mod TensLemmas
mod AnswerDigits
mod FilledLemmas
