pub mod MarkLemmas
pub mod ShownLemmas
pub mod AscendLemmas
pub mod CountLemmas
pub mod EnterLemmas
pub mod OutLemmas
pub mod LoopLemmas
pub mod AskLemmas
