-- The items of an event: the form of each, and what it does.
pub mod DeedTable
pub mod Forms
pub mod DeedLemmas
pub mod FormItems
pub mod FormRuns
pub mod TouchLemmas
pub mod EmptyingMarks
pub mod ClosingItems
pub mod CommandItems
pub mod EnabledItems
pub mod ReceivedItems
pub mod WaitingItems
