-- The numbers that the wire shows: StatSN, ExpCmdSN and MaxCmdSN.
pub mod ExpLemmas
pub mod NumberTheorem
pub mod ShownLemmas
pub mod FlowRuns
pub mod OnwardTheorem
pub mod ShownReplies
pub mod ShownTasks
pub mod ShownAnswers
pub mod ShownTurns
pub mod ShownTheorem
