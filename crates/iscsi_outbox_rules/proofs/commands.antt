-- How far commands have come, and their own PDUs and Responses.
pub mod TicketLemmas
pub mod CommandRuns
pub mod CommandTheorem
pub mod TaskRuns
pub mod LeaveLemmas
pub mod TicketRuns
pub mod LeftRuns
pub mod LeftPuts
pub mod TaskFits
pub mod TaskLives
pub mod ResponseHomes
pub mod ResponseRuns
pub mod ResponseCalls
pub mod ResponseTheorem
pub mod TaskPhases
