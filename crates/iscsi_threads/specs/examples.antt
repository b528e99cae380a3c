-- Worked recordings.
pub mod JobRows
