-- Worked lists of calls, computed against the rules.
pub mod Rows
pub mod CommandRows
pub mod ClearRows
pub mod ConnectionRows
pub mod LogoutRows
pub mod OtherRows
pub mod PromiseRows
