-- Worked recordings, computed against the rules.
pub mod Rows
pub mod NumberRows
pub mod OtherRows
pub mod CommandRows
pub mod SetRows
pub mod FunctionRows
pub mod SetAbortRows
pub mod LogoutRows
pub mod UnitRows
pub mod QueryRows
