-- Worked lists that the rules and the steps answer alike.
pub mod Rows
