pub mod Rules
pub mod Sets
pub mod Changes
pub mod Counted
pub mod Chains
pub mod Marked
pub mod Linked
