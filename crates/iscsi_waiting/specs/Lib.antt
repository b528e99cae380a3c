pub mod Known
pub mod Marks
pub mod Firsts
pub mod Counting
pub mod Kept
pub mod Rows
