pub mod Lines
pub mod Decimals
pub mod Filled
