-- When what the steps keep stands for a box of the rules, for the laws and for the crates above.
pub mod Pairs
pub mod Links
pub mod Commands
pub mod Lanes
pub mod Fences
pub mod Stands
pub mod Sound
