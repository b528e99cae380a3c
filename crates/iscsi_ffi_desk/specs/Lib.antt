pub mod Awake
pub mod Calls
pub mod Courses
pub mod Kept
pub mod Options
pub mod Rooms
