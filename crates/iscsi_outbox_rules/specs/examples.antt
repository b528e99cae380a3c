-- Worked lists of calls, computed against the rules.
pub mod Rows
pub mod AbortRows
pub mod FenceRows
pub mod CloseRows
pub mod NumberRows
pub mod RoomRows
