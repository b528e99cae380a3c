pub mod SideWalks
pub mod Follows
pub mod Leavings
mod StartTheorem
mod EventForms
pub mod BoxOuts
pub mod NeedForms
pub mod NeedItems
pub mod NeedTheorem
pub mod ReadyTheorem
pub mod WordTheorem
mod WordOrder
