-- A command starts, stops, or comes to another stage.
pub mod Commands
pub mod Stopping
pub mod Staging
pub mod Starting
pub mod StartsOver
pub mod StartsAfter
pub mod HeldNews
