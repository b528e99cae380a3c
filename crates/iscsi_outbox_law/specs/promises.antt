-- What each call answers is what the rules say, whatever calls came before.
pub mod Called
