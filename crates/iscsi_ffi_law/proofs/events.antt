-- An event goes alike by the steps and by the rules, from its items to the end of the call.
pub mod EventNews
pub mod EventRules
pub mod Unswept
pub mod Sweeping
pub mod EventGoes
pub mod EventEnds
pub mod EventLaw
