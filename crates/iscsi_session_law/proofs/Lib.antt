pub mod FitLemmas
pub mod CountLemmas
pub mod DeliveryLemmas
pub mod AgendaLemmas
pub mod EnablingLemmas
pub mod EventLemmas
