pub mod Places
pub mod OrderLemmas
pub mod DeliveryLemmas
pub mod PartsLemmas
pub mod KnownLemmas
pub mod IndexLemmas
