-- The forwarders.
pub mod Unique
