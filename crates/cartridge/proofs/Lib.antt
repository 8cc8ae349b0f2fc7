-- Demand 3, step by step.
pub mod Scan
pub mod Laid
pub mod Survive
pub mod Made
pub mod CanBeMet
pub mod Demand3
pub mod Cases
pub mod Tail
pub mod ByCalls
pub mod Counted
