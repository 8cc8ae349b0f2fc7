-- Chains of writer's calls, what a walk hands out, and what demand 3 says.
pub mod Chain
pub mod Handed
pub mod Recovered
pub mod ByCalls
pub mod Cases
