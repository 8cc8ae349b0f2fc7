-- What is true of the rounds on planes, what a promise allows, and the proof of each function below.
pub mod AlikeLaws
pub mod ConstantLaws
pub mod PlaneRounds
pub mod Unique
