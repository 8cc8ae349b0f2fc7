-- What the code's forms are worth, what a promise allows, and the proof of each function below.
pub mod Boxes
pub mod Each
pub mod Mixing
pub mod Unique
