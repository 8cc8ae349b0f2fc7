-- What the substitution's circuits are.
pub mod Boxes
