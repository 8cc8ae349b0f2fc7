-- What a state's planes are.
pub mod Planes
pub mod Packing
