-- What the miniboxes on words of bits are.
pub mod Gates
