-- What is true of writing, beside the proofs of the functions.
pub mod Pieces
pub mod Lent
pub mod Ready
pub mod InOrder
pub mod Warned
pub mod Judged
pub mod Answers
pub mod Rules
pub mod Blocks
pub mod Unique
