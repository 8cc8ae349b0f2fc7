-- What is true of the definitions of specs/: laws that every layer cites.
pub mod OrderLaws
pub mod ChooseLaws
pub mod TableLaws
pub mod XorLaws
pub mod ListLaws
pub mod SpliceLaws
pub mod ByteLaws
pub mod SameLaws
