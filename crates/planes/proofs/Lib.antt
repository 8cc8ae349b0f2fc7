-- What is true of the definitions of specs/, what the code's forms are worth, and what a promise allows.
pub mod Tests
pub mod BitLaws
pub mod FlipLaws
pub mod RowLaws
pub mod Stores
pub mod Crossing
pub mod WordLaws
pub mod Unique
