-- What is true of the definitions of specs/.
pub mod Build
pub mod Field
pub mod Products
pub mod Sums
pub mod Tables
pub mod StateLaws
pub mod SubstituteLaws
pub mod ShiftLaws
pub mod MixLaws
pub mod RoundLaws
pub mod Trip
pub mod Answers
