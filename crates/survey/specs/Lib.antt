-- What spacing and the report are.
pub mod Spacing
pub mod Report
pub mod Marks
pub mod Steps
