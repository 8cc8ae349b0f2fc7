-- What is true of reading.
pub mod ImageTests
pub mod BufferLaws
pub mod GatherLaws
pub mod Unique
pub mod WalkLaws
pub mod GapLaws
pub mod PastStays
