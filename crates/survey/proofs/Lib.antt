-- What is true of spacing and the report.
pub mod SpaceLaws
pub mod SpaceNumber
pub mod CountLaws
pub mod SpaceWalk
pub mod ReportLaws
pub mod Unique
