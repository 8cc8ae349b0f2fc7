-- How the writer's calls cross.
pub mod Chained
pub mod FileNumber
pub mod Warned
pub mod Unique
