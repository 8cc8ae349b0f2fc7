-- How structs and enums cross to C: as numbers, a file for each room.
pub mod FlatWriter
pub mod FlatReader
pub mod FlatSurvey
pub mod NbChain
