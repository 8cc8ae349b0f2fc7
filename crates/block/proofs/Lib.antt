-- What is true of blocks and of images.
pub mod ZeroLaws
pub mod PayloadLaws
pub mod NumberLaws
pub mod ContentLaws
pub mod SealLaws
pub mod OpenLaws
pub mod RoundTrip
pub mod OpenedLawful
pub mod OnlySealed
pub mod ViewLaws
pub mod ImageSize
pub mod ImageLaws
pub mod Unique
