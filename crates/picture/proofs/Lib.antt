-- What is true of the picture.
pub mod PictureLaws
pub mod Unique
