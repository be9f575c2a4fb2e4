pub mod Texts
pub mod Reading
pub mod Whole
pub mod Obeying
pub mod Endings
