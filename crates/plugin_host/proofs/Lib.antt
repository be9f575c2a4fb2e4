pub mod Reading
pub mod Answering
pub mod Words
pub mod Endings
