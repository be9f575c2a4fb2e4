pub mod Answers
pub mod Facts
pub mod Hosts
pub mod Plugins
pub mod Shelves
