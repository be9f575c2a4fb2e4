pub mod Causes
pub mod Falls
pub mod Texts
