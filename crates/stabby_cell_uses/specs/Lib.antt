pub mod Counting
pub mod Cells
pub mod Commits
pub mod Stores
pub mod Fills
