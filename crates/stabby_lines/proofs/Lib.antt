pub mod Cuts
pub mod Apart
