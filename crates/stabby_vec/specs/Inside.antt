-- What only the bodies of this crate know: no public clause cites these modules.
pub mod SingleForm
pub mod SingleParts
pub mod Turns
