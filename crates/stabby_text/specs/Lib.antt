pub mod BoxLends
pub mod Making
pub mod SliceViews
pub mod Texts
