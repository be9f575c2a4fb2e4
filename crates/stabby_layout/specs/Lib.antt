pub mod CStruct
pub mod Laws
pub mod Layouts
pub mod Report
pub mod ReportEquality
