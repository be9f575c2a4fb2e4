pub mod LayoutLemmas
pub mod ReportLemmas
