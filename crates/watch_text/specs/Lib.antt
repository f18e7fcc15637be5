pub mod Reads
pub use Rattle.report_text.specs.Reports
