pub mod Audits
pub mod Laws
pub mod Reports
