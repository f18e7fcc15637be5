pub mod OperationLaws
pub mod PartLaws
