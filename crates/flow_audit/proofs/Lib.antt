pub mod CompareLaws
pub mod LoopLaws
