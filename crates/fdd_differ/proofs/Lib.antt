pub mod DifferLaws
pub mod KindLaws
pub mod NameLaws
pub mod UnnamedLaws
pub mod WitnessLaws
