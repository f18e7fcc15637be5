pub mod LastLaws
pub mod StatsLaws
