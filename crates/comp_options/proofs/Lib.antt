mod Lowered
pub mod ImportSets
