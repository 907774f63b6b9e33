pub mod Equalities
pub mod Records
