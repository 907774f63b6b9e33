pub mod Reports
pub mod Giving
pub mod Linking
pub mod LinkCauses
