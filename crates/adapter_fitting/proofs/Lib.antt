pub mod Naming
pub mod Chains
pub mod Steps
pub mod Limited
pub mod Active
