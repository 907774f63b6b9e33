pub mod Store
pub mod Machine
pub mod Instances
pub mod Signatures
pub mod Running
