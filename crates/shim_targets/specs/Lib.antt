pub mod ShimTargets
pub mod CallOptions
