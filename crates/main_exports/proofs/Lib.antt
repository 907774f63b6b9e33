pub mod Growth
pub mod OwnExports
pub mod NeededOptions
pub mod Tabled
pub mod Lifting
pub mod LiftArguments
pub mod Nested
pub mod Exporting
pub mod Instances
pub mod TypeArguments
pub mod AtHand
pub mod Adapters
mod GivenTypes
