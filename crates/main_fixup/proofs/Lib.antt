pub mod Interfaces
pub mod Named
pub mod Uses
pub mod Lowering
pub mod Behind
pub mod Filled
pub mod Instantiating
pub mod EachArgument
