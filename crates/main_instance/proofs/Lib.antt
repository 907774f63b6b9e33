pub mod Growth
pub mod Serving
pub mod Interfaces
pub mod Giving
mod GivenCalls
pub mod DirectCalls
pub mod Instantiating
mod OwnHandles
pub mod BuiltIns
pub mod OfMain
pub mod Cells
pub mod PayloadCalls
pub mod AccessCalls
pub mod ReturnCalls
pub mod Functions
