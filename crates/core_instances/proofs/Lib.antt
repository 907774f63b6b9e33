pub mod Counting
mod Made
mod Needs
mod Ordering
mod UserInstances
mod AddedModules
mod Unplanned
mod EncodedFixups
