pub mod Steps
pub mod Reporting
mod Refusing
mod CombinedCauses
mod FoundTypes
mod FoundImports
mod FoundExports
mod CheckingCauses
mod Whole
pub mod Gathering
mod Adding
mod Names
