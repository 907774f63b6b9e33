pub mod CanonLaws
pub mod SectionLoop
pub mod ItemLaws
pub mod SectionLaws
pub mod Whole
pub mod Again
pub mod Stopping
