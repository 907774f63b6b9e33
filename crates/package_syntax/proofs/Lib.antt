pub mod Loop
pub mod Plain
pub mod SectionLoop
pub mod Laws
pub mod Again
pub mod Whole
