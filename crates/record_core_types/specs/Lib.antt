pub mod Offered
pub mod Asked
pub mod Shapes
pub mod Fitting
pub mod Guarantees
