pub mod Foreign
pub mod Walking
