pub mod Core
pub mod Grammar
