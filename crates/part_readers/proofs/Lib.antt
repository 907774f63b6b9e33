pub mod Loop
pub mod Utf8
pub mod Exact
pub mod ValueLaws
pub mod TypeLaws
