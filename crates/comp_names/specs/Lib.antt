pub mod NameForm
pub mod Tests
pub mod Splits
pub mod Names
pub mod Judged
