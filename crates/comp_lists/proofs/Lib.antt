pub mod Lists
pub mod Lookups
pub mod TableLemmas
pub mod SplitAtMark
