pub mod NestedRuns
