pub mod ShimRuns
