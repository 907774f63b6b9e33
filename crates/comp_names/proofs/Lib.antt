mod Deciding
mod Parts
mod Labels
mod Testing
mod Versions
mod Meeting
pub mod Judging
