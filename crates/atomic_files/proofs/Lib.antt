pub mod Folders
