pub mod Destination
pub mod Folder
pub mod StateStore
pub mod Replacement
