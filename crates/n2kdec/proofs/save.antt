pub mod Finding
pub mod Making
pub mod Replacing
pub mod WorkedFolders
