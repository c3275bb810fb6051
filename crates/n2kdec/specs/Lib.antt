pub mod CommandLine
pub mod Fault
pub mod Inner
pub mod Run
pub mod Save
pub mod System
pub mod Tests
