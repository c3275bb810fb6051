pub mod MemoryMachine
