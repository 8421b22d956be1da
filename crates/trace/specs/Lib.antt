pub mod Faults
pub mod Layouts
pub mod Spelling
pub mod Reading
pub mod Reader
pub mod Writing
pub mod Traces
