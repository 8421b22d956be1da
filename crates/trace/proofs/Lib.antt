mod Bytes
mod Cells
mod Found
mod Exact
mod Held
mod Puts
mod Short
mod Sound
mod Steps
pub mod Walks
