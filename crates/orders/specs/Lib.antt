pub mod Faithful
pub mod Taking
pub mod Theorems
pub mod Neighbours
pub mod Example
