mod Texts
pub mod Parts
