pub mod Instance
pub mod Meaning
pub mod Making
pub mod Text
pub mod Doing
pub mod Equality
