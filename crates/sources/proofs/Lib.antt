pub mod Totals
pub mod Ranges
pub mod Searches
pub mod Items
pub mod Writers
pub mod Readers
pub mod Bounds
pub mod Joined
