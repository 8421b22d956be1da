pub mod Numbers
pub mod Questions
pub mod Laws
pub mod Sound
