mod Afters
mod Repeated
