pub mod Signed
pub mod Operators
pub mod Places
pub mod Expressions
pub mod Numbers
