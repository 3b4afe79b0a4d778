pub mod Statements
pub mod Lists
pub mod Strings
pub mod Symbols
pub mod DataLines
