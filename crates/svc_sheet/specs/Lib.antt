pub mod Drawing
pub mod Frame
pub mod Grid
pub mod Kinds
pub mod Names
pub mod Row
pub mod Sentences
pub mod Values
