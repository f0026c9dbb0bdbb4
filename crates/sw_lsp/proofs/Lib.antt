pub mod Answering
pub mod Fronts
pub mod Known
pub mod KnownTexts
pub mod Lasting
pub mod Showing
pub mod Turns
