pub mod Facts
pub mod Work
pub mod Forms
pub mod Meanings
pub mod Trees
pub mod Bodies
