pub mod Hued
pub mod Tinted
