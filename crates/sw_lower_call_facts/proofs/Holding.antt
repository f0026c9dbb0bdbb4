pub mod Firsts
pub mod Noted
pub mod Trees
