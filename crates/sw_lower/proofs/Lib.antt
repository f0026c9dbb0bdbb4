pub mod Finishing
pub mod Givens
pub mod Lacking
pub mod Numbered
pub mod Programs
