-- What is known of whole programs: each body has a number of its own, and what code asks for is
-- there.
pub mod BodyCounts
pub mod Found
pub mod FuncBodies
pub mod Getters
pub mod Initialisers
pub mod Knowing
pub mod NamesApart
pub mod Numbered
pub mod Objects
pub mod Starting
pub mod TreeBodies
