pub mod BlockFacts
pub mod SameParts
pub mod SameThen
