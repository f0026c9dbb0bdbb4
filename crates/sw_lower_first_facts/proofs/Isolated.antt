-- What gives a global variable its first value is isolated to no actor or to a global actor.
pub mod Declared
pub mod Firsts
pub mod Noting
pub mod Trees
