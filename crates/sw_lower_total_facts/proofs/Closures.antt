-- What a closure captures, and that its code and that of its body ask for nothing that isn't known.
pub mod Apart
pub mod Boxes
pub mod Captured
pub mod Enclosed
pub mod Firsts
pub mod Fitting
pub mod Forms
pub mod Inside
pub mod Isolated
pub mod Kept
pub mod Noted
pub mod Places
pub mod Seen
pub mod Trees
