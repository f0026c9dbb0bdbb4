-- What is known of the declarations of a program: their numbers, keys, names, members and shapes.
pub mod DeclParts
pub mod DeclStands
pub mod Enums
pub mod GlobalDecls
pub mod Keyed
pub mod MadeOf
pub mod MemberTrees
pub mod NamesApart
pub mod ObjectDecls
pub mod OwnAssigns
pub mod PartMembers
pub mod SignatureKeys
pub mod Standing
pub mod WordKinds
