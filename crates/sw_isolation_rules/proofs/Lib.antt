mod Apart
mod Calls
mod CallsIn
pub mod Each
pub mod OneMerged
mod InOrder
mod Meant
pub mod Noted
pub mod NotedKeys
pub mod NotedUses
mod Sound
mod SoundNotes
pub mod SoundPrograms
