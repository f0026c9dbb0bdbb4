pub mod SomeMerged
