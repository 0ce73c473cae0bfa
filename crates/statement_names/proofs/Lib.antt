mod Prelude
mod Examples
pub mod Keys
pub mod Runs
pub mod Flat
pub mod KindsFound
pub mod Quiet
pub mod Bridge
pub mod Each
pub mod Apart
pub mod Clean
pub mod NamedKinds
pub mod Fresh
pub mod Items
pub mod FileDeclared
pub mod Tally
pub mod MarkLemmas
pub mod Found
pub mod Stated
pub mod Sides
pub mod SoundOrder
pub mod WrittenNames
pub mod Ascending
pub mod SolvedMaps
pub mod SoundShapes
pub mod FileReady
