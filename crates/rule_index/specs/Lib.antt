pub use Rattle.word_core.specs.Occurrence
pub mod Matches
pub mod Prefixes
pub mod Automaton
pub mod Cuts
