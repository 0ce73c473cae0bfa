mod Prelude
pub mod Machine
pub mod Seen
pub mod Run
pub mod StateReads
pub mod Runs
pub mod Same
pub mod Viable
pub mod LineReads
pub mod LineEnds
pub mod LineRuns
pub mod FileReads
pub mod LastToken
pub mod FirstLine
pub mod TreeKinds
pub mod Moved
pub mod Carets
pub mod Spelled
pub mod BareTokens
pub mod StatedKinds
pub mod ReadBack
pub mod FileBack
pub mod Stopping
pub mod EachText
mod Streamed
