mod Prelude
mod Loops
