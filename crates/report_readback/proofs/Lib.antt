mod Prelude
mod Spellings
mod Tokens
pub mod Declared
pub mod Numerals
pub mod Heads
pub mod Bases
pub mod Models
pub mod Reports
pub mod SkippedEvidence
pub mod ModelReports
pub mod Writable
pub mod ClaimNumbers
pub mod Outcomes
pub mod PlainAnswers
pub mod OneLemma
pub mod LemmaAnswers
pub mod LemmaPolys
pub mod Answers
pub mod WritableCandidates
pub mod OwnEvidence
