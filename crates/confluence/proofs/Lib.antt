mod Prelude
pub mod Integers
pub mod TermWords
pub mod Spans
pub mod Shifts
pub mod Places
pub mod Confluence
pub mod Meets
pub mod Closed
pub mod Outside
pub mod Led
pub mod SumRows
pub mod Resolve
pub mod FreeRows
pub mod Resolved
pub mod Tests
pub mod LedRules
pub mod Factors
pub mod MeetingsOf
pub mod BelowSpans
pub mod ReducibleLaws
pub mod ReducedSpans
pub mod RestLaws
pub mod Ideals
pub mod PlaceLaws
pub mod WrittenTerms
mod Examples
pub mod MoreRules
pub mod MoreAmbiguities
pub mod RowSums
pub mod Steps
pub mod Inside
pub mod OutsideIdeals
pub mod TypedLaws
pub mod ShapeLaws
pub mod MakingLaws
pub mod Contents
mod CompletionExample
