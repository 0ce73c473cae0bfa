mod Prelude
pub mod Commands
mod OwnReports
pub mod AfterFiles
pub mod Endings
pub mod Prefix
mod ReportLines
mod PromisedFiles
mod PromisedGenerators
mod PromisedVerdicts
mod Promised
mod PromisedBlocks
mod PromisedEvidence
mod PromisedCalls
pub mod EndedReductions
pub mod ClosedRuns
pub mod RunRules
pub mod Printed
pub mod BasisReports
pub mod ClaimBases
pub mod SharpRuns
pub mod StatementBases
