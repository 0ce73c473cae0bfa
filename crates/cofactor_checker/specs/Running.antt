-- The sum of the rows in the order of its words, and what stops a row from being added.
pub use Rattle.nc_polynomial.specs.Running.{IsRunning, Adds, IsSumOf}
pub use Rattle.nc_polynomial.specs.Stops.{IsStoppedBy}
