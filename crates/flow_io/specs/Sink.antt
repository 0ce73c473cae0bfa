-- How many bytes a sink took that didn't take them all.
use Rattle.std.specs.Prelude.{ℕ}
use Rattle.flow_io.specs.declared.sink.PutFault.{PutFault}
use Rattle.flow_io.specs.declared.sink.PutFault.TheVariants.{Failed}

-- how many of the bytes were written
abbrev pub written_of : PutFault → ℕ
written_of (Failed written) = written
