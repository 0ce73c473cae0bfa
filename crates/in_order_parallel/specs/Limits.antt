-- The limit of workers.
use Rattle.std.specs.Prelude.{ℕ}

abbrev pub worker_limit : ℕ
worker_limit = 64
