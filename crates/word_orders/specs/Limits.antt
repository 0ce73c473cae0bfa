-- The limits of orders.
use Rattle.std.specs.Prelude.{◌^◌, ℕ}

-- of the weight of a letter
abbrev pub weight_limit : ℕ
weight_limit = 1000

-- of the letters of a word that is measured: with weights up to the limit its measure is below 2^32
abbrev pub measured_letters : ℕ
measured_letters = 2 ^ 22
