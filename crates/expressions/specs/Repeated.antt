-- A power of a word.
use Rattle.std.specs.Prelude.{ℕ, zero, suc, List, [], ◌++◌}

abbrev pub repeated_word : ℕ → List ℕ → List ℕ
repeated_word zero w = []
repeated_word (suc n) w = repeated_word n w ++ w
