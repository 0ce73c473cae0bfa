-- How many ambiguities have short overlap words.
use Rattle.std.specs.Prelude.{ℕ, zero, suc, ◌+◌, ◌*◌, ◌^◌}

-- the sum of k ^ m * m * m over m from 1 to n: of the k ^ m words of m letters each is the overlap word of at most m * m ambiguities
abbrev pub short_ambiguities : ℕ → ℕ → ℕ
short_ambiguities k zero = 0
short_ambiguities k (suc n) = short_ambiguities k n + k ^ suc n * suc n * suc n
