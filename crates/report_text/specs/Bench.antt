-- A statement of any size, whose claims are decided in a known number of steps.
use Rattle.std.specs.Prelude.{ℕ, ◌+◌, ◌-◌, List, ◌++◌, decimal, codes}
use Rattle.std.specs.List.{flat_map, range_with_len}

-- a name that ends with a number
abbrev pub numbered : List ℕ → ℕ → List ℕ
numbered name i = name ++ decimal i

-- the map a i goes from object i to the one before it, and r i back
abbrev pub maps_of_step : ℕ → List ℕ
maps_of_step i = codes "map a" ++ decimal i ++ codes " : O" ++ decimal i ++ codes " -> O" ++ decimal (i - 1)
    ++ codes "\nmap r" ++ decimal i ++ codes " : O" ++ decimal (i - 1) ++ codes " -> O" ++ decimal i ++ codes "\n"

-- r i is a right inverse of a i
abbrev pub assumption_of_step : ℕ → List ℕ
assumption_of_step i = codes "assume a" ++ decimal i ++ codes " r" ++ decimal i ++ codes " = [O" ++ decimal (i - 1) ++ codes "]\n"

-- ` O0` to ` On`
abbrev pub objects_text : ℕ → List ℕ
objects_text n = flat_map (numbered (codes " O")) (range_with_len 0 (n + 1))

-- ` a1` to ` an`, and then ` rn` to ` r1`
abbrev pub there_and_back : ℕ → List ℕ
there_and_back n = flat_map (numbered (codes " a")) (range_with_len 1 n) ++ flat_map (λ place. numbered (codes " r") (n - place)) (range_with_len 0 n)

-- The objects O0 to On with the maps of n steps, each with its right inverse. The first claim follows: the right inverses, in the other
-- order, are a right inverse of the
-- composite. The second one does not: the last right inverse is a left inverse too.
abbrev pub bench_statement : ℕ → List ℕ
bench_statement n =
    codes "object" ++ objects_text n ++ codes "\n"
    ++ flat_map maps_of_step (range_with_len 1 n)
    ++ flat_map assumption_of_step (range_with_len 1 n)
    ++ codes "claim" ++ there_and_back n ++ codes " = [O0]\nclaim r" ++ decimal n ++ codes " a" ++ decimal n ++ codes " = [O" ++ decimal n ++ codes "]\n"
