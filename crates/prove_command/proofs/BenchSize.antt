-- The statement of `bench` is within the limit of statements.
use Rattle.prove_command.proofs.Prelude.{◌≤◌, ◌<◌, ℕ, zero, suc, ◌+◌, ◌-◌, ◌*◌, List, ◌++◌, length, codes, decimal, arith, flat_map, range_with_len, length-append, length-decimal-le, numbered, maps_of_step, assumption_of_step, there_and_back, bench_statement, size_limit, statement_limit}

-- at most this many bytes
record IsShort (most : ℕ) (bytes : List ℕ) : Type 0 where
  few : length bytes ≤ most

joined : {a b : ℕ} {xs ys : List ℕ} → IsShort a xs → IsShort b ys → IsShort (a + b) (xs ++ ys)
joined {a} {b} {xs} {ys} one two = record { few = let same = length-append xs ys in let first = one.few in let second = two.few in omega (arith, first, second, same) }

-- and no more than more
wider : {a : ℕ} {xs : List ℕ} (b : ℕ) → a ≤ b → IsShort a xs → IsShort b xs
wider {a} {xs} b more one = record { few = let first = one.few in omega (arith, first, more) }

-- pieces of at most 100 bytes
pieces : (f : ℕ → List ℕ) (first count : ℕ) → ((k : ℕ) → first ≤ k → k < first + count → IsShort 100 (f k)) → IsShort (100 * count) (flat_map f (range_with_len first count))
pieces f first zero each = record { few = omega arith }
pieces f first (suc count) each = wider (100 * suc count) (omega arith) (joined (each first (omega arith) (omega arith)) (pieces f (first + 1) count (λ k least most. each k (omega arith) (omega arith))))

digits : (n : ℕ) → n < 100 → IsShort 2 (decimal n)
digits n below = record { few = length-decimal-le 2 n (omega arith) (omega arith) (omega arith) }

text : (bytes : List ℕ) → IsShort (length bytes) bytes
text bytes = record { few = omega arith }

-- a name and a number
name : (bytes : List ℕ) (n : ℕ) → n < 100 → IsShort (length bytes + 2) (bytes ++ decimal n)
name bytes n below = joined (text bytes) (digits n below)

-- after other bytes
then : {a : ℕ} {before : List ℕ} → IsShort a before → (bytes : List ℕ) (n : ℕ) → n < 100 → IsShort (a + length bytes + 2) (before ++ bytes ++ decimal n)
then first bytes n below = joined (joined first (text bytes)) (digits n below)

maps_short : (i : ℕ) → i < 100 → IsShort 100 (maps_of_step i)
maps_short i below =
    let there = then (then (name (codes "map a") i below) (codes " : O") i below) (codes " -> O") (i - 1) (omega arith) in
    let back = then (then (then there (codes "\nmap r") i below) (codes " : O") (i - 1) (omega arith)) (codes " -> O") i below in
    wider 100 (omega arith) (joined back (text (codes "\n")))

assumption_short : (i : ℕ) → i < 100 → IsShort 100 (assumption_of_step i)
assumption_short i below =
    let product = then (then (name (codes "assume a") i below) (codes " r") i below) (codes " = [O") (i - 1) (omega arith) in
    wider 100 (omega arith) (joined product (text (codes "]\n")))

there_short : (n : ℕ) → n ≤ size_limit → IsShort 12000 (there_and_back n)
there_short n most =
    let there = pieces (numbered (codes " a")) 1 n (λ k least up. wider 100 (omega arith) (name (codes " a") k (omega arith))) in
    let back = pieces (λ place. numbered (codes " r") (n - place)) 0 n (λ k least up. wider 100 (omega arith) (name (codes " r") (n - k) (omega arith))) in
    wider 12000 (omega arith) (joined there back)

statement_short : (n : ℕ) → n ≤ size_limit → IsShort 100000 (bench_statement n)
statement_short n most =
    let objects = pieces (numbered (codes " O")) 0 (n + 1) (λ k least up. wider 100 (omega arith) (name (codes " O") k (omega arith))) in
    let maps = pieces maps_of_step 1 n (λ k least up. maps_short k (omega arith)) in
    let assumptions = pieces assumption_of_step 1 n (λ k least up. assumption_short k (omega arith)) in
    let declared = joined (joined (joined (joined (text (codes "object")) objects) (text (codes "\n"))) maps) assumptions in
    let claimed = joined (joined declared (text (codes "claim"))) (there_short n most) in
    let named = then (then (then claimed (codes " = [O0]\nclaim r") n (omega arith)) (codes " a") n (omega arith)) (codes " = [O") n (omega arith) in
    wider 100000 (omega arith) (joined named (text (codes "]\n")))

pub bench_fits : (n : ℕ) → n ≤ size_limit → length (bench_statement n) ≤ statement_limit
bench_fits n most = let short = (statement_short n most).few in omega (arith, short)
