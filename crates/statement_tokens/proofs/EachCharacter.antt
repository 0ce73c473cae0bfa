-- Characters that all pass a test.
use Rattle.statement_tokens.proofs.Prelude.{◌≡◌, ℕ, suc, ◌+◌, ◌≤◌, ◌==◌, ◌&&◌, Bool, true, false, cond, List, [], ◌∷◌, ◌++◌, length, take, refl, sym, ap, ◌∙◌, arith, prefix_len, take_while, list_all, and_parts, both_ways, ne_eqb}

-- each character passes
abbrev pub EachIs : (ℕ → Bool) → List ℕ → Type 0
EachIs p [] = Unit {0}
EachIs p (c ∷ cs) = (p c ≡ true) × EachIs p cs

pub and_first : (a b : Bool) → (a && b) ≡ true → a ≡ true
and_first a b given = (and_parts a b given).0

pub and_second : (a b : Bool) → (a && b) ≡ true → b ≡ true
and_second a b given = (and_parts a b given).1

pub EachIs-take_while : (p : ℕ → Bool) (cs : List ℕ) → EachIs p (take_while p cs)
EachIs-take_while p [] = tt
EachIs-take_while p (c ∷ cs) = by (p c) refl (EachIs-take_while p cs)
  where
    by : (b : Bool) → p c ≡ b → EachIs p (take_while p cs) → EachIs p (take (cond b (1 + prefix_len p cs) 0) (c ∷ cs))
    by true is rest = rw (let longer : 1 + prefix_len p cs ≡ suc (prefix_len p cs) = omega arith in longer) (is, rest)
    by false is rest = tt

pub all_are : (p : ℕ → Bool) (cs : List ℕ) → EachIs p cs → list_all p cs ≡ true
all_are p [] given = refl
all_are p (c ∷ cs) given = rw (given.0) (all_are p cs given.1)

-- characters that all pass are a part of the longest prefix that passes
pub front_passes : (p : ℕ → Bool) (cs rest : List ℕ) → list_all p cs ≡ true → length cs ≤ prefix_len p (cs ++ rest)
front_passes p [] rest all = omega arith
front_passes p (c ∷ cs) rest all =
    let parts = and_parts (p c) (list_all p cs) all in
    rw (parts.0) (let more = front_passes p cs rest parts.1 in omega (arith, more))

-- a character that passes is none that doesn't
pub differs : (p : ℕ → Bool) (c n : ℕ) → p c ≡ true → p n ≡ false → (c == n) ≡ false
differs p c n passes fails = ne_eqb c n (λ same. both_ways (p n) fails (ap p (sym same) ∙ passes))
