-- Words that are the same, and tables of words.
use Rattle.std.proofs.Common.{◌≡◌, ℕ, ℤ, pos, ◌+ℤ◌, Bool, true, false, cond, ◌&&◌, List, [], ◌∷◌, Some, unwrap_or, refl, sym, ap, ◌∙◌, arith}
use Rattle.std.proofs.lemmas.Bool.{and_parts, and_from}
use Rattle.std.proofs.lemmas.Bool.Decides.{Decides-int_eq}
use Rattle.std.proofs.lemmas.Int.{ints}
use Rattle.std.specs.BTreeMap.{BTreeMap, get}
use Rattle.std.specs.Bool.{Decides}
use Rattle.std.specs.Cmp.{both_ways, Equal-is}
use Rattle.std.specs.Ordering.{is_eq, int_eq}
use Rattle.definitions.proofs.Linear.{word_eq-same, word_eq-true}
use Rattle.definitions.specs.Poly.{Term, word_eq, coefficient_of}
use Rattle.word_core.proofs.Order.{word_cmp-same, word_cmp-itself}
use Rattle.word_core.specs.Canonical.{word_cmp}
use Rattle.nc_polynomial.specs.Collected.{coefficient_in}

pub word_eq-cmp : (v w : List ℕ) → word_eq v w ≡ is_eq (word_cmp v w)
word_eq-cmp v w = both_ways (word_eq v w) (is_eq (word_cmp v w))
    (λ same. ap (λ x. is_eq (word_cmp v x)) (sym (word_eq-true v w same)) ∙ ap is_eq (word_cmp-itself v))
    (λ equal. ap (word_eq v) (sym (word_cmp-same v w ((Equal-is (word_cmp v w)).0 equal))) ∙ word_eq-same v)

pub word_eq-turned : (v w : List ℕ) → word_eq v w ≡ word_eq w v
word_eq-turned v w = both_ways (word_eq v w) (word_eq w v)
    (λ same. ap (word_eq w) (word_eq-true v w same) ∙ word_eq-same w)
    (λ same. ap (word_eq v) (word_eq-true w v same) ∙ word_eq-same v)

-- the test of two terms
pub term_eq-Decides : (s t : Term) → Decides (int_eq s.0 t.0 && is_eq (word_cmp s.1 t.1)) (s ≡ t)
term_eq-Decides s t = (same, back)
  where
    same : int_eq s.0 t.0 && is_eq (word_cmp s.1 t.1) ≡ true → s ≡ t
    same e =
        let parts = and_parts (int_eq s.0 t.0) (is_eq (word_cmp s.1 t.1)) e in
        let numbers : s.0 ≡ t.0 = (Decides-int_eq s.0 t.0).0 parts.0 in
        let words : s.1 ≡ t.1 = word_cmp-same s.1 t.1 ((Equal-is (word_cmp s.1 t.1)).0 parts.1) in
        λ i. (numbers i, words i)

    back : s ≡ t → int_eq s.0 t.0 && is_eq (word_cmp s.1 t.1) ≡ true
    back e =
        and_from (int_eq s.0 t.0) (is_eq (word_cmp s.1 t.1)) ((Decides-int_eq s.0 t.0).1 (ap (λ (x : Term). x.0) e))
        (ap is_eq (ap (λ (x : Term). word_cmp s.1 x.1) (sym e) ∙ word_cmp-itself s.1))

-- a table in which the coefficient of one word is written
pub coefficient_in-written : (table new : BTreeMap (List ℕ) ℤ) (k : List ℕ) (c total : ℤ) → ((w : List ℕ) → get word_cmp new w ≡ cond (is_eq (word_cmp k w)) (Some total) (get word_cmp table w))
    → total ≡ coefficient_in table k +ℤ c → (w : List ℕ) → coefficient_in new w ≡ coefficient_of ((c, k) ∷ []) w +ℤ coefficient_in table w
coefficient_in-written table new k c total written total_is w =
    ap (λ o. unwrap_or o (pos 0)) (written w) ∙ go (is_eq (word_cmp k w)) refl ∙ ap (λ b. (cond b c (pos 0) +ℤ pos 0) +ℤ coefficient_in table w) (sym (word_eq-cmp k w))
  where
    go : (b : Bool) → is_eq (word_cmp k w) ≡ b → unwrap_or (cond b (Some total) (get word_cmp table w)) (pos 0) ≡ (cond b c (pos 0) +ℤ pos 0) +ℤ coefficient_in table w
    go true e =
        let here : coefficient_in table k ≡ coefficient_in table w = ap (coefficient_in table) (word_cmp-same k w ((Equal-is (word_cmp k w)).0 e)) in
        omega (arith, ints)
    go false e = omega (arith, ints)
