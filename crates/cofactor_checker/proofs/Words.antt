-- the test of words is that of their order, so it has its laws; words letter by letter
use Rattle.cofactor_checker.proofs.Prelude.{◌≡◌, ◌≢◌, ℕ, ◌≤◌, List, length, take, get_or, Bool, true, false, sym, ap, subst, ◌∙◌, arith, IsEquivalence, eq_by_cmp, eq_by_cmp_equiv, false_from_ne_true, take_all, word_cmp, word_cmp_total, word_eq, word_eq-same, word_eq-true, word_eq-cmp}

pub by_word_cmp : ◌≡◌ {A = List ℕ → List ℕ → Bool} (eq_by_cmp word_cmp) word_eq
by_word_cmp = λ i v w. sym (word_eq-cmp v w) i

pub word_eq_equivalence : IsEquivalence word_eq
word_eq_equivalence = subst IsEquivalence by_word_cmp (eq_by_cmp_equiv word_cmp_total)

-- words of two lengths are apart
pub apart_by_length : (v w : List ℕ) → length v ≢ length w → word_eq v w ≡ false
apart_by_length v w differ = false_from_ne_true (word_eq v w) (λ same. differ (ap length (word_eq-true v w same)))

-- and so are words with two letters at one place
pub apart_by_letter : (v w : List ℕ) (i : ℕ) → get_or v i 0 ≢ get_or w i 0 → word_eq v w ≡ false
apart_by_letter v w i differ = false_from_ne_true (word_eq v w) (λ same. differ (ap (λ u. get_or u i 0) (word_eq-true v w same)))

-- words that agree up to their ends are the same
pub same_by_letters : (v w : List ℕ) (i : ℕ) → take i v ≡ take i w → length v ≤ i → length v ≡ length w → word_eq v w ≡ true
same_by_letters v w i agree all lengths =
    let is : v ≡ w = sym (take_all i v all) ∙ agree ∙ take_all i w (omega arith) in
    ap (word_eq v) (sym is) ∙ word_eq-same v
