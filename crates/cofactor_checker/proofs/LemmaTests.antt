-- Lemmas, one after another: exactly one outcome.
use Rattle.cofactor_checker.proofs.Prelude.{◌≡◌, ◌⊎◌, inl, inr, ℕ, zero, suc, ◌+◌, ◌≤◌, ◌%◌, nat_eq, nat_lt, ℤ, pos, negsuc, ◌≤ℤ◌, ◌<ℤ◌, List, [], ◌∷◌, ◌++◌, length, Bool, true, false, cond, Result, Ok, Err, refl, sym, subst, ap, ◌∙◌, arith, ◌∣◌, unsigned_abs, ints, All-nil, All-cons, SizeFault, PolyFault, collected, DividesEach, sized, size_fault, has_long_word, Lemma, IsDecided, le_decided, HasOneOutcome, no_test, one_test, then_test, reworded, plain_sum, LemmaRowsPass, lemma_polynomial, term_total, kept_limit, LemmaPasses, LemmasPass, RefusesLemmaRows, IsLeastIndivisible, RefusesLemma, RefusesLemmas, IsMemory, Refusal}
use Rattle.definitions.specs.Poly.{Poly}
use Rattle.nc_polynomial.specs.declared.fault.PolyFault.TheVariants as fault
use Rattle.cofactor_checker.specs.declared.refusal.Refusal.TheVariants as refusal
use Rattle.cofactor_checker.proofs.Each.{divides_tells, clash}
use Rattle.cofactor_checker.proofs.RowTests.{memory_decided, lemma_rows}

pub divides_or : (s z : ℤ) → IsDecided (unsigned_abs s ∣ unsigned_abs z)
divides_or s z = by (nat_eq (unsigned_abs z % unsigned_abs s) 0) refl
  where
    by : (b : Bool) → nat_eq (unsigned_abs z % unsigned_abs s) 0 ≡ b → IsDecided (unsigned_abs s ∣ unsigned_abs z)
    by true is = inl ((divides_tells (unsigned_abs s) (unsigned_abs z)).0 is)
    by false is = inr (λ divides. clash _ ((divides_tells (unsigned_abs s) (unsigned_abs z)).1 divides) is)

pub positive_or : (z : ℤ) → IsDecided (pos 1 ≤ℤ z)
positive_or (pos zero) = inr (λ least. omega (arith, ints, least))
positive_or (pos (suc n)) = inl (omega (arith, ints))
positive_or (negsuc n) = inr (λ least. omega (arith, ints, least))

pub below_one : (z : ℤ) → (pos 1 ≤ℤ z → ⊥) → z <ℤ pos 1
below_one (pos zero) none = omega (arith, ints)
below_one (pos (suc n)) none = absurd (none (omega (arith, ints)))
below_one (negsuc n) none = omega (arith, ints)

-- the scale divides each coefficient, or there is a last one that it doesn't divide
divisible_or : (s : ℤ) (p : Poly) → DividesEach (unsigned_abs s) p ⊎ ((word : List ℕ) × (got : ℤ) × IsLeastIndivisible s p word got)
divisible_or s [] = inl (All-nil (λ (t : ℤ × List ℕ). unsigned_abs s ∣ unsigned_abs t.0))
divisible_or s (t ∷ p) = by (divisible_or s p) (divides_or s t.0)
  where
    by : DividesEach (unsigned_abs s) p ⊎ ((word : List ℕ) × (got : ℤ) × IsLeastIndivisible s p word got) → IsDecided (unsigned_abs s ∣ unsigned_abs t.0)
        → DividesEach (unsigned_abs s) (t ∷ p) ⊎ ((word : List ℕ) × (got : ℤ) × IsLeastIndivisible s (t ∷ p) word got)
    by (inr found) test = inr (found.0, found.1, inl found.2)
    by (inl each) (inl divides) = inl (All-cons (λ (u : ℤ × List ℕ). unsigned_abs s ∣ unsigned_abs u.0) t p divides each)
    by (inl each) (inr lacks) = inr (t.1, t.0, inr (each, (lacks, refl)))

-- where the scale divides all, it leaves no rest
pub no_rest : (s : ℤ) (p : Poly) (word : List ℕ) (got : ℤ) → DividesEach (unsigned_abs s) p → IsLeastIndivisible s p word got → ⊥
no_rest s [] word got each found = found
no_rest s (t ∷ p) word got each (inl later) = no_rest s p word got (λ k d below. each (suc k) d (omega arith)) later
no_rest s (t ∷ p) word got each (inr here) = here.1.0 (each 0 t (omega arith))

least_once : (s : ℤ) (p : Poly) (word word' : List ℕ) (got got' : ℤ) → IsLeastIndivisible s p word got → IsLeastIndivisible s p word' got' → ◌≡◌ {A = ℤ × List ℕ} (got, word) (got', word')
least_once s [] word word' got got' h k = absurd h
least_once s (t ∷ p) word word' got got' (inl h) (inl k) = least_once s p word word' got got' h k
least_once s (t ∷ p) word word' got got' (inl h) (inr k) = absurd (no_rest s p word got k.0 h)
least_once s (t ∷ p) word word' got got' (inr h) (inl k) = absurd (no_rest s p word' got' h.0 k)
least_once s (t ∷ p) word word' got got' (inr h) (inr k) = sym h.1.1 ∙ k.1.1

record TellsRest (number : ℕ) (s : ℤ) (p : Poly) (e : Refusal) : Type 0 where
  word : List ℕ
  got : ℤ
  is : e ≡ refusal.NotDivisible number word got
  least : IsLeastIndivisible s p word got

rest_outcome : (number : ℕ) (s : ℤ) (p : Poly) → HasOneOutcome IsMemory (DividesEach (unsigned_abs s) p) (TellsRest number s p)
rest_outcome number s p = record {
  judged = by (divisible_or s p);
  not_refused = λ each e h. absurd (no_rest s p h.word h.got each h.least);
  unique = λ e f h k not not'. h.is ∙ ap (λ (t : ℤ × List ℕ). refusal.NotDivisible number t.1 t.0) (least_once s p h.word k.word h.got k.got h.least k.least) ∙ sym k.is;
}
  where
    by : DividesEach (unsigned_abs s) p ⊎ ((word : List ℕ) × (got : ℤ) × IsLeastIndivisible s p word got) → DividesEach (unsigned_abs s) p ⊎ ((e : Refusal) × TellsRest number s p e × (IsMemory e → ⊥))
    by (inl each) = inl each
    by (inr found) = inr (refusal.NotDivisible number found.0 found.1, record { word = found.0; got = found.1; is = refl; least = found.2 }, λ none. none)

-- a polynomial has its size, or is too large
sized_or : (p : Poly) → (sized p ≡ Ok p) ⊎ ((limit : SizeFault) × (sized p ≡ Err (fault.Size limit)))
sized_or p = by (has_long_word p) (nat_lt 20000 (length p))
  where
    by : (a b : Bool) → ◌≡◌ {A = Result (List (ℤ × List ℕ)) PolyFault} (cond a (Err (size_fault true)) (cond b (Err (size_fault false)) (Ok p))) (Ok p)
        ⊎ ((limit : SizeFault) × ◌≡◌ {A = Result (List (ℤ × List ℕ)) PolyFault} (cond a (Err (size_fault true)) (cond b (Err (size_fault false)) (Ok p))) (Err (fault.Size limit)))
    by true b = inr (record { letters = true }, refl)
    by false true = inr (record { letters = false }, refl)
    by false false = inl refl

is_sized_decided : (p : Poly) → IsDecided (sized p ≡ Ok p)
is_sized_decided p = by (sized_or p)
  where
    by : (sized p ≡ Ok p) ⊎ ((limit : SizeFault) × (sized p ≡ Err (fault.Size limit))) → IsDecided (sized p ≡ Ok p)
    by (inl fits) = inl fits
    by (inr large) = inr (λ fits. let is = large.1 in (cc))

module _ (gs : List Poly) where
  module _ (ps : List Poly) (before : ℕ) (l : Lemma) where
    abbrev sum : Poly
    sum = collected (plain_sum gs ps l.rows)

    abbrev IsKept : Type 0
    IsKept = term_total ps + length (lemma_polynomial gs ps l) ≤ kept_limit

    abbrev TellsLemma : Refusal → Type 0
    TellsLemma e =
        RefusesLemmaRows gs ps before l.rows e
        ⊎ (LemmaRowsPass gs ps l.rows × (TellsRest (length ps + 1) l.scale sum e
        ⊎ (DividesEach (unsigned_abs l.scale) sum × (((e ≡ refusal.LemmaSize (length ps + 1)) × (sized sum ≡ Ok sum → ⊥))
        ⊎ ((sized sum ≡ Ok sum) × ((e ≡ refusal.Kept (before + length l.rows)) × (IsKept → ⊥)))))))

    pub rows_told : (e : Refusal) → RefusesLemmaRows gs ps before l.rows e → RefusesLemma gs ps before l e
    rows_told (refusal.NoSuchGenerator row) h = h
    rows_told (refusal.NoSuchLemma row) h = h
    rows_told (refusal.Overflow row o) h = h
    rows_told (refusal.Size row) h = h
    rows_told (refusal.Memory failed) h = tt
    rows_told other h = absurd h

    told : (e : Refusal) → TellsLemma e → RefusesLemma gs ps before l e
    told e (inl h) = rows_told e h
    told e (inr (rows, inl h)) = subst (RefusesLemma gs ps before l) (sym h.is) (record { numbered = refl; rows = rows; least = record { least = h.least } })
    told e (inr (rows, inr (each, inl (is, large)))) = subst (RefusesLemma gs ps before l) (sym is) (by (sized_or sum))
      where
        by : (sized sum ≡ Ok sum) ⊎ ((limit : SizeFault) × (sized sum ≡ Err (fault.Size limit))) → RefusesLemma gs ps before l (refusal.LemmaSize (length ps + 1))
        by (inl fits) = absurd (large fits)
        by (inr (limit, size)) = record { numbered = refl; rows = rows; divisible = record { each = each }; limit = limit; size = size }
    told e (inr (rows, inr (each, inr (fits, (is, more))))) =
        subst (RefusesLemma gs ps before l) (sym is) (record { last_row = refl; made = record { rows = rows; divisible = record { each = each }; size = fits }; kept = omega (arith, more) })

    tells : (e : Refusal) → RefusesLemma gs ps before l e → (IsMemory e → ⊥) → TellsLemma e
    tells (refusal.NoSuchGenerator row) h not = inl h
    tells (refusal.NoSuchLemma row) h not = inl h
    tells (refusal.Overflow row o) h not = inl h
    tells (refusal.Size row) h not = inl h
    tells (refusal.NotDivisible lemma word got) h not = inr (h.rows, inl (record { word = word; got = got; is = ap (λ n. refusal.NotDivisible n word got) h.numbered; least = h.least.least }))
    tells (refusal.LemmaSize lemma) h not = inr (h.rows, inr (h.divisible.each, inl (ap refusal.LemmaSize h.numbered, λ fits. let large = h.size in (cc))))
    tells (refusal.Kept row) h not = inr (h.made.rows, inr (h.made.divisible.each, inr (h.made.size, (ap refusal.Kept h.last_row, λ small. let large = h.kept in omega (arith, small, large)))))
    tells (refusal.Memory failed) h not = absurd (not tt)
    tells other h not = absurd h

    pub lemma_outcome : HasOneOutcome IsMemory (LemmaPasses gs ps l) (RefusesLemma gs ps before l)
    lemma_outcome =
        reworded memory_decided (λ h. record { made = record { rows = h.0; divisible = record { each = h.1.0 }; size = h.1.1.0 }; kept = h.1.1.1 }) (λ h. (h.made.rows, (h.made.divisible.each, (h.made.size, h.kept)))) (λ e h not. told e h) tells
        (then_test (lemma_rows gs ps before l.rows)
        (λ rows. then_test (rest_outcome (length ps + 1) l.scale sum)
        (λ each. then_test (one_test (refusal.LemmaSize (length ps + 1)) (λ none. none) (is_sized_decided sum))
        (λ fits. one_test (refusal.Kept (before + length l.rows)) (λ none. none) (le_decided (term_total ps + length (lemma_polynomial gs ps l)) kept_limit)))))

  pub lemmas_outcome : (ps : List Poly) (before : ℕ) (lemmas : List Lemma) → HasOneOutcome IsMemory (LemmasPass gs ps lemmas) (RefusesLemmas gs ps before lemmas)
  lemmas_outcome ps before [] = no_test
  lemmas_outcome ps before (l ∷ lemmas) = then_test (lemma_outcome ps before l) (λ passes. lemmas_outcome (ps ++ lemma_polynomial gs ps l ∷ []) (before + length l.rows) lemmas)
