-- The parts of a gathered certificate: its limits, numbers and words.
use Rattle.cofactor_trace.proofs.Prelude.{first_fits, ◌≡◌, ℕ, suc, ℤ, pos, ◌≤◌, int_div, Bool, true, false, cond, IsTrue, List, [], ◌∷◌, ◌++◌, map, length, get_or, nat_lt, Some, None, Ok, sym, ap, subst, ◌∙◌, arith, nat_tests, cond_both, ints, length-map, sum_by-cons, sum_by-append, All-nil, All-cons, All-head, All-tail, All-push, All-map, All-filter, All-weaker, All, IsCoefficient, product_of, first_overflow, gcd_of, Made, LemmaRow, Lemma, LemmaCertificate, lcm_of, common_multiple, multiple_products, unless, IsRecord, is_named, Numbered, needed_from, needed_rules, is_lemma, naming_of, lemma_rules, lemma_records, lemma_row, lemma_of, signed, row_count, letter_count, scale_fault, gathered_of, parts_of, IsRangedLemma, GatheringsFit, LemmasHaveRows, GatheringsAreRanged, WordsAreKept}
use Rattle.cofactor_trace.specs.declared.fault.GatherFault.TheVariants as fault
use Rattle.cofactor_trace.specs.Lemmas.{limit_fault}
use Rattle.cofactor_trace.proofs.Halts.{unless_ok, unmapped-none}
use Rattle.cofactor_trace.proofs.NeededLaws.{records_of}
use Rattle.cofactor_trace.proofs.NamingLaws.{are_records}

module _ (claim : ℕ) (made : List Made) (target : Made) where
  abbrev pub lemmas : List Lemma
  lemmas = map (lemma_of (naming_of made target)) (lemma_records made target)

  abbrev pub goal_of : Lemma
  goal_of = lemma_of (naming_of made target) target

  abbrev pub scales : List ℤ
  scales = map (λ l. l.scale) (lemmas ++ goal_of ∷ [])

  abbrev pub whole : LemmaCertificate
  whole = record { claim = claim; denominator = common_multiple (pos 1) scales; lemmas = lemmas; goal = goal_of }

  pub record Parts (c : LemmaCertificate) : Type 0 where
    pub short : limit_fault (lemmas ++ goal_of ∷ []) ≡ None
    pub fits : scale_fault scales ≡ None
    pub is : whole ≡ c

  pub parts : (c : LemmaCertificate) → gathered_of claim made target ≡ Ok c → Parts c
  parts c ends =
      let first = unless_ok (limit_fault (lemmas ++ goal_of ∷ [])) (unless (scale_fault scales) (Ok whole)) c ends in
      let second = unless_ok (scale_fault scales) (Ok whole) c first.1 in
      let same : whole ≡ c = cc (second.1) in
      record { short = first.0; fits = second.0; is = same }

  -- what holds of each lemma's record and of the target, holds of the certificate in its way
  each_of : (P : Made → Type 0) (Q : Lemma → Type 0) → ((m : Made) → P m → Q (lemma_of (naming_of made target) m)) → (ms : List Made) → All P ms
      → All Q (map (lemma_of (naming_of made target)) ms)
  each_of P Q f ms h = All-map Q (lemma_of (naming_of made target)) ms (All-weaker P (λ m. Q (lemma_of (naming_of made target) m)) f ms h)

  pub each_part : (P : Made → Type 0) (Q : Lemma → Type 0) → ((m : Made) → P m → Q (lemma_of (naming_of made target) m)) → All P (lemma_records made target) → P target
      → All Q (lemmas ++ goal_of ∷ [])
  each_part P Q f h at_target = All-push Q lemmas goal_of (each_of P Q f (lemma_records made target) h) (f target at_target)

  -- and what holds of all records, of the lemmas' records
  pub needed_each : (P : Made → Type 0) (number : ℕ) (ms : List Made) → All P ms → All (λ e. P e.1) (needed_from target number ms)
  needed_each P number [] h = All-nil (λ (e : Numbered). P e.1)
  needed_each P number (m ∷ ms) h =
      let later = needed_each P (suc number) ms (All-tail P m ms h) in
      cond_both (is_named number (target ∷ records_of (needed_from target (suc number) ms))) _ _ (All (λ (e : Numbered). P e.1))
      (λ _. All-cons (λ (e : Numbered). P e.1) (number, m) (needed_from target (suc number) ms) (All-head P m ms h) later) (λ _. later)

  pub lemma_record_each : (P : Made → Type 0) → All P made → All P (lemma_records made target)
  lemma_record_each P h =
      All-map P (λ (e : Numbered). e.1) (lemma_rules made target) (All-filter (λ e. is_lemma e.1) (λ (e : Numbered). P e.1) (needed_rules made target) (needed_each P 1 made h))

-- sizes
within : (rows letters : ℕ) → cond (nat_lt 200000 rows) (Some (fault.Rows false)) (cond (nat_lt 1000000 letters) (Some (fault.Rows true)) None) ≡ None → (rows ≤ 200000) × (letters ≤ 1000000)
within rows letters h = grind (arith, nat_tests)

pub gatherings_fit : GatheringsFit
gatherings_fit claim made target c ends =
    let p = parts claim made target c ends in
    subst (λ (x : LemmaCertificate). (row_count (parts_of x) ≤ 200000) × (letter_count (parts_of x) ≤ 1000000)) p.is
    (within (row_count (parts_of (whole claim made target))) (letter_count (parts_of (whole claim made target))) p.short)

-- lemmas with rows are no more than their rows
no_more : (ls : List Lemma) → All (λ l. 1 ≤ length l.rows) ls → length ls ≤ row_count ls
no_more [] h = omega arith
no_more (l ∷ ls) h =
    let rest = no_more ls (All-tail (λ (m : Lemma). 1 ≤ length m.rows) l ls h) in
    let more = sum_by-cons (λ (x : Lemma). length x.rows) l ls in
    omega (arith, rest, more, All-head (λ (m : Lemma). 1 ≤ length m.rows) l ls h)

pub lemmas_have_rows : LemmasHaveRows
lemmas_have_rows claim made target c rows ends =
    let p = parts claim made target c ends in
    let f = lemma_of (naming_of made target) in
    let each = each_of claim made target (λ m. 1 ≤ length m.rows) (λ l. 1 ≤ length l.rows) (λ m h. subst (λ n. 1 ≤ n) (sym (length-map m.rows (lemma_row (naming_of made target)))) h)
    (lemma_records made target) (lemma_record_each claim made target (λ m. 1 ≤ length m.rows) rows) in
    let few = (gatherings_fit claim made target (whole claim made target) (ends ∙ ap Ok (sym p.is))).0 in
    let all = sum_by-append (λ (x : Lemma). length x.rows) (lemmas claim made target) (goal_of claim made target ∷ []) in
    subst (λ (x : LemmaCertificate). All (λ (l : Lemma). 1 ≤ length l.rows) x.lemmas × (length x.lemmas ≤ 200000)) p.is
    (each, omega (arith, no_more (lemmas claim made target) each, few, all))

-- numbers
multiple_in_range : (x : ℤ) (ys : List ℤ) → IsCoefficient x → first_overflow (multiple_products x ys) ≡ None → IsCoefficient (common_multiple x ys)
multiple_in_range x [] h fits = h
multiple_in_range x (y ∷ ys) h fits =
    let first = first_fits (product_of x (int_div y (gcd_of x y))) (multiple_products (lcm_of x y) ys) fits in
    multiple_in_range (lcm_of x y) ys first.0 first.1

signed_in_range : (negative : Bool) (z : ℤ) → IsCoefficient z → IsCoefficient (signed negative z)
signed_in_range true z h = omega (arith, ints, h)
signed_in_range false z h = h

pub gatherings_are_ranged : GatheringsAreRanged
gatherings_are_ranged claim made target c records is_record ends =
    let p = parts claim made target c ends in
    let naming = naming_of made target in
    subst (λ (x : LemmaCertificate). IsCoefficient x.denominator × All IsRangedLemma (parts_of x)) p.is (
      multiple_in_range (pos 1) (scales claim made target) (omega (arith, ints)) (unmapped-none fault.Overflow (first_overflow (multiple_products (pos 1) (scales claim made target))) p.fits),
      each_part claim made target (IsRecord (length made)) IsRangedLemma
          (λ m h. (h.scale_in, All-map (λ (r : LemmaRow). IsCoefficient r.coef) (lemma_row naming) m.rows (λ k r below. signed_in_range (naming (get_or m.rows k r).from).negative (get_or m.rows k r).coef (h.coefficients_in k r below))))
          (are_records made target records) is_record,
    )

-- words
pub words_are_kept : WordsAreKept
words_are_kept test claim made target c rules at_target ends =
    let p = parts claim made target c ends in
    let naming = naming_of made target in
    subst (λ (x : LemmaCertificate). All (λ (l : Lemma). All (λ r. IsTrue (test r.left) × IsTrue (test r.right)) l.rows) (parts_of x)) p.is
    (each_part claim made target (λ m. All (λ r. IsTrue (test r.left) × IsTrue (test r.right)) m.rows) (λ l. All (λ r. IsTrue (test r.left) × IsTrue (test r.right)) l.rows)
    (λ m h. All-map (λ (r : LemmaRow). IsTrue (test r.left) × IsTrue (test r.right)) (lemma_row naming) m.rows h)
    (lemma_record_each claim made target (λ m. All (λ r. IsTrue (test r.left) × IsTrue (test r.right)) m.rows) rules) at_target)
