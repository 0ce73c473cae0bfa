-- The rows of a certificate, of a lemma or of a goal, one after another: exactly one outcome.
use Rattle.cofactor_checker.proofs.Prelude.{◌≡◌, ◌⊎◌, inl, inr, ℕ, ◌+◌, ◌<◌, ◌≤◌, List, ◌++◌, length, map, take, Option, Some, None, slice_get, refl, sym, subst, ap, ◌∙◌, arith, length-map, slice_get-map, slice_get_within, Overflow, first_overflow, poly_multiple, Row, row_sum, CertRow, CertFrom, Lemma, LemmaRow, row_of, rows_of, IsDecided, decided_by, both_decided, le_decided, HasOneOutcome, PassUpTo, FailsFirst, one_test, value_test, then_test, item_test, tests_up_to, reworded, row_operations, term_count, sum_limit, IsNumberUpTo, RowPasses, RowsPass, Reaches, LacksGenerator, StopsAt, lacks, overflows, outgrows, memory, tell_generator, tell_lacking, plain_row, plain_rows, plain_sum, IsGenerator, IsLemma, LemmaRowsPass, RefusesLemmaRows, IsMemory, ReachesClaim, RefusesGoal, Refusal, option_map}
use Rattle.definitions.specs.Poly.{Poly}
use Rattle.traced_rows.specs.declared.evidence.CertFrom.TheVariants as cert
use Rattle.cofactor_checker.specs.declared.refusal.Refusal.TheVariants as refusal
use Rattle.cofactor_checker.proofs.Differences.{TellsDifference, difference_outcome}

pub memory_decided : (e : Refusal) → IsDecided (IsMemory e)
memory_decided (refusal.Memory failed) = inl tt
memory_decided other = inr (λ none. none)

-- a number is one of so many, or none
pub numbered_or : (count number : ℕ) → IsDecided (IsNumberUpTo count number)
numbered_or count number = decided_by (λ h. record { least = h.0; most = h.1 }) (λ is. (is.least, is.most)) (both_decided (le_decided 1 number) (le_decided number count))

-- Rows over one list of polynomials, numbered in this way. What is told of one that names none of them, its item tells.
module _ (all : List Poly) {X : Type 0} (as_row : X → Row) (tell : ℕ → X → Refusal) (exact : (n : ℕ) (x : X) → IsMemory (tell n x) → ⊥) (numbers : ℕ → ℕ) (items : List X) where
  abbrev rows : List Row
  rows = map as_row items

  abbrev Stops : Refusal → Type 0
  Stops = StopsAt all as_row tell numbers items

  -- the tests of a row
  abbrev HasPlace : Row → Type 0
  HasPlace r = IsNumberUpTo (length all) r.generator

  abbrev Fits : ℕ → Row → Type 0
  Fits i r = first_overflow (row_operations all rows i r) ≡ None

  abbrev IsSmall : ℕ → Type 0
  IsSmall i = term_count (row_sum all (take (i + 1) rows)) ≤ sum_limit

  abbrev TellsOverflow : ℕ → Row → Refusal → Type 0
  TellsOverflow i r e = (o : Overflow) × (e ≡ refusal.Overflow (numbers (i + 1)) o) × (first_overflow (row_operations all rows i r) ≡ Some o)

  abbrev RowFails : ℕ → X → Refusal → Type 0
  RowFails i x e =
      ((e ≡ tell (numbers (i + 1)) x) × (HasPlace (as_row x) → ⊥))
      ⊎ (HasPlace (as_row x) × (TellsOverflow i (as_row x) e ⊎ (Fits i (as_row x) × ((e ≡ refusal.Size (numbers (i + 1))) × (IsSmall i → ⊥)))))

  row_outcome : (i : ℕ) (x : X) → HasOneOutcome IsMemory (HasPlace (as_row x) × (Fits i (as_row x) × IsSmall i)) (RowFails i x)
  row_outcome i x =
      then_test (one_test (tell (numbers (i + 1)) x) (exact (numbers (i + 1)) x) (numbered_or (length all) (as_row x).generator))
      (λ place. then_test (value_test (refusal.Overflow (numbers (i + 1))) (λ o none. none) (first_overflow (row_operations all rows i (as_row x))))
      (λ fits. one_test (refusal.Size (numbers (i + 1))) (λ none. none) (le_decided (term_count (row_sum all (take (i + 1) rows))) sum_limit)))

  -- one after another
  abbrev PassesAt : ℕ → Type 0
  PassesAt i = (x : X) → slice_get items i ≡ Some x → HasPlace (as_row x) × (Fits i (as_row x) × IsSmall i)

  abbrev FailsAt : ℕ → Refusal → Type 0
  FailsAt i e = (x : X) × (slice_get items i ≡ Some x) × RowFails i x e

  as_item : (i : ℕ) (x : X) → slice_get items i ≡ Some x → slice_get rows i ≡ Some (as_row x)
  as_item i x there = slice_get-map as_row items i ∙ ap (option_map as_row) there

  item_of : (i : ℕ) (r : Row) → slice_get rows i ≡ Some r → (x : X) × (slice_get items i ≡ Some x) × (as_row x ≡ r)
  item_of i r there = by (slice_get items i) refl
    where
      by : (o : Option X) → slice_get items i ≡ o → (x : X) × (slice_get items i ≡ Some x) × (as_row x ≡ r)
      by None none = let both : (let o : Option Row = None in o) ≡ Some r = sym (slice_get-map as_row items i ∙ ap (option_map as_row) none) ∙ there in absurd cc
      by (Some x) is = let both : Some (as_row x) ≡ Some r = sym (as_item i x is) ∙ there in (x, is, cc)

  passed : (n : ℕ) → PassUpTo PassesAt n → RowsPass all rows n
  passed n pass = record { at = λ i r below there. go i r below (item_of i r there) }
    where
      go : (i : ℕ) (r : Row) → i < n → ((x : X) × (slice_get items i ≡ Some x) × (as_row x ≡ r)) → RowPasses all rows i r
      go i r below (x, there, is) = let h = pass.at i below x there in subst (RowPasses all rows i) is (record { generator = h.0; operations = h.1.0; size = h.1.1 })

  pass_here : (n : ℕ) → RowsPass all rows n → PassUpTo PassesAt n
  pass_here n pass = record { at = λ i below x there. let h = pass.at i (as_row x) below (as_item i x there) in (h.generator, (h.operations, h.size)) }

  stops_at : (e : Refusal) → FailsFirst PassesAt FailsAt (length items) e → Stops e
  stops_at e h = by h.fails.2
    where
      x : X
      x = h.fails.0

      reached : Reaches all rows (h.number + 1) h.number (as_row x)
      reached = record { numbered = refl; row = as_item h.number x h.fails.1; earlier = passed h.number h.earlier }

      by : RowFails h.number x e → Stops e
      by (inl (is, none)) = lacks (h.number + 1) x is (record { before = h.number; row = as_row x; reached = reached; generator = none }) h.fails.1
      by (inr (place, inl (o, is, first))) = overflows (h.number + 1) o is (record { before = h.number; row = as_row x; reached = reached; generator = place; operations = first })
      by (inr (place, inr (fits, (is, large)))) =
          outgrows (h.number + 1) is (record { before = h.number; row = as_row x; reached = reached; generator = place; operations = fits; size = omega (arith, large) })

  stopped : (n i : ℕ) (r : Row) (e : Refusal) → Reaches all rows n i r → ((x : X) → slice_get items i ≡ Some x → as_row x ≡ r → n ≡ i + 1 → RowFails i x e) → FailsFirst PassesAt FailsAt (length items) e
  stopped n i r e reached fails = by (item_of i r reached.row)
    where
      by : ((x : X) × (slice_get items i ≡ Some x) × (as_row x ≡ r)) → FailsFirst PassesAt FailsAt (length items) e
      by (x, there, is) = record { number = i; inside = slice_get_within items i x there; earlier = pass_here i reached.earlier; fails = (x, there, fails x there is reached.numbered) }

  fails_first : (e : Refusal) → Stops e → (IsMemory e → ⊥) → FailsFirst PassesAt FailsAt (length items) e
  fails_first e (memory free) not = absurd (not free)
  fails_first e (lacks n x is h there) not =
      stopped n h.before h.row e h.reached
      (λ y at same numbered. let one : x ≡ y = one_item h.before x y there at in
      inl (is ∙ (λ i. tell (numbers (numbered i)) (one i)), λ place. h.generator (subst HasPlace same place)))
    where
      one_item : (i : ℕ) (x y : X) → slice_get items i ≡ Some x → slice_get items i ≡ Some y → x ≡ y
      one_item i x y one other = cc
  fails_first e (overflows n o is h) not =
      stopped n h.before h.row e h.reached
      (λ y at same numbered. inr (subst HasPlace (sym same) h.generator, inl (o, is ∙ ap (λ k. refusal.Overflow (numbers k) o) numbered, ap (λ r. first_overflow (row_operations all rows h.before r)) same ∙ h.operations)))
  fails_first e (outgrows n is h) not =
      stopped n h.before h.row e h.reached
      (λ y at same numbered. inr (subst HasPlace (sym same) h.generator, inr (ap (λ r. first_overflow (row_operations all rows h.before r)) same ∙ h.operations, (is ∙ ap (λ k. refusal.Size (numbers k)) numbered, λ small. let large = h.size in omega (arith, small, large)))))

  pub rows_outcome : HasOneOutcome IsMemory (RowsPass all rows (length rows)) Stops
  rows_outcome =
      reworded memory_decided (λ pass. passed (length rows) (subst (PassUpTo PassesAt) (sym (length-map items as_row)) pass)) (λ pass. subst (PassUpTo PassesAt) (length-map items as_row) (pass_here (length rows) pass))
      (λ e h not. stops_at e h) fails_first
      (tests_up_to PassesAt FailsAt (length items) (λ i inside earlier. item_test items i inside (λ x there. row_outcome i x)))

-- the rows of a certificate
module _ (generators : List Poly) (rows : List CertRow) where
  -- none stand before
  pub from_start : (e : Refusal) → StopsAt generators row_of tell_generator (λ n. 0 + n) rows e → StopsAt generators row_of tell_generator (λ n. n) rows e
  from_start e = subst (λ f. StopsAt generators row_of tell_generator f rows e) (λ i n. add_idl n i)
    where
      add_idl : (n : ℕ) → 0 + n ≡ n
      add_idl n = omega arith

  pub stops_lacking : (n : ℕ) → LacksGenerator generators (rows_of rows) n → StopsAt generators row_of tell_generator (λ n. n) rows (refusal.NoSuchGenerator n)
  stops_lacking n h = let item = item_of generators row_of tell_generator (λ n row none. none) (λ n. n) rows h.before h.row h.reached.row in lacks n item.0 refl h item.1

  pub certificate_rows : HasOneOutcome IsMemory (RowsPass generators (rows_of rows) (length (rows_of rows))) (StopsAt generators row_of tell_generator (λ n. n) rows)
  certificate_rows = rows_outcome generators row_of tell_generator (λ n row none. none) (λ n. n) rows

-- the rows of a lemma or of the goal
no_memory : (from : CertFrom) (n : ℕ) → IsMemory (tell_lacking from n) → ⊥
no_memory (cert.Generator n) row none = none
no_memory (cert.Lemma n) row none = none

lacking_generator : (from : CertFrom) → IsGenerator from → (k m : ℕ) → k ≡ m → refusal.NoSuchGenerator k ≡ tell_lacking from m
lacking_generator (cert.Generator n) kind k m same = ap refusal.NoSuchGenerator same
lacking_generator (cert.Lemma n) kind k m same = absurd kind

lacking_lemma : (from : CertFrom) → IsLemma from → (k m : ℕ) → k ≡ m → refusal.NoSuchLemma k ≡ tell_lacking from m
lacking_lemma (cert.Generator n) kind k m same = absurd kind
lacking_lemma (cert.Lemma n) kind k m same = ap refusal.NoSuchLemma same

module _ (gs ls : List Poly) (before : ℕ) (rows : List LemmaRow) where
  abbrev plain : LemmaRow → Row
  plain = plain_row (length gs) (length ls)

  abbrev tell_item : ℕ → LemmaRow → Refusal
  tell_item n row = tell_lacking row.from n

  abbrev StopsLemma : Refusal → Type 0
  StopsLemma = StopsAt (gs ++ ls) plain tell_item (λ n. before + n) rows

  told_lacking : (n : ℕ) (row : LemmaRow) (h : LacksGenerator (gs ++ ls) (plain_rows gs ls rows) n) → slice_get rows h.before ≡ Some row → (from : CertFrom) → row.from ≡ from
      → RefusesLemmaRows gs ls before rows (tell_lacking from (before + n))
  told_lacking n row h there (cert.Generator k) is = record { in_lemma = n; counted = refl; lacks = h; row = row; there = there; named = subst IsGenerator (sym is) tt }
  told_lacking n row h there (cert.Lemma k) is = record { in_lemma = n; counted = refl; lacks = h; row = row; there = there; named = subst IsLemma (sym is) tt }

  pub told_of_lemma : (e : Refusal) → StopsLemma e → RefusesLemmaRows gs ls before rows e
  told_of_lemma e (lacks n row is h there) = subst (RefusesLemmaRows gs ls before rows) (sym is) (told_lacking n row h there row.from refl)
  told_of_lemma e (overflows n o is h) = subst (RefusesLemmaRows gs ls before rows) (sym is) (record { in_lemma = n; counted = refl; overflows = h })
  told_of_lemma e (outgrows n is h) = subst (RefusesLemmaRows gs ls before rows) (sym is) (record { in_lemma = n; counted = refl; outgrows = h })
  told_of_lemma (refusal.Memory failed) (memory free) = tt
  told_of_lemma other (memory free) = absurd free

  stops_lemma : (e : Refusal) → RefusesLemmaRows gs ls before rows e → (IsMemory e → ⊥) → StopsLemma e
  stops_lemma (refusal.NoSuchGenerator n) h not = lacks h.in_lemma h.row (lacking_generator h.row.from h.named n (before + h.in_lemma) h.counted) h.lacks h.there
  stops_lemma (refusal.NoSuchLemma n) h not = lacks h.in_lemma h.row (lacking_lemma h.row.from h.named n (before + h.in_lemma) h.counted) h.lacks h.there
  stops_lemma (refusal.Overflow n o) h not = overflows h.in_lemma o (ap (λ k. refusal.Overflow k o) h.counted) h.overflows
  stops_lemma (refusal.Size n) h not = outgrows h.in_lemma (ap refusal.Size h.counted) h.outgrows
  stops_lemma (refusal.Memory failed) h not = absurd (not tt)
  stops_lemma other h not = absurd h

  pub lemma_rows : HasOneOutcome IsMemory (LemmaRowsPass gs ls rows) (RefusesLemmaRows gs ls before rows)
  lemma_rows = reworded memory_decided (λ pass. pass) (λ pass. pass) (λ e h not. told_of_lemma e h) stops_lemma (rows_outcome (gs ++ ls) plain tell_item (λ n row. no_memory row.from n) (λ n. before + n) rows)

-- the goal
module _ (gs ls : List Poly) (before : ℕ) (goal : Lemma) (claim : Poly) where
  abbrev TellsGoal : Refusal → Type 0
  TellsGoal e = RefusesLemmaRows gs ls before goal.rows e ⊎ (LemmaRowsPass gs ls goal.rows × TellsDifference (poly_multiple goal.scale claim) (plain_sum gs ls goal.rows) e)

  goal_told : (e : Refusal) → TellsGoal e → RefusesGoal gs ls before goal claim e
  goal_told (refusal.Differs word want got) (inl h) = absurd h
  goal_told other (inl h) = h
  goal_told e (inr (pass, d)) = subst (RefusesGoal gs ls before goal claim) (sym d.is) (record { rows = pass; difference = d.least })

  goal_tells : (e : Refusal) → RefusesGoal gs ls before goal claim e → TellsGoal e
  goal_tells (refusal.Differs word want got) h = inr (h.rows, record { word = word; want = want; got = got; is = refl; least = h.difference })
  goal_tells other h = inl h

  pub goal_outcome : HasOneOutcome IsMemory (ReachesClaim gs ls goal claim) (RefusesGoal gs ls before goal claim)
  goal_outcome =
      reworded memory_decided (λ h. record { rows = h.0; sum = h.1 }) (λ h. (h.rows, h.sum)) (λ e h not. goal_told e h) (λ e h not. goal_tells e h)
      (then_test (lemma_rows gs ls before goal.rows) (λ pass. difference_outcome (poly_multiple goal.scale claim) (plain_sum gs ls goal.rows)))
