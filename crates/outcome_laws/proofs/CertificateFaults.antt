-- Why no certificate is made of records.
use Rattle.outcome_laws.proofs.Prelude.{◌≡◌, ◌<◌, ◌⊎◌, inl, inr, ℕ, suc, pos, Bool, true, false, cond, ◌||◌, List, [], ◌∷◌, ◌++◌, map, length, nat_lt, Option, Some, None, Result, Ok, Err, refl, ◌∙◌, arith, Any, Contains, insert_entry, nat_cmp, option_map, nat_tests, Contains-append_cases, Overflow, IsCoefficient, exact_value, first_overflow, word_limit, Made, CertRow, Cofactors, Lemma, LemmaCertificate, ExpandFault, GatherFault, row_limit, letter_limit, common_denominator, denominator_products, joined_products, limit_fault, unless, overflow_in, multiple_products, record_expansion, sums_of_gathering, Numbered, Expansions, needed_rules, known_from, expansion_from, expansion_of, row_count, scale_fault, gathered_of, HasTurn, Turn, joined_at, lemmas_and_goal, IsOfCertificate, of_denominator, of_rows, of_sums, of_scales, HasLongRow, PassesLimit, HasManyRows, of_expansion, of_lemmas}
use Rattle.cofactor_trace.specs.declared.fault.ExpandFault.TheVariants as expand
use Rattle.cofactor_trace.specs.declared.fault.GatherFault.TheVariants as gather
use Rattle.cofactor_trace.specs.Expansion.{has_long_word, letter_count}
use Rattle.cofactor_trace.specs.Needed.{and_then}
use Rattle.cofactor_trace.specs.Lemmas as lemmas
use Rattle.outcome_laws.proofs.Listed.{failing}

-- a fault, or none, and then what comes
pub unless_stops : {A F : Type 0} (first : Option F) (r : Result A F) (e : F) → unless first r ≡ Err e → (first ≡ Some e) ⊎ ((first ≡ None) × (r ≡ Err e))
unless_stops None r e ends = inr (refl, ends)
unless_stops {A} {F} (Some d) r e ends = inl (cc)

-- an operation that overflows, as a fault
pub operation_stops : {F : Type 0} (as_fault : Overflow → F) (os : List Overflow) (e : F) → option_map as_fault (first_overflow os) ≡ Some e → (o : Overflow) × (e ≡ as_fault o) × (first_overflow os ≡ Some o)
operation_stops {F} as_fault os e ends = go (first_overflow os) refl ends
  where
    go : (first : Option Overflow) → first_overflow os ≡ first → option_map as_fault first ≡ Some e → (o : Overflow) × (e ≡ as_fault o) × (first_overflow os ≡ Some o)
    go None is k = absurd (cc)
    go (Some o) is k = (o, (cc), is)

-- rows with a long word
long_row : (rows : List CertRow) → has_long_word rows ≡ true → Any (λ r. (word_limit < length r.left) ⊎ (word_limit < length r.right)) rows
long_row [] e = absurd (cc)
long_row (r ∷ rows) e = go (nat_lt word_limit (length r.left)) refl (nat_lt word_limit (length r.right)) refl e (long_row rows)
  where
    go : (left : Bool) → nat_lt word_limit (length r.left) ≡ left → (right : Bool) → nat_lt word_limit (length r.right) ≡ right → ((left || right) || has_long_word rows) ≡ true
        → (has_long_word rows ≡ true → Any (λ s. (word_limit < length s.left) ⊎ (word_limit < length s.right)) rows) → Any (λ s. (word_limit < length s.left) ⊎ (word_limit < length s.right)) (r ∷ rows)
    go true is right of k later = (0, r, omega arith, refl, inl (grind (arith, nat_tests)))
    go false is true of k later = (0, r, omega arith, refl, inr (grind (arith, nat_tests)))
    go false is false of k later = let at = later k in (suc at.0, at.1, omega (arith, at.2), at.3, at.4)

-- the first limit that rows pass
pub data LimitPassed (rows : List CertRow) (e : ExpandFault) : Type 0 where
  long : e ≡ expand.Size → Any (λ r. (word_limit < length r.left) ⊎ (word_limit < length r.right)) rows → LimitPassed rows e
  many : (letters : Bool) → e ≡ expand.Rows letters → PassesLimit letters (length rows) (letter_count rows) → LimitPassed rows e

limit_passed : (rows : List CertRow) (e : ExpandFault) → limit_fault rows ≡ Some e → LimitPassed rows e
limit_passed rows e ends = go (has_long_word rows) refl (nat_lt row_limit (length rows)) refl (nat_lt letter_limit (letter_count rows)) refl ends
  where
    go : (a : Bool) → has_long_word rows ≡ a → (b : Bool) → nat_lt row_limit (length rows) ≡ b → (c : Bool) → nat_lt letter_limit (letter_count rows) ≡ c
        → cond a (Some expand.Size) (cond b (Some (expand.Rows false)) (cond c (Some (expand.Rows true)) None)) ≡ Some e → LimitPassed rows e
    go true is b of c at k = long (cc) (long_row rows is)
    go false is true of c at k = many false (cc) (grind (arith, nat_tests))
    go false is false of true at k = many true (cc) (grind (arith, nat_tests))
    go false is false of false at k = absurd (cc)

-- What stops an expansion.
pub data ExpansionStops (made : List Made) (target : Made) (e : ExpandFault) : Type 0 where
  expansion_overflows : (o : Overflow) → e ≡ expand.Overflow o → (IsCoefficient (exact_value o) → ⊥) → IsOfCertificate made target o → ExpansionStops made target e
  row_too_long : e ≡ expand.Size → HasLongRow made target → ExpansionStops made target e
  too_many_rows : (letters : Bool) → e ≡ expand.Rows letters → HasManyRows made target letters → ExpansionStops made target e

-- which of its parts stops the expansion of one record
pub data Part (os : List Overflow) (limit : Option ExpandFault) (later : List Overflow) (e : ExpandFault) : Type 0 where
  in_first : (o : Overflow) → e ≡ expand.Overflow o → first_overflow os ≡ Some o → Part os limit later e
  in_limit : limit ≡ Some e → Part os limit later e
  in_later : (o : Overflow) → e ≡ expand.Overflow o → first_overflow later ≡ Some o → Part os limit later e

which_part : {A : Type 0} (os : List Overflow) (limit : Option ExpandFault) (later : List Overflow) (x : A) (e : ExpandFault)
    → unless (overflow_in os) (unless limit (unless (overflow_in later) (Ok x))) ≡ Err e → Part os limit later e
which_part {A} os limit later x e ends = first (unless_stops (overflow_in os) (unless limit (unless (overflow_in later) (Ok x))) e ends)
  where
    third : (overflow_in later ≡ Some e) ⊎ ((overflow_in later ≡ None) × (◌≡◌ {A = Result A ExpandFault} (Ok x) (Err e))) → Part os limit later e
    third (inl at) = let one = operation_stops expand.Overflow later e at in in_later one.0 one.1 one.2
    third (inr both) = absurd (cc (both.1))

    second : (limit ≡ Some e) ⊎ ((limit ≡ None) × (unless (overflow_in later) (Ok x) ≡ Err e)) → Part os limit later e
    second (inl at) = in_limit at
    second (inr both) = third (unless_stops (overflow_in later) (Ok x) e both.1)

    first : (overflow_in os ≡ Some e) ⊎ ((overflow_in os ≡ None) × (unless limit (unless (overflow_in later) (Ok x)) ≡ Err e)) → Part os limit later e
    first (inl at) = let one = operation_stops expand.Overflow os e at in in_first one.0 one.1 one.2
    first (inr both) = second (unless_stops limit (unless (overflow_in later) (Ok x)) e both.1)

module _ (made : List Made) (target : Made) where
  in_two : (t : Turn made target) (o : Overflow)
      → Contains (joined_products (known_from t.expansions) (common_denominator (known_from t.expansions) t.now.rows) t.now.rows) o ⊎ Contains (sums_of_gathering (joined_at t)) o → IsOfCertificate made target o
  in_two t o (inl in_rows) = of_rows t in_rows
  in_two t o (inr in_sums) = of_sums t in_sums

  by_limit : (t : Turn made target) (e : ExpandFault) → LimitPassed (joined_at t) e → ExpansionStops made target e
  by_limit t e (long is at) = row_too_long is (record { turn = t; long = at })
  by_limit t e (many letters is passed) = too_many_rows letters is (of_expansion t passed)

  by_part : (t : Turn made target) (e : ExpandFault)
      → Part (denominator_products (known_from t.expansions) t.now) (limit_fault (joined_at t))
      (joined_products (known_from t.expansions) (common_denominator (known_from t.expansions) t.now.rows) t.now.rows ++ sums_of_gathering (joined_at t)) e
      → ExpansionStops made target e
  by_part t e (in_first o is at) =
      let fail = failing (denominator_products (known_from t.expansions) t.now) o at in
      expansion_overflows o is fail.fails (of_denominator t fail.listed)
  by_part t e (in_limit at) = by_limit t e (limit_passed (joined_at t) e at)
  by_part t e (in_later o is at) =
      let products = joined_products (known_from t.expansions) (common_denominator (known_from t.expansions) t.now.rows) t.now.rows in
      let fail = failing (products ++ sums_of_gathering (joined_at t)) o at in
      expansion_overflows o is fail.fails (in_two t o (Contains-append_cases products (sums_of_gathering (joined_at t)) o fail.listed))

  record_stops : (t : Turn made target) (e : ExpandFault) → record_expansion (known_from t.expansions) t.now ≡ Err e → ExpansionStops made target e
  record_stops t e ends =
      by_part t e
      (which_part (denominator_products (known_from t.expansions) t.now) (limit_fault (joined_at t))
      (joined_products (known_from t.expansions) (common_denominator (known_from t.expansions) t.now.rows) t.now.rows ++ sums_of_gathering (joined_at t)) _ e ends)

  -- the record whose turn it was
  pub record StopsAt (needed : List Numbered) (start : Expansions) (e : ExpandFault) : Type 0 where
    pub expansions : Expansions
    pub now : Made
    pub turn : HasTurn target expansions now needed start
    pub stops : record_expansion (known_from expansions) now ≡ Err e

  stops_at : (needed : List Numbered) (start : Expansions) (e : ExpandFault) → expansion_from start needed target ≡ Err e → StopsAt needed start e
  stops_at [] start e ends = record { expansions = start; now = target; turn = (refl, refl); stops = ends }
  stops_at (n ∷ needed) start e ends = go (record_expansion (known_from start) n.1) refl ends (λ c. stops_at needed (insert_entry nat_cmp start n.0 c) e)
    where
      go : (r : Result Cofactors ExpandFault) → record_expansion (known_from start) n.1 ≡ r → and_then r (λ c. expansion_from (insert_entry nat_cmp start n.0 c) needed target) ≡ Err e
          → ((c : Cofactors) → expansion_from (insert_entry nat_cmp start n.0 c) needed target ≡ Err e → StopsAt needed (insert_entry nat_cmp start n.0 c) e)
          → StopsAt (n ∷ needed) start e
      go (Ok c) is k later =
          let rest = later c k in
          record { expansions = rest.expansions; now = rest.now; turn = inr (record { rows = c; expands = is; later = rest.turn }); stops = rest.stops }
      go (Err d) is k later = record { expansions = start; now = n.1; turn = inl (refl, refl); stops = is ∙ k }

  pub expansion_stops : (e : ExpandFault) → expansion_of made target ≡ Err e → ExpansionStops made target e
  expansion_stops e ends =
      let at = stops_at (needed_rules made target) [] e ends in
      record_stops (record { expansions = at.expansions; now = at.now; turn = at.turn }) e at.stops

-- What stops the gathering of lemmas.
pub data GatheringStops (made : List Made) (target : Made) (e : GatherFault) : Type 0 where
  scale_overflows : (o : Overflow) → e ≡ gather.Overflow o → (IsCoefficient (exact_value o) → ⊥) → IsOfCertificate made target o → GatheringStops made target e
  too_many_lemma_rows : (letters : Bool) → e ≡ gather.Rows letters → HasManyRows made target letters → GatheringStops made target e

module _ (claim : ℕ) (made : List Made) (target : Made) where
  abbrev all : List Lemma
  all = lemmas_and_goal made target

  limit_stops : (e : GatherFault) → lemmas.limit_fault all ≡ Some e → GatheringStops made target e
  limit_stops e ends = go (nat_lt row_limit (row_count all)) refl (nat_lt letter_limit (lemmas.letter_count all)) refl ends
    where
      go : (b : Bool) → nat_lt row_limit (row_count all) ≡ b → (c : Bool) → nat_lt letter_limit (lemmas.letter_count all) ≡ c
          → cond b (Some (gather.Rows false)) (cond c (Some (gather.Rows true)) None) ≡ Some e → GatheringStops made target e
      go true is c at k = too_many_lemma_rows false (cc) (of_lemmas (grind (arith, nat_tests)))
      go false is true at k = too_many_lemma_rows true (cc) (of_lemmas (grind (arith, nat_tests)))
      go false is false at k = absurd (cc)

  scale_stops : (e : GatherFault) → scale_fault (map (λ l. l.scale) all) ≡ Some e → GatheringStops made target e
  scale_stops e ends =
      let one = operation_stops gather.Overflow (multiple_products (pos 1) (map (λ l. l.scale) all)) e ends in
      let fail = failing (multiple_products (pos 1) (map (λ l. l.scale) all)) one.0 one.2 in
      scale_overflows one.0 one.1 fail.fails (of_scales fail.listed)

  pub gathering_stops : (e : GatherFault) → gathered_of claim made target ≡ Err e → GatheringStops made target e
  gathering_stops e ends = first _ (unless_stops (lemmas.limit_fault all) _ e ends)
    where
      second : (c : LemmaCertificate) → (scale_fault (map (λ l. l.scale) all) ≡ Some e) ⊎ ((scale_fault (map (λ l. l.scale) all) ≡ None) × (◌≡◌ {A = Result LemmaCertificate GatherFault} (Ok c) (Err e))) → GatheringStops made target e
      second c (inl at) = scale_stops e at
      second c (inr both) = absurd (cc (both.1))

      first : (c : LemmaCertificate) → (lemmas.limit_fault all ≡ Some e) ⊎ ((lemmas.limit_fault all ≡ None) × (unless (scale_fault (map (λ l. l.scale) all)) (Ok c) ≡ Err e)) → GatheringStops made target e
      first c (inl at) = limit_stops e at
      first c (inr both) = second c (unless_stops (scale_fault (map (λ l. l.scale) all)) (Ok c) e both.1)
