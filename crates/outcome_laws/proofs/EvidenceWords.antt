-- What holds of the words of records, and of words put together of such, holds of the words of evidence.
use Rattle.outcome_laws.proofs.Prelude.{◌≡◌, refl, ℕ, suc, ℤ, ◌*ℤ◌, Bool, true, false, cond, List, [], ◌∷◌, ◌++◌, map, Some, Result, Ok, Err, unwrap_or, subst, All-head, All-tail, All-map, All-from_recursion, All, AllByRecursion, lookup, insert_entry, is_at, nat_cmp, is_eq, Origin, Row, Made, CertRow, Cofactors, LemmaRow, Lemma, LemmaCertificate, ExpandFault, Known, common_denominator, joined, joined_rows, joined_row, share, record_expansion, Numbered, Expansions, none, known_from, expansion_from, expansion_of, needed_from, needed_rules, is_named, naming_of, lemma_row, gathered_of, parts_of, parts, each_part, lemma_record_each, Each, each_append, each_primitive, records_of, each_with, primitive_is}
use Rattle.traced_rows.specs.declared.Origin.TheVariants as origin
use Rattle.cofactor_trace.specs.Needed.{and_then}

-- what holds of each record holds of those that are needed
pub needed_each : (P : Made → Type 0) (target : Made) (number : ℕ) (made : List Made) → All P made → AllByRecursion (λ e. P e.1) (needed_from target number made)
needed_each P target number [] each = tt
needed_each P target number (m ∷ made) each = go (is_named number (target ∷ records_of (needed_from target (suc number) made))) (needed_each P target (suc number) made (All-tail P m made each))
  where
    go : (b : Bool) → AllByRecursion (λ e. P e.1) (needed_from target (suc number) made)
        → AllByRecursion (λ e. P e.1) (cond b ((number, m) ∷ needed_from target (suc number) made) (needed_from target (suc number) made))
    go true later = (All-head P m made each, later)
    go false later = later

-- What the expansion of a record keeps, where it holds of those that are known, holds of the whole expansion.
module _ (P : Cofactors → Type 0) (R : Made → Type 0) (nothing : P none) (generator : (n : ℕ) → P (known_from [] (origin.Generator n)))
    (keeps : (known : Known) (m : Made) (c : Cofactors) → ((o : Origin) → P (known o)) → R m → record_expansion known m ≡ Ok c → P c) where
  abbrev EachIs : Expansions → Type 0
  EachIs = AllByRecursion (λ e. P e.1)

  known_is : (expansions : Expansions) → EachIs expansions → (o : Origin) → P (known_from expansions o)
  known_is expansions each (origin.Generator n) = generator n
  known_is expansions each (origin.Rule n) = found expansions each
    where
      found : (es : Expansions) → EachIs es → P (unwrap_or (lookup (is_at (nat_cmp n)) es) none)
      found [] each = nothing
      found (e ∷ es) each = go (is_eq (nat_cmp n e.0)) (found es each.1)
        where
          go : (b : Bool) → P (unwrap_or (lookup (is_at (nat_cmp n)) es) none) → P (unwrap_or (cond b (Some e.1) (lookup (is_at (nat_cmp n)) es)) none)
          go true rest = each.0
          go false rest = rest

  expansion_from_is : (expansions : Expansions) (rest : List Numbered) (target : Made) (c : Cofactors) → EachIs expansions → AllByRecursion (λ e. R e.1) rest → R target
      → expansion_from expansions rest target ≡ Ok c → P c
  expansion_from_is expansions [] target c each rules is ends = keeps (known_from expansions) target c (known_is expansions each) is ends
  expansion_from_is expansions (e ∷ rest) target c each rules is ends =
      go (record_expansion (known_from expansions) e.1) refl ends
      (λ x holds. expansion_from_is (insert_entry nat_cmp expansions e.0 x) rest target c (each_with (λ d. P d.1) expansions e.0 x each holds) rules.1 is)
    where
      go : (r : Result Cofactors ExpandFault) → record_expansion (known_from expansions) e.1 ≡ r
          → and_then r (λ x. expansion_from (insert_entry nat_cmp expansions e.0 x) rest target) ≡ Ok c
          → ((x : Cofactors) → P x → expansion_from (insert_entry nat_cmp expansions e.0 x) rest target ≡ Ok c → P c) → P c
      go (Ok x) is_made k next = next x (keeps (known_from expansions) e.1 x (known_is expansions each) rules.0 is_made) k
      go (Err f) is_made k next = absurd (cc)

  pub expansion_is : (made : List Made) (target : Made) (c : Cofactors) → All R made → R target → expansion_of made target ≡ Ok c → P c
  expansion_is made target c rules is ends = expansion_from_is [] (needed_rules made target) target c tt (needed_each R target 1 made rules) is ends

module _ (P : List ℕ → Type 0) (empty : P []) (together : (u v : List ℕ) → P u → P v → P (u ++ v)) where
  -- both words of a row of a record
  abbrev pub HasWords : Row → Type 0
  HasWords r = P r.left × P r.right

  abbrev pub RecordHasWords : Made → Type 0
  RecordHasWords m = All HasWords m.rows

  -- of a row of an expansion
  abbrev AreBetween : List CertRow → Type 0
  AreBetween rows = Each (λ m. P m.left × P m.right) rows

  joined_between : (k : ℤ) (outer : Row) → HasWords outer → (inner : List CertRow) → AreBetween inner → AreBetween (map (joined_row k outer) inner)
  joined_between k outer has [] each = tt
  joined_between k outer has (s ∷ inner) each = ((together outer.left s.left has.0 each.0.0, together s.right outer.right each.0.1 has.1), joined_between k outer has inner each.1)

  all_between : (known : Known) (common : ℤ) → ((o : Origin) → AreBetween (known o).rows) → (rows : List Row) → All HasWords rows → AreBetween (joined known common rows)
  all_between known common each [] has = tt
  all_between known common each (r ∷ rows) has =
      each_append (λ m. P m.left × P m.right) (joined_rows known common r) (joined known common rows)
      (joined_between (r.coef *ℤ share known common r) r (All-head HasWords r rows has) (known r.from).rows (each r.from)) (all_between known common each rows (All-tail HasWords r rows has))

  record_between : (known : Known) (m : Made) (c : Cofactors) → ((o : Origin) → AreBetween (known o).rows) → RecordHasWords m → record_expansion known m ≡ Ok c → AreBetween c.rows
  record_between known m c each has ends =
      let common = common_denominator known m.rows in
      subst (λ (x : Cofactors). AreBetween x.rows) (primitive_is known m c ends).1
      (each_primitive (λ m. P m.left × P m.right) (m.scale *ℤ common) (joined known common m.rows) (all_between known common each m.rows has))

  pub expanded_words : (made : List Made) (target : Made) (c : Cofactors) → All RecordHasWords made → RecordHasWords target → expansion_of made target ≡ Ok c → All (λ (r : CertRow). P r.left × P r.right) c.rows
  expanded_words made target c rules has ends =
      All-from_recursion (λ (r : CertRow). P r.left × P r.right) c.rows
      (expansion_is (λ c. AreBetween c.rows) RecordHasWords tt (λ n. ((empty, empty), tt)) record_between made target c rules has ends)

-- what holds of the words of records holds of those of a gathered certificate
module _ (P : List ℕ → Type 0) where
  abbrev HasBoth : Row → Type 0
  HasBoth r = P r.left × P r.right

  abbrev pub LemmaHasWords : Lemma → Type 0
  LemmaHasWords l = All (λ r. P r.left × P r.right) l.rows

  pub gathered_words : (claim : ℕ) (made : List Made) (target : Made) (c : LemmaCertificate) → All (λ m. All HasBoth m.rows) made → All HasBoth target.rows
      → gathered_of claim made target ≡ Ok c → All LemmaHasWords (parts_of c)
  gathered_words claim made target c rules has ends =
      subst (λ (x : LemmaCertificate). All LemmaHasWords (parts_of x)) (parts claim made target c ends).is
      (each_part claim made target (λ m. All HasBoth m.rows) LemmaHasWords (λ m. All-map (λ (r : LemmaRow). P r.left × P r.right) (lemma_row (naming_of made target)) m.rows)
      (lemma_record_each claim made target (λ m. All HasBoth m.rows) rules) has)
