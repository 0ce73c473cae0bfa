-- What is gathered by the table of names is the certificate.
use Rattle.cofactor_trace.proofs.Prelude.{◌≡◌, inl, inr, ℕ, ℤ, pos, true, List, [], ◌∷◌, ◌++◌, map, filter, length, nat_eq, eqb-true, eq-eqb, Ok, sym, refl, ap, ap₂, subst, ◌∙◌, map-append, cond_both, or_cases, or_left, or_right, AllByRecursion, Origin, Row, Made, Lemma, Replacement, common_multiple, unless, IsRecord, AreRecords, is_rule, is_named, Numbered, needed_rules, is_lemma, naming_of, lemma_records, lemma_row, lemma_of, scale_fault, gathered_of, extended_all, no_extent, limit_of, named_in, NamesRules}
use Rattle.traced_rows.specs.declared.Origin.TheVariants as origin
use Rattle.cofactor_trace.specs.Lemmas.{limit_fault}
use Rattle.cofactor_trace.proofs.Closure.{names, is_numbered, named_is_needed}
use Rattle.cofactor_trace.proofs.NeededLaws.{records_of}
use Rattle.cofactor_trace.proofs.LemmaLimits.{limit_of-extended}

-- what rows name is needed
module _ (made : List Made) (target : Made) (records : AreRecords made) (is_record : IsRecord (length made) target) where
  -- the rows name needed rules alone
  abbrev pub NamesNeeded : Made → Type 0
  NamesNeeded m = (n : ℕ) → names n m.rows ≡ true → is_numbered n (needed_rules made target) ≡ true

  needed_if : (n : ℕ) → is_named n (target ∷ records_of (needed_rules made target)) ≡ true → is_numbered n (needed_rules made target) ≡ true
  needed_if n named = named_is_needed target made records is_record n named

  pub target_names : NamesNeeded target
  target_names n named = needed_if n (or_left (names n target.rows) (is_named n (records_of (needed_rules made target))) named)

  each_names : (es : List Numbered) → ((n : ℕ) → is_named n (records_of es) ≡ true → is_numbered n (needed_rules made target) ≡ true) → AllByRecursion (λ e. NamesNeeded e.1) es
  each_names [] h = tt
  each_names (e ∷ es) h = (
    λ n named. h n (or_left (names n e.1.rows) (is_named n (records_of es)) named),
    each_names es (λ n named. h n (or_right (names n e.1.rows) (is_named n (records_of es)) named)),
  )

  lemmas_among : (es : List Numbered) → AllByRecursion (λ e. NamesNeeded e.1) es → AllByRecursion NamesNeeded (map (λ e. e.1) (filter (λ e. is_lemma e.1) es))
  lemmas_among [] h = tt
  lemmas_among (e ∷ es) h =
      let rest = lemmas_among es h.1 in
      cond_both (is_lemma e.1) _ _ (λ (l : List Numbered). AllByRecursion NamesNeeded (map (λ n. n.1) l)) (λ _. (h.0, rest)) (λ _. rest)

  pub needed_name : AllByRecursion (λ e. NamesNeeded e.1) (needed_rules made target)
  needed_name = each_names (needed_rules made target) (λ n named. needed_if n (or_right (names n target.rows) (is_named n (records_of (needed_rules made target))) named))

  pub lemmas_name : AllByRecursion NamesNeeded (lemma_records made target)
  lemmas_name = lemmas_among (needed_rules made target) needed_name

  -- the table has the replacements of the rules that they name
  module _ (table : List Replacement) (named : NamesRules made target table) where
    found : (es : List Numbered) → AllByRecursion (λ e. named_in table (origin.Rule e.0) ≡ naming_of made target (origin.Rule e.0)) es → (n : ℕ) → is_numbered n es ≡ true
        → named_in table (origin.Rule n) ≡ naming_of made target (origin.Rule n)
    found [] h n listed = absurd (cc)
    found (e ∷ es) h n listed = elim (or_cases (nat_eq n e.0) (is_numbered n es) listed) [
      | inl same ↦ subst (λ k. named_in table (origin.Rule k) ≡ naming_of made target (origin.Rule k)) (sym (eqb-true n e.0 same)) h.0
      | inr there ↦ found es h.1 n there
    ]

    same_row : (r : Row) → ((n : ℕ) → is_rule n r.from ≡ true → is_numbered n (needed_rules made target) ≡ true) → named_in table r.from ≡ naming_of made target r.from
    same_row r h = go r.from h
      where
        go : (o : Origin) → ((n : ℕ) → is_rule n o ≡ true → is_numbered n (needed_rules made target) ≡ true) → named_in table o ≡ naming_of made target o
        go (origin.Generator n) h = refl
        go (origin.Rule n) h = found (needed_rules made target) named.named n (h n (eq-eqb n n refl))

    same_rows : (rows : List Row) → ((n : ℕ) → names n rows ≡ true → is_numbered n (needed_rules made target) ≡ true) → map (lemma_row (named_in table)) rows ≡ map (lemma_row (naming_of made target)) rows
    same_rows [] h = refl
    same_rows (r ∷ rows) h =
        let here = same_row r (λ n e. h n (or_left (is_rule n r.from) (names n rows) e)) in
        let rest = same_rows rows (λ n e. h n (or_right (is_rule n r.from) (names n rows) e)) in
        λ i. lemma_row (λ o. here i) r ∷ rest i

    same_lemma : (m : Made) → NamesNeeded m → lemma_of (named_in table) m ≡ lemma_of (naming_of made target) m
    same_lemma m h = let rows = same_rows m.rows h in λ i. record { scale = m.scale; rows = rows i }

    same_lemmas : (ms : List Made) → AllByRecursion NamesNeeded ms → map (lemma_of (named_in table)) ms ≡ map (lemma_of (naming_of made target)) ms
    same_lemmas [] h = refl
    same_lemmas (m ∷ ms) h = ap₂ ◌∷◌ (same_lemma m h.0) (same_lemmas ms h.1)

    -- the certificate
    abbrev scales : List Made → List ℤ
    scales = map (λ m. m.scale)

    scales_are : (ms : List Made) → map (λ l. l.scale) (map (lemma_of (naming_of made target)) ms) ≡ scales ms
    scales_are [] = refl
    scales_are (m ∷ ms) = ap (λ l. m.scale ∷ l) (scales_are ms)

    pub gathered_is : (claim : ℕ) (ms : List Made) → ms ≡ lemma_records made target
        → gathered_of claim made target
        ≡ unless (limit_of (extended_all no_extent (ms ++ target ∷ []))) (unless (scale_fault (map (λ m. m.scale) (ms ++ target ∷ [])))
        (Ok (record { claim = claim; denominator = common_multiple (pos 1) (map (λ m. m.scale) (ms ++ target ∷ [])); lemmas = map (lemma_of (named_in table)) ms; goal = lemma_of (named_in table) target })))
    gathered_is claim ms same =
        let f = lemma_of (naming_of made target) in
        let lemmas : map f (lemma_records made target) ≡ map (lemma_of (named_in table)) ms =
        sym (same_lemmas (lemma_records made target) lemmas_name) ∙ ap (map (lemma_of (named_in table))) (sym same) in
        let goal_is : f target ≡ lemma_of (named_in table) target = sym (same_lemma target target_names) in
        let all : map f (lemma_records made target) ++ f target ∷ [] ≡ map f (ms ++ target ∷ []) =
        ap (λ l. map f l ++ f target ∷ []) (sym same) ∙ sym (map-append f ms (target ∷ [])) in
        let limit : limit_fault (map f (lemma_records made target) ++ f target ∷ []) ≡ limit_of (extended_all no_extent (ms ++ target ∷ [])) =
        ap limit_fault all ∙ sym (limit_of-extended (naming_of made target) (ms ++ target ∷ [])) in
        let scales_same : map (λ (l : Lemma). l.scale) (map f (lemma_records made target) ++ f target ∷ []) ≡ scales (ms ++ target ∷ []) =
        ap (map (λ (l : Lemma). l.scale)) all ∙ scales_are (ms ++ target ∷ []) in
        λ i.
        unless (limit i) (unless (scale_fault (scales_same i))
        (Ok (record { claim = claim; denominator = common_multiple (pos 1) (scales_same i); lemmas = lemmas i; goal = goal_is i })))
