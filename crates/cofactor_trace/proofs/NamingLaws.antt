-- The rules are named one after another, and each lemma by its place among the lemmas.
use Rattle.cofactor_trace.proofs.Prelude.{◌≡◌, ℕ, suc, ◌+◌, ◌-◌, ◌<◌, ◌≤◌, get_or, set, Bool, true, false, cond, List, [], ◌∷◌, ◌++◌, map, filter, reverse, length, Option, Some, None, unwrap_or, is_none, sym, refl, ap, subst, ◌∙◌, append_assoc, arith, get_or-set_same, get_or-set_other, length-set, append-nil, length-map, map-append, filter-append, All-filter, All-nil, All-cons, All-weaker, All-from_recursion, recursion_from_All, cond_both, nat_tests, slice_get_within, get_or_from_slice_get, option_and_then, All, AllByRecursion, slice_get, all-append, Row, Made, Replacement, IsAmongFirst, IsRecord, AreRecords, Numbered, needed_rules, direct_of, is_lemma, lemma_at, lemma_rules, lemma_number, naming_of, named_in, NamesRules}
use Rattle.traced_rows.specs.declared.Origin.TheVariants as origin
use Rattle.cofactor_trace.proofs.NeededLaws.{AreNumbered, all_numbered, among_more, next_number, none_left}
use Rattle.cofactor_trace.proofs.Closure.{Above, needed_ascend}

-- the place of a rule among others
abbrev pub AreBelow : ℕ → List Numbered → Type 0
AreBelow number = AllByRecursion (λ e. (1 ≤ e.0) × (e.0 < number))

below_filtered : (p : Numbered → Bool) (number : ℕ) (xs : List Numbered) → AreBelow number xs → AreBelow number (filter p xs)
below_filtered p number xs below =
    let P = λ (e : Numbered). (1 ≤ e.0) × (e.0 < number) in
    recursion_from_All P (filter p xs) (All-filter p P xs (All-from_recursion P xs below))

number_behind : (number : ℕ) (m : Made) (xs ys : List Numbered) → AreBelow number xs → lemma_number number (xs ++ (number, m) ∷ ys) ≡ suc (length xs)
number_behind number m [] ys below = grind (arith, nat_tests)
number_behind number m (x ∷ xs) ys below = let rest = number_behind number m xs ys below.1 in let first = below.0 in grind (arith, nat_tests)

fewer : (p : Numbered → Bool) (xs : List Numbered) → length (filter p xs) ≤ length xs
fewer p [] = omega arith
fewer p (x ∷ xs) = let rest = fewer p xs in grind arith

-- rules in ascending order
module _ (made : List Made) (target : Made) where
  above_first : (place : ℕ) (done : List Numbered) (e : Numbered) (rest : List Numbered) → Above target place (done ++ e ∷ rest) → (place + length done < e.0) × AreBelow e.0 done
  above_first place [] e rest above = (omega (arith, above.0), tt)
  above_first place (d ∷ done) e rest above =
      let later = above_first d.0 done e rest above.1 in
      (omega (arith, above.0, later.0), ((omega (arith, above.0), omega (arith, later.0)), later.1))

  -- the table
  abbrev pub AreNamed : List Replacement → List Numbered → Type 0
  AreNamed table = AllByRecursion (λ e. named_in table (origin.Rule e.0) ≡ naming_of made target (origin.Rule e.0))

  named_still : (table : List Replacement) (number : ℕ) (x : Replacement) (done : List Numbered) → AreBelow number done → AreNamed table done → AreNamed (set table (number - 1) x) done
  named_still table number x [] below named = tt
  named_still table number x (d ∷ done) below named =
      let apart : d.0 - 1 ≡ number - 1 → ⊥ = λ same. omega (arith, below.0.0, below.0.1, same) in
      (get_or-set_other table (number - 1) (d.0 - 1) x (lemma_at 0) apart ∙ named.0, named_still table number x done below.1 named.1)

  -- the rules so far are named, and their lemmas found; the others are left, the last one first
  pub record IsUnderWay (numbers : List ℕ) (table : List Replacement) (lemmas : List Made) : Type 0 where
    pub done : List Numbered
    pub rest : List Numbered
    pub whole : done ++ rest ≡ needed_rules made target
    pub numbers_are : reverse numbers ≡ map (λ e. e.0) rest
    pub numbered : AreNumbered made rest
    pub sized : length table ≡ length made
    pub named : AreNamed table done
    pub lemmas_are : lemmas ≡ map (λ e. e.1) (filter (λ e. is_lemma e.1) done)

  -- a number is taken
  pub record IsTaken (numbers : List ℕ) (number : ℕ) (m : Made) (table : List Replacement) (lemmas : List Made) : Type 0 where
    pub done : List Numbered
    pub rest : List Numbered
    pub whole : done ++ (number, m) ∷ rest ≡ needed_rules made target
    pub numbers_are : reverse numbers ≡ map (λ e. e.0) rest
    pub numbered : AreNumbered made rest
    pub sized : length table ≡ length made
    pub named : AreNamed table done
    pub lemmas_are : lemmas ≡ map (λ e. e.1) (filter (λ e. is_lemma e.1) done)
    pub positive : 1 ≤ number
    pub inside : number - 1 < length made
    pub item : slice_get made (number - 1) ≡ Some m
    pub below : AreBelow number done
    pub later : length done < number

  pub taken : (numbers front : List ℕ) (number : ℕ) (table : List Replacement) (lemmas : List Made) → numbers ≡ front ++ number ∷ [] → IsUnderWay numbers table lemmas
      → (1 ≤ number) × (number - 1 < length made) × ((m : Made) → m ≡ get_or made (number - 1) m → IsTaken front number m table lemmas)
  taken numbers front number table lemmas e u =
      let n = next_number made target numbers front number u.rest e u.numbers_are u.numbered in (
        n.positive,
        slice_get_within made (number - 1) n.m n.item,
        λ m item.
            let is : n.m ≡ m = sym (item ∙ get_or_from_slice_get made (number - 1) n.m m n.item) in
            let whole_is : u.done ++ (number, m) ∷ n.later ≡ needed_rules made target = ap (λ x. u.done ++ (number, x) ∷ n.later) (sym is) ∙ ap (λ l. u.done ++ l) (sym n.rest_is) ∙ u.whole in
            let above = above_first 0 u.done (number, m) n.later (subst (Above target 0) (sym whole_is) (needed_ascend target 0 made)) in
            record {
              done = u.done;
              rest = n.later;
              whole = whole_is;
              numbers_are = n.numbers_are;
              numbered = n.numbered;
              sized = u.sized;
              named = u.named;
              lemmas_are = u.lemmas_are;
              positive = n.positive;
              inside = slice_get_within made (number - 1) n.m n.item;
              item = n.item ∙ ap Some is;
              below = above.1;
              later = omega (arith, above.0);
            },
      )

  -- there are fewer lemmas than the number says
  pub lemmas_before : (numbers : List ℕ) (number : ℕ) (m : Made) (table : List Replacement) (lemmas : List Made) → IsTaken numbers number m table lemmas → length lemmas < number
  lemmas_before numbers number m table lemmas t =
      let sized : length lemmas ≡ length (filter (λ (e : Numbered). is_lemma e.1) t.done) = ap length t.lemmas_are ∙ length-map (filter (λ (e : Numbered). is_lemma e.1) t.done) (λ (e : Numbered). e.1) in
      omega (arith, sized, fewer (λ e. is_lemma e.1) t.done, t.later)

  module _ (numbers : List ℕ) (number : ℕ) (m : Made) (table : List Replacement) (lemmas : List Made) (t : IsTaken numbers number m table lemmas) where
    abbrev lemmas_of : List Numbered → List Numbered
    lemmas_of = filter (λ e. is_lemma e.1)

    -- the replacement of the rule is at its place
    named_here : naming_of made target (origin.Rule number) ≡ unwrap_or (direct_of m) (lemma_at (length lemmas + 1))
    named_here = ap (λ o. unwrap_or (option_and_then direct_of o) (lemma_at (lemma_number number (lemma_rules made target)))) t.item ∙ go (direct_of m) refl
      where
        parts : lemma_rules made target ≡ lemmas_of t.done ++ lemmas_of ((number, m) ∷ t.rest)
        parts = ap lemmas_of (sym t.whole) ∙ filter-append (λ (e : Numbered). is_lemma e.1) t.done ((number, m) ∷ t.rest)

        first : is_lemma m ≡ true → lemmas_of ((number, m) ∷ t.rest) ≡ (number, m) ∷ lemmas_of t.rest
        first e = ap (λ b. cond b ((number, m) ∷ lemmas_of t.rest) (lemmas_of t.rest)) e

        counted : length (lemmas_of t.done) ≡ length lemmas
        counted = sym (ap length t.lemmas_are ∙ length-map (lemmas_of t.done) (λ (e : Numbered). e.1))

        place : is_lemma m ≡ true → lemma_number number (lemma_rules made target) ≡ length lemmas + 1
        place e =
            let next : suc (length (lemmas_of t.done)) ≡ length lemmas + 1 = omega (arith, counted) in
            ap (lemma_number number) (parts ∙ ap (λ l. lemmas_of t.done ++ l) (first e))
            ∙ number_behind number m (lemmas_of t.done) (lemmas_of t.rest) (below_filtered (λ e. is_lemma e.1) number t.done t.below)
            ∙ next

        go : (o : Option Replacement) → direct_of m ≡ o → unwrap_or o (lemma_at (lemma_number number (lemma_rules made target))) ≡ unwrap_or o (lemma_at (length lemmas + 1))
        go (Some x) e = refl
        go None e = ap lemma_at (place (ap is_none e))

    pub goes_on : (new : List Replacement) (more : List Made) → new ≡ set table (number - 1) (unwrap_or (direct_of m) (lemma_at (length lemmas + 1))) → more ≡ lemmas ++ filter is_lemma (m ∷ [])
        → IsUnderWay numbers new more
    goes_on new more put pushed =
        let x = unwrap_or (direct_of m) (lemma_at (length lemmas + 1)) in
        let within : number - 1 < length table = subst (λ n. number - 1 < n) (sym t.sized) t.inside in
        let here : named_in (set table (number - 1) x) (origin.Rule number) ≡ naming_of made target (origin.Rule number) =
        get_or-set_same table (number - 1) x (lemma_at 0) within ∙ sym named_here in
        record {
          done = t.done ++ (number, m) ∷ [];
          rest = t.rest;
          whole = append_assoc t.done ((number, m) ∷ []) t.rest ∙ t.whole;
          numbers_are = t.numbers_are;
          numbered = t.numbered;
          sized = ap length put ∙ length-set table (number - 1) x ∙ t.sized;
          named =
              subst (λ l. AreNamed l (t.done ++ (number, m) ∷ [])) (sym put)
              (all-append (λ (e : Numbered). named_in (set table (number - 1) x) (origin.Rule e.0) ≡ naming_of made target (origin.Rule e.0)) t.done ((number, m) ∷ [])
              (named_still table number x t.done t.below t.named) (here, tt));
          lemmas_are =
              pushed ∙ ap (λ l. l ++ filter is_lemma (m ∷ [])) t.lemmas_are
              ∙ ap (λ l. map (λ (e : Numbered). e.1) (lemmas_of t.done) ++ l)
              (elim (is_lemma m) as (λ b. cond b (m ∷ []) [] ≡ map (λ (e : Numbered). e.1) (cond b ((number, m) ∷ []) [])) [ true ↦ refl | false ↦ refl ])
              ∙ sym (map-append (λ (e : Numbered). e.1) (lemmas_of t.done) (lemmas_of ((number, m) ∷ [])))
              ∙ ap (map (λ (e : Numbered). e.1)) (sym (filter-append (λ (e : Numbered). is_lemma e.1) t.done ((number, m) ∷ [])));
        }

  pub starts : (numbers : List ℕ) (table : List Replacement) (lemmas : List Made) → reverse numbers ≡ map (λ e. e.0) (needed_rules made target) → length table ≡ length made → lemmas ≡ [] → IsUnderWay numbers table lemmas
  starts numbers table lemmas e sized none = record {
    done = [];
    rest = needed_rules made target;
    whole = refl;
    numbers_are = e;
    numbered = all_numbered made target;
    sized = sized;
    named = tt;
    lemmas_are = none;
  }

  -- with no number left all rules are named
  finished : (numbers : List ℕ) (table : List Replacement) (lemmas : List Made) → numbers ≡ [] → (u : IsUnderWay numbers table lemmas) → u.done ≡ needed_rules made target
  finished numbers table lemmas e u = sym (append-nil u.done) ∙ ap (λ r. u.done ++ r) (sym (none_left numbers u.rest e u.numbers_are)) ∙ u.whole

  pub all_named : (numbers : List ℕ) (table : List Replacement) (lemmas : List Made) → numbers ≡ [] → IsUnderWay numbers table lemmas → NamesRules made target table
  all_named numbers table lemmas e u = record { sized = u.sized; named = subst (AreNamed table) (finished numbers table lemmas e u) u.named }

  pub all_found : (numbers : List ℕ) (table : List Replacement) (lemmas : List Made) → numbers ≡ [] → IsUnderWay numbers table lemmas → lemmas ≡ map (λ e. e.1) (lemma_rules made target)
  all_found numbers table lemmas e u = u.lemmas_are ∙ ap (λ l. map (λ (n : Numbered). n.1) (filter (λ (n : Numbered). is_lemma n.1) l)) (finished numbers table lemmas e u)

  -- the lemmas' records
  wider : (few many : ℕ) (m : Made) → few ≤ many → IsRecord few m → IsRecord many m
  wider few many m more h = record {
    positive = h.positive;
    scale_in = h.scale_in;
    coefficients_in = h.coefficients_in;
    earlier = All-weaker (λ (r : Row). IsAmongFirst few r.from) (λ (r : Row). IsAmongFirst many r.from) (λ r among. among_more few many r.from more among) m.rows h.earlier;
  }

  records_kept : (es : List Numbered) → AreRecords made → AreNumbered made es → All (IsRecord (length made)) (map (λ e. e.1) (filter (λ e. is_lemma e.1) es))
  records_kept [] records numbered = All-nil (IsRecord (length made))
  records_kept (e ∷ es) records numbered =
      let rest = records_kept es records numbered.1 in
      let inside = slice_get_within made (e.0 - 1) e.1 numbered.0.1 in
      let here = wider (e.0 - 1) (length made) e.1 (omega (arith, inside)) (records.at (e.0 - 1) e.1 numbered.0.1) in
      cond_both (is_lemma e.1) _ _ (λ (l : List Numbered). All (IsRecord (length made)) (map (λ n. n.1) l))
      (λ _. All-cons (IsRecord (length made)) e.1 (map (λ (n : Numbered). n.1) (filter (λ (n : Numbered). is_lemma n.1) es)) here rest) (λ _. rest)

  pub are_records : AreRecords made → All (IsRecord (length made)) (map (λ e. e.1) (lemma_rules made target))
  are_records records = records_kept (needed_rules made target) records (all_numbered made target)
