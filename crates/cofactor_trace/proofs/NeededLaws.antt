-- The needed rules one by one, and their expansions.
use Rattle.cofactor_trace.proofs.Prelude.{◌≡◌, ℕ, suc, ◌+◌, ◌-◌, ◌<◌, ◌≤◌, get_or, Bool, true, false, ◌||◌, cond, List, [], ◌∷◌, ◌++◌, map, reverse, length, drop, Some, Ok, refl, sym, ap, subst, ◌∙◌, arith, or-false, cond_both, AllByRecursion, list_any, slice_get, reverse-append, drop_all, drop_next, insert_entry, nat_cmp, Made, Cofactors, record_expansion, Numbered, Expansions, is_rule, is_named, needed_from, needed_rules, known_from, and_then, expansion_from, expansion_of, IsAmongFirst, Explains, ExpandFault, Origin, slice_get_within, get_or_from_slice_get}
use Rattle.traced_rows.specs.declared.Origin.TheVariants as origin
use Rattle.cofactor_trace.proofs.Halts.{explains-and_then}

-- what the records name, with one record more
pub named_with : (n : ℕ) (target m : Made) (rest : List Made) → is_named n (target ∷ rest) || list_any (λ r. is_rule n r.from) m.rows ≡ is_named n (target ∷ (m ∷ rest))
named_with n target m rest = grind arith

-- the needed rules after a place
abbrev pub needed_behind : Made → List Made → ℕ → List Numbered
needed_behind target made place = needed_from target (suc place) (drop place made)

abbrev pub records_of : List Numbered → List Made
records_of = map (λ e. e.1)

module _ (made : List Made) (target : Made) where
  -- what is marked, and which numbers are found, once the rules after a place are done
  pub record IsMarked (place : ℕ) (named : List Bool) (numbers : List ℕ) : Type 0 where
    pub sized : length named ≡ length made
    pub marks : (k : ℕ) → k < length made → get_or named k false ≡ is_named (k + 1) (target ∷ records_of (needed_behind target made place))
    pub found : reverse numbers ≡ map (λ e. e.0) (needed_behind target made place)

  -- at first the target alone marks
  pub marked-start : (named : List Bool) (numbers : List ℕ) → length named ≡ length made
      → ((k : ℕ) → k < length made → get_or named k false ≡ list_any (λ r. is_rule (k + 1) r.from) target.rows) → numbers ≡ [] → IsMarked (length made) named numbers
  marked-start named numbers sized marks none =
      let nothing : needed_behind target made (length made) ≡ [] = ap (needed_from target (suc (length made))) (drop_all (length made) made (omega arith)) in
      record {
        sized = sized;
        marks = λ k h. marks k h ∙ sym (or-false _) ∙ ap (λ l. is_named (k + 1) (target ∷ records_of l)) (sym nothing);
        found = ap reverse none ∙ ap (map (λ e. e.0)) (sym nothing);
      }

  module _ (place : ℕ) (m : Made) (inside : place < length made) (item : m ≡ get_or made place m) where
    next_is : (behind : ℕ) → behind ≡ place + 1 → needed_behind target made place
        ≡ cond (is_named (place + 1) (target ∷ records_of (needed_behind target made behind))) ((place + 1, m) ∷ needed_behind target made behind) (needed_behind target made behind)
    next_is behind e =
        let number : suc place ≡ place + 1 = omega arith in
        let next : suc (place + 1) ≡ suc behind = omega arith in
        ap (λ l. needed_from target (suc place) l) (drop_next made place m inside item)
        ∙ ap (λ n. needed_from target n (m ∷ drop (place + 1) made)) number
        ∙ ap (λ b. cond (is_named (place + 1) (target ∷ records_of (needed_behind target made b))) ((place + 1, m) ∷ needed_behind target made b) (needed_behind target made b)) (sym e)

    module _ (behind : ℕ) (e : behind ≡ place + 1) (named : List Bool) (numbers : List ℕ) (marked : IsMarked behind named numbers) where
      pub marked-no : get_or named place false ≡ false → IsMarked place named numbers
      marked-no unnamed =
          let same : needed_behind target made place ≡ needed_behind target made behind =
          next_is behind e ∙ ap (λ b. cond b ((place + 1, m) ∷ needed_behind target made behind) (needed_behind target made behind)) (sym (marked.marks place inside) ∙ unnamed) in
          record {
            sized = marked.sized;
            marks = λ k h. marked.marks k h ∙ ap (λ l. is_named (k + 1) (target ∷ records_of l)) (sym same);
            found = marked.found ∙ ap (map (λ e. e.0)) (sym same);
          }

      pub marked-yes : (new : List Bool) → get_or named place false ≡ true → length new ≡ length named
          → ((k : ℕ) → k < length named → get_or new k false ≡ get_or named k false || list_any (λ r. is_rule (k + 1) r.from) m.rows)
          → IsMarked place new (numbers ++ (place + 1) ∷ [])
      marked-yes new is_named_here size marks =
          let more : needed_behind target made place ≡ (place + 1, m) ∷ needed_behind target made behind =
          next_is behind e ∙ ap (λ b. cond b ((place + 1, m) ∷ needed_behind target made behind) (needed_behind target made behind)) (sym (marked.marks place inside) ∙ is_named_here) in
          record {
            sized = size ∙ marked.sized;
            marks = λ k h.
                marks k (subst (λ n. k < n) (sym marked.sized) h)
                ∙ ap (λ b. b || list_any (λ r. is_rule (k + 1) r.from) m.rows) (marked.marks k h)
                ∙ named_with (k + 1) target m (records_of (needed_behind target made behind))
                ∙ ap (λ l. is_named (k + 1) (target ∷ records_of l)) (sym more);
            found = reverse-append numbers ((place + 1) ∷ []) ∙ ap (λ l. (place + 1) ∷ l) marked.found ∙ ap (map (λ e. e.0)) (sym more);
          }

-- each number comes with the record of its rule
abbrev pub AreNumbered : List Made → List Numbered → Type 0
AreNumbered made = AllByRecursion (λ e. (1 ≤ e.0) × (slice_get made (e.0 - 1) ≡ Some e.1))

-- with no number left no rule is left
pub none_left : (numbers : List ℕ) (rest : List Numbered) → numbers ≡ [] → reverse numbers ≡ map (λ e. e.0) rest → rest ≡ []
none_left numbers [] e h = refl
none_left numbers (x ∷ rest) e h = absurd (cc (sym (ap reverse e) ∙ h))

module _ (made : List Made) (target : Made) where
  -- the rules that are left have the numbers, the last one first, and give what all give
  pub record IsUnderWay (numbers : List ℕ) (expansions : Expansions) : Type 0 where
    pub rest : List Numbered
    pub numbers_are : reverse numbers ≡ map (λ e. e.0) rest
    pub numbered : AreNumbered made rest
    pub result : expansion_from expansions rest target ≡ expansion_of made target

  -- a number is taken
  pub record IsTaken (numbers : List ℕ) (number : ℕ) (m : Made) (expansions : Expansions) : Type 0 where
    pub rest : List Numbered
    pub numbers_are : reverse numbers ≡ map (λ e. e.0) rest
    pub numbered : AreNumbered made rest
    pub positive : 1 ≤ number
    pub item : slice_get made (number - 1) ≡ Some m
    pub result : expansion_from expansions ((number, m) ∷ rest) target ≡ expansion_of made target

  -- the last number is that of the first rule that is left
  pub record IsNext (front : List ℕ) (number : ℕ) (rest : List Numbered) : Type 0 where
    pub m : Made
    pub later : List Numbered
    pub rest_is : rest ≡ (number, m) ∷ later
    pub numbers_are : reverse front ≡ map (λ e. e.0) later
    pub numbered : AreNumbered made later
    pub positive : 1 ≤ number
    pub item : slice_get made (number - 1) ≡ Some m

  pub next_number : (numbers front : List ℕ) (number : ℕ) (rest : List Numbered) → numbers ≡ front ++ number ∷ [] → reverse numbers ≡ map (λ e. e.0) rest → AreNumbered made rest → IsNext front number rest
  next_number numbers front number [] e same numbered = absurd (cc (reverse-append front (number ∷ []), ap reverse e))
  next_number numbers front number (x ∷ rest) e same numbered =
      let both : number ∷ reverse front ≡ x.0 ∷ map (λ e. e.0) rest = sym (ap reverse e ∙ reverse-append front (number ∷ [])) ∙ same in
      let first : x.0 ≡ number = cc in
      record {
        m = x.1;
        later = rest;
        rest_is = λ i. (first i, x.1) ∷ rest;
        numbers_are = cc;
        numbered = numbered.1;
        positive = subst (λ n. 1 ≤ n) first numbered.0.0;
        item = subst (λ n. slice_get made (n - 1) ≡ Some x.1) first numbered.0.1;
      }

  pub taken_number : (numbers front : List ℕ) (number : ℕ) (expansions : Expansions) → numbers ≡ front ++ number ∷ [] → IsUnderWay numbers expansions → (1 ≤ number) × (number - 1 < length made)
  taken_number numbers front number expansions e u =
      let n = next_number numbers front number u.rest e u.numbers_are u.numbered in
      (n.positive, slice_get_within made (number - 1) n.m n.item)

  pub taken : (numbers front : List ℕ) (number : ℕ) (m : Made) (expansions : Expansions) → numbers ≡ front ++ number ∷ [] → m ≡ get_or made (number - 1) m → IsUnderWay numbers expansions → IsTaken front number m expansions
  taken numbers front number m expansions e item u =
      let n = next_number numbers front number u.rest e u.numbers_are u.numbered in
      let is : m ≡ n.m = item ∙ get_or_from_slice_get made (number - 1) n.m m n.item in
      record {
        rest = n.later;
        numbers_are = n.numbers_are;
        numbered = n.numbered;
        positive = n.positive;
        item = n.item ∙ ap Some (sym is);
        result = (λ i. expansion_from expansions ((number, is i) ∷ n.later) target) ∙ ap (λ es. expansion_from expansions es target) (sym n.rest_is) ∙ u.result;
      }

  -- the expansion of the rule that was taken is put in
  pub goes_on : (numbers : List ℕ) (number : ℕ) (m : Made) (expansions new : Expansions) (c : Cofactors) → IsTaken numbers number m expansions
      → record_expansion (known_from expansions) m ≡ Ok c → new ≡ insert_entry nat_cmp expansions number c → IsUnderWay numbers new
  goes_on numbers number m expansions new c t ends put = record {
    rest = t.rest;
    numbers_are = t.numbers_are;
    numbered = t.numbered;
    result =
        ap (λ es. expansion_from es t.rest target) put
        ∙ ap (λ r. and_then r (λ c. expansion_from (insert_entry nat_cmp expansions number c) t.rest target)) (sym ends) ∙ t.result;
  }

  -- or its fault is that of the whole
  pub stops : (numbers : List ℕ) (number : ℕ) (m : Made) (expansions : Expansions) (e : ExpandFault) → IsTaken numbers number m expansions
      → Explains (record_expansion (known_from expansions) m) e → Explains (expansion_of made target) e
  stops numbers number m expansions e t h =
      subst (λ r. Explains r e) t.result (explains-and_then (record_expansion (known_from expansions) m) (λ c. expansion_from (insert_entry nat_cmp expansions number c) t.rest target) e h)

  -- with no number left it is the target's turn
  pub last_turn : (numbers : List ℕ) (expansions : Expansions) → numbers ≡ [] → IsUnderWay numbers expansions → record_expansion (known_from expansions) target ≡ expansion_of made target
  last_turn numbers expansions e u = ap (λ es. expansion_from expansions es target) (sym (none_left numbers u.rest e u.numbers_are)) ∙ u.result

  pub numbered_from : (place : ℕ) (xs : List Made) → ((k : ℕ) (m : Made) → slice_get xs k ≡ Some m → slice_get made (place + k) ≡ Some m) → AreNumbered made (needed_from target (suc place) xs)
  numbered_from place [] h = tt
  numbered_from place (m ∷ xs) h =
      let place_is : place + 0 ≡ suc place - 1 = omega arith in
      let first : (1 ≤ suc place) × (slice_get made (suc place - 1) ≡ Some m) = (omega arith, subst (λ n. slice_get made n ≡ Some m) place_is (h 0 m refl)) in
      let later = numbered_from (suc place) xs (λ k x e. let next : place + suc k ≡ suc place + k = omega arith in subst (λ n. slice_get made n ≡ Some x) next (h (suc k) x e)) in
      cond_both (is_named (suc place) (target ∷ records_of (needed_from target (suc (suc place)) xs))) _ _ (AreNumbered made) (λ _. (first, later)) (λ _. later)

  pub all_numbered : AreNumbered made (needed_rules made target)
  all_numbered = numbered_from 0 made (λ k m h. let same : k ≡ 0 + k = omega arith in subst (λ n. slice_get made n ≡ Some m) same h)

  pub starts : (numbers : List ℕ) (expansions : Expansions) → reverse numbers ≡ map (λ e. e.0) (needed_rules made target) → expansions ≡ [] → IsUnderWay numbers expansions
  starts numbers expansions e none = record {
    rest = needed_rules made target;
    numbers_are = e;
    numbered = all_numbered;
    result = ap (λ es. expansion_from es (needed_rules made target) target) none;
  }

-- what is among the first rules is among more of them
pub among_more : (few many : ℕ) (o : Origin) → few ≤ many → IsAmongFirst few o → IsAmongFirst many o
among_more few many (origin.Generator n) more h = tt
among_more few many (origin.Rule n) more h = (h.0, omega (arith, h.1))
