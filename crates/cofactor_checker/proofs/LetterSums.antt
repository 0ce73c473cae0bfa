-- Sums of rows over the letters of a quiver have words over these letters alone, and so do the polynomials of lemmas.
use Rattle.cofactor_checker.proofs.Prelude.{ltb-true, lt-ltb, ◌≡◌, ◌≢◌, inl, inr, ℕ, zero, suc, ℤ, pos, ◌+ℤ◌, ◌*ℤ◌, Bool, true, false, List, [], ◌∷◌, ◌++◌, refl, sym, ap, ap₂, subst, ◌∙◌, get_or, ltb, and_parts, and_from, Decides-int_eq, All-head, All-tail, All-map, list_all-append, AllPass-from_list_all, list_all-from_AllPass, *ℤ-zero, AllByRecursion, list_all, int_eq, Term, word_eq, coefficient_of, poly_multiple, poly_between, Quiver, letters, source, leads, is_path, Row, generator_at, row_poly, row_sum, HasSignature, coefficient_of-append, coefficient_of-multiple, word_eq-true, coefficient_other, step, coefficient_of-between_zero, all-append, IsOver, collected, coefficient_of-collected, descending-collected, nonzero-collected, distinct-descending, words_listed, letter_count, quiver_of, letters-quiver_of, Lemma, Problem, polynomials, claims_have_signatures, generators_have_signatures, plain_rows, plain_sum, lemma_polynomial, lemma_polynomials, IsLeastIndivisible, LeavesRest, RefusesLemmas, All}
use Rattle.cofactor_checker.specs.declared.refusal.Refusal.TheVariants as refusal

module _ (q : Quiver) where
  -- whether all letters are letters of the quiver
  abbrev pub is_over : List ℕ → Bool
  is_over w = list_all (λ a. ltb a (letters q)) w

  -- no other word has a coefficient
  abbrev pub Stays : List (ℤ × List ℕ) → Type 0
  Stays p = (x : List ℕ) → is_over x ≡ false → coefficient_of p x ≡ pos 0

  -- no other word stands there
  abbrev pub Lists : List (ℤ × List ℕ) → Type 0
  Lists p = All (λ t. is_over t.1 ≡ true) p

  pub clash : (b : Bool) → b ≡ true → b ≡ false → ⊥
  clash true one other = absurd cc
  clash false one other = absurd cc

  pub not_true : (b : Bool) → (b ≡ true → ⊥) → b ≡ false
  not_true true never = absurd (never refl)
  not_true false never = refl

  -- what has no coefficient but zero
  pub zero_from : (n : ℤ) → (n ≢ pos 0 → ⊥) → n ≡ pos 0
  zero_from n never = go (int_eq n (pos 0)) refl
    where
      go : (b : Bool) → int_eq n (pos 0) ≡ b → n ≡ pos 0
      go true is = (Decides-int_eq n (pos 0)).0 is
      go false is = absurd (never (λ same. clash (int_eq n (pos 0)) ((Decides-int_eq n (pos 0)).1 same) is))

  pub leads_over : (u v : ℕ) (w : List ℕ) → leads q u v w ≡ true → is_over w ≡ true
  leads_over u v [] is = refl
  leads_over u v (a ∷ w) is =
      let s = step q u v a w is in
      and_from (ltb a (letters q)) _ (and_parts (ltb a (letters q)) _ is).0 (leads_over u (source q a) w s.rest)

  pub path_over : (u v : ℕ) (w : List ℕ) → is_path q u v w ≡ true → is_over w ≡ true
  path_over u v [] is = refl
  path_over u v (a ∷ w) is = leads_over u v (a ∷ w) is

  -- a word with a coefficient is over the letters
  over_where : (p : List (ℤ × List ℕ)) → Stays p → (w : List ℕ) → coefficient_of p w ≢ pos 0 → is_over w ≡ true
  over_where p stays w there = go (is_over w) refl
    where
      go : (b : Bool) → is_over w ≡ b → b ≡ true
      go true is = refl
      go false is = absurd (there (stays w is))

  pub typed_stays : (p : List (ℤ × List ℕ)) → HasSignature q p → Stays p
  typed_stays p has x past = zero_from (coefficient_of p x) (λ there. clash (is_over x) (path_over has.source has.target x (has.typed.at x there)) past)

  pub typed_stay : (ps : List (List (ℤ × List ℕ))) → AllByRecursion (HasSignature q) ps → AllByRecursion Stays ps
  typed_stay [] all = tt
  typed_stay (p ∷ ps) all = (typed_stays p all.0, typed_stay ps all.1)

  pub listed_stays : (p : List (ℤ × List ℕ)) → Lists p → Stays p
  listed_stays [] all x past = refl
  listed_stays (t ∷ p) all x past =
      let here = All-head (λ (u : Term). is_over u.1 ≡ true) t p all in
      coefficient_other x t p (not_true (word_eq t.1 x) (λ same. clash (is_over x) (ap is_over (sym (word_eq-true t.1 x same)) ∙ here) past))
      ∙ listed_stays p (All-tail (λ (u : Term). is_over u.1 ≡ true) t p all) x past

  pub multiple_stays : (k : ℤ) (p : List (ℤ × List ℕ)) → Stays p → Stays (poly_multiple k p)
  multiple_stays k p stays x past = coefficient_of-multiple k p x ∙ ap (λ n. k *ℤ n) (stays x past) ∙ *ℤ-zero k

  pub between_stays : (l r : List ℕ) (p : List (ℤ × List ℕ)) → is_over l ≡ true → is_over r ≡ true → Stays p → Stays (poly_between l p r)
  between_stays l r p left right stays x past = coefficient_of-between_zero l r x p other
    where
      other : (w : List ℕ) → coefficient_of p w ≢ pos 0 → word_eq (l ++ (w ++ r)) x ≡ false
      other w there = not_true (word_eq (l ++ (w ++ r)) x) (λ same.
          let inner = list_all-append (λ a. ltb a (letters q)) w r ∙ and_from (is_over w) (is_over r) (over_where p stays w there) right in
          let whole = list_all-append (λ a. ltb a (letters q)) l (w ++ r) ∙ and_from (is_over l) (is_over (w ++ r)) left inner in
          clash (is_over x) (ap is_over (sym (word_eq-true (l ++ (w ++ r)) x same)) ∙ whole) past)

  pub get_stays : (ps : List (List (ℤ × List ℕ))) (n : ℕ) → AllByRecursion Stays ps → Stays (get_or ps n [])
  get_stays [] n all = λ x past. refl
  get_stays (p ∷ ps) zero all = all.0
  get_stays (p ∷ ps) (suc n) all = get_stays ps n all.1

  pub at_stays : (ps : List (List (ℤ × List ℕ))) (n : ℕ) → AllByRecursion Stays ps → Stays (generator_at ps n)
  at_stays ps zero all = λ x past. refl
  at_stays ps (suc n) all = get_stays ps n all

  -- the words of each row are over the letters
  abbrev IsRowOver : Row → Type 0
  IsRowOver r = (is_over r.left ≡ true) × (is_over r.right ≡ true)

  abbrev pub AreOver : List Row → Type 0
  AreOver = All IsRowOver

  pub sum_stays : (generators : List (List (ℤ × List ℕ))) (rows : List Row) → AllByRecursion Stays generators → AreOver rows → Stays (row_sum generators rows)
  sum_stays generators [] all over x past = refl
  sum_stays generators (r ∷ rows) all over x past =
      let g : List (ℤ × List ℕ) = generator_at generators r.generator in
      let words = All-head IsRowOver r rows over in
      let row : Stays (row_poly generators r) = multiple_stays r.coefficient (poly_between r.left g r.right) (between_stays r.left r.right g words.0 words.1 (at_stays generators r.generator all)) in
      coefficient_of-append (row_poly generators r) (row_sum generators rows) x ∙ ap₂ ◌+ℤ◌ (row x past) (sum_stays generators rows all (All-tail IsRowOver r rows over) x past)

  -- a word at which a multiple and a sum differ
  pub difference_is_over : (k : ℤ) (claim sum : List (ℤ × List ℕ)) (word : List ℕ) (want got : ℤ) → Stays claim → Stays sum
      → coefficient_of (poly_multiple k claim) word ≡ want → coefficient_of sum word ≡ got → want ≢ got → is_over word ≡ true
  difference_is_over k claim sum word want got claim_stays stays wanted found differ = go (is_over word) refl
    where
      go : (b : Bool) → is_over word ≡ b → b ≡ true
      go true is = refl
      go false is = absurd (differ (sym wanted ∙ multiple_stays k claim claim_stays word is ∙ sym (stays word is) ∙ found))

  -- the words of each of its rows are over the letters
  abbrev pub IsLemmaOver : Lemma → Type 0
  IsLemmaOver l = All (λ r. (is_over r.left ≡ true) × (is_over r.right ≡ true)) l.rows

  pub collected_lists : (p : List (ℤ × List ℕ)) → Stays p → Lists (collected p)
  collected_lists p stays =
      words_listed (λ w. is_over w ≡ true) (collected p) (distinct-descending (collected p) (descending-collected p)) (nonzero-collected p)
      (λ w there. over_where p stays w (λ none. there (coefficient_of-collected p w ∙ none)))

  pub least_over : (scale : ℤ) (p : List (ℤ × List ℕ)) (word : List ℕ) (got : ℤ) → Lists p → IsLeastIndivisible scale p word got → is_over word ≡ true
  least_over scale [] word got all none = absurd none
  least_over scale (t ∷ p) word got all (inl later) = least_over scale p word got (All-tail (λ (u : Term). is_over u.1 ≡ true) t p all) later
  least_over scale (t ∷ p) word got all (inr here) = subst (λ (u : Term). is_over u.1 ≡ true) here.1.1 (All-head (λ (u : Term). is_over u.1 ≡ true) t p all)

  module _ (generators : List (List (ℤ × List ℕ))) (stay : AllByRecursion Stays generators) where
    pub plain_stays : (before : List (List (ℤ × List ℕ))) (l : Lemma) → AllByRecursion Stays before → IsLemmaOver l → Stays (plain_sum generators before l.rows)
    plain_stays before l earlier over = sum_stays (generators ++ before) (plain_rows generators before l.rows) (all-append Stays generators before stay earlier) (All-map IsRowOver _ l.rows over)

    pub lemma_lists : (before : List (List (ℤ × List ℕ))) (l : Lemma) → AllByRecursion Stays before → IsLemmaOver l → Lists (lemma_polynomial generators before l)
    lemma_lists before l earlier over =
        let sum : List (ℤ × List ℕ) = plain_sum generators before l.rows in
        All-map (λ (t : Term). is_over t.1 ≡ true) _ (collected sum) (collected_lists sum (plain_stays before l earlier over))

    pub lemma_stays : (before : List (List (ℤ × List ℕ))) (l : Lemma) → AllByRecursion Stays before → IsLemmaOver l → Stays (lemma_polynomial generators before l)
    lemma_stays before l earlier over = listed_stays (lemma_polynomial generators before l) (lemma_lists before l earlier over)

    -- a word of the sum of its rows that the scale doesn't divide
    pub rest_is_over : (before : List (List (ℤ × List ℕ))) (l : Lemma) (lemma : ℕ) (word : List ℕ) (got : ℤ) → AllByRecursion Stays before → IsLemmaOver l → LeavesRest generators before l lemma word got → is_over word ≡ true
    rest_is_over before l lemma word got earlier over leaves =
        let sum : List (ℤ × List ℕ) = plain_sum generators before l.rows in
        least_over l.scale (collected sum) word got (collected_lists sum (plain_stays before l earlier over)) leaves.least.least

    pub with_lemma : (before : List (List (ℤ × List ℕ))) (l : Lemma) → AllByRecursion Stays before → IsLemmaOver l → AllByRecursion Stays (before ++ lemma_polynomial generators before l ∷ [])
    with_lemma before l earlier over = all-append Stays before (lemma_polynomial generators before l ∷ []) earlier (lemma_stays before l earlier over, tt)

    pub lemmas_stay : (before : List (List (ℤ × List ℕ))) (lemmas : List Lemma) → AllByRecursion Stays before → All IsLemmaOver lemmas → AllByRecursion Stays (lemma_polynomials generators before lemmas)
    lemmas_stay before [] earlier over = tt
    lemmas_stay before (l ∷ lemmas) earlier over =
        let here = All-head IsLemmaOver l lemmas over in
        (lemma_stays before l earlier here, lemmas_stay (before ++ lemma_polynomial generators before l ∷ []) lemmas (with_lemma before l earlier here) (All-tail IsLemmaOver l lemmas over))

    -- a word that the scale of one of them doesn't divide
    pub indivisible_is_over : (before : List (List (ℤ × List ℕ))) (rows : ℕ) (lemmas : List Lemma) (lemma : ℕ) (word : List ℕ) (got : ℤ) → AllByRecursion Stays before → All IsLemmaOver lemmas
        → RefusesLemmas generators before rows lemmas (refusal.NotDivisible lemma word got) → is_over word ≡ true
    indivisible_is_over before rows [] lemma word got earlier over none = absurd none
    indivisible_is_over before rows (l ∷ lemmas) lemma word got earlier over (inl leaves) = rest_is_over before l lemma word got earlier (All-head IsLemmaOver l lemmas over) leaves
    indivisible_is_over before rows (l ∷ lemmas) lemma word got earlier over (inr later) =
        indivisible_is_over (before ++ lemma_polynomial generators before l ∷ []) _ lemmas lemma word got (with_lemma before l earlier (All-head IsLemmaOver l lemmas over)) (All-tail IsLemmaOver l lemmas over) later.1

-- over a problem
module _ (problem : Problem) where
  abbrev pub drawn : Quiver
  drawn = quiver_of problem.parts.quiver

  pub word_over : (w : List ℕ) → IsOver (letter_count problem.parts.quiver) w → is_over drawn w ≡ true
  word_over w over =
      let inside : IsOver (letters drawn) w = subst (λ n. IsOver n w) (sym (letters-quiver_of problem.parts.quiver)) over in
      list_all-from_AllPass (λ a. ltb a (letters drawn)) w (λ k a below. lt-ltb (get_or w k a) (letters drawn) (inside k a below))

  pub over_word : (w : List ℕ) → is_over drawn w ≡ true → IsOver (letter_count problem.parts.quiver) w
  over_word w is =
      let inside : IsOver (letters drawn) w = λ k a below. ltb-true (get_or w k a) (letters drawn) (AllPass-from_list_all (λ b. ltb b (letters drawn)) w is k a below) in
      subst (λ n. IsOver n w) (letters-quiver_of problem.parts.quiver) inside

  pub generators_stay : AllByRecursion (Stays drawn) (polynomials problem.generators)
  generators_stay = typed_stay drawn (polynomials problem.generators) (generators_have_signatures problem.parts problem.posed problem.generators problem.closed)

  pub claim_stays : (number : ℕ) → Stays drawn (generator_at (polynomials problem.parts.claims) number)
  claim_stays number = at_stays drawn (polynomials problem.parts.claims) number (typed_stay drawn (polynomials problem.parts.claims) (claims_have_signatures problem.parts problem.posed))
