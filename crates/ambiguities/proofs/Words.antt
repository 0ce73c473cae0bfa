-- Words that have letters, all below a number: reductions and S-polynomials keep them.
use Rattle.ambiguities.proofs.Prelude.{◌≡◌, ◌<◌, ◌+◌, ℕ, ℤ, List, ◌++◌, length, take, drop, Some, Ok, sym, ap, ◌∙◌, subst, arith, get_or, All, length-append, All-contains, All-append, All-take, All-drop, All-map, Term, poly_between, IsOver, Compare, scaled, products, aligned, added, sums, combined, and_then, sized-value, finished-value, all-scaled, all-totals, all-aligned, Rule, State, Choice, IsRule, rule_at, entries_of, choice_of, moved, move_of, start_of, normal_form_of, found, each-moved, rule_at-all, rule_at-polynomial, reduction_keeps, Ambiguity, IsAmbiguity, lead_at, overlap_word_of, first_row, second_row, row_multiple, s_polynomial_of}
use Rattle.ambiguities.proofs.Bounds.{over_overlap_word}
use Rattle.ambiguities.proofs.Multiples.{passed}

combined_is : (a : ℤ) (p : List Term) (b : ℤ) (q r : List Term) → combined a p b q ≡ Ok r → added (scaled a p) (scaled b q) ≡ r
combined_is a p b q r ends = finished-value (products a p ++ (products b q ++ sums (scaled a p) (scaled b q))) (added (scaled a p) (scaled b q)) r ends

-- words
module _ (letters : ℕ) where
  abbrev pub IsWord : List ℕ → Type 0
  IsWord w = (0 < length w) × IsOver letters w

  abbrev pub AreWords : List Term → Type 0
  AreWords p = All (λ t. IsWord t.1) p

  pub words_from : (p : List Term) → All (λ t. 0 < length t.1) p → All (λ t. IsOver letters t.1) p → AreWords p
  words_from p some over i t k = (some i t k, over i t k)

  pub words_nonempty : (p : List Term) → AreWords p → All (λ t. 0 < length t.1) p
  words_nonempty p each i t k = (each i t k).0

  pub words_over : (p : List Term) → AreWords p → All (λ t. IsOver letters t.1) p
  words_over p each i t k = (each i t k).1

  word_around : (l w r : List ℕ) → IsOver letters l → IsOver letters r → IsWord w → IsWord (l ++ (w ++ r))
  word_around l w r left right is = (
    omega (arith, length-append l (w ++ r), length-append w r, is.0),
    All-append (λ a. a < letters) l (w ++ r) left (All-append (λ a. a < letters) w r is.1 right),
  )

  words_around : (l r : List ℕ) → IsOver letters l → IsOver letters r → (p : List Term) → AreWords p → All (λ t. IsWord (l ++ (t.1 ++ r))) p
  words_around l r left right p each i t k = word_around l (get_or p i t).1 r left right (each i t k)

  words_between : (l r : List ℕ) → IsOver letters l → IsOver letters r → (p : List Term) → AreWords p → AreWords (poly_between l p r)
  words_between l r left right p each = All-map (λ (t : Term). IsWord t.1) (λ (t : Term). (t.0, l ++ (t.1 ++ r))) p (words_around l r left right p each)

  module _ (compare : Compare) (rules : List Rule) (are_rules : All (IsRule letters compare) rules) where
    rule_words : (n : ℕ) (g : Rule) → rule_at rules n ≡ Some g → AreWords g.poly.terms
    rule_words n g has =
        let is = rule_at-all (IsRule letters compare) rules n g has are_rules in
        words_from g.poly.terms is.nonempty is.over

    step_words : (c : Choice) (g : Rule) (s : State) → choice_of compare (entries_of rules) s.rest ≡ Some c → rule_at rules c.number ≡ Some g → AreWords s.rest → AreWords (moved (move_of c g) s).rest
    step_words c g s chosen has before =
        let one = found compare rules s.rest c chosen in
        let word : IsWord c.word = All-contains (λ (t : Term). IsWord t.1) s.rest (c.coefficient, c.word) before one.term in
        each-moved IsWord (move_of c g) s before
        (words_around (take c.place c.word) (drop (c.place + length g.lead) c.word) (All-take (λ a. a < letters) c.place c.word word.1) (All-drop (λ a. a < letters) (c.place + length g.lead) c.word word.1) g.poly.terms (rule_words c.number g has))

    -- a reduction keeps them
    pub normal_words : (p : List Term) (steps : ℕ) (s : State) → AreWords p → normal_form_of compare rules p steps ≡ Ok s → AreWords s.rest
    normal_words p steps s each ends = (reduction_keeps (λ (t : State). AreWords t.rest) compare rules step_words steps steps (start_of p) s ends each).kept

    -- and so does an S-polynomial
    pub s_words : (a : Ambiguity) → IsAmbiguity rules a → (p : List Term) → s_polynomial_of rules a ≡ Ok p → AreWords p
    s_words a is p ends =
        let one = first_row rules a in
        let two = second_row rules a in
        let word : IsOver letters (overlap_word_of rules a) = over_overlap_word letters compare rules a are_rules is in
        let first = passed (row_multiple rules one) (λ m. and_then (row_multiple rules two) (λ n. combined one.coef m two.coef n)) p ends in
        let second = passed (row_multiple rules two) (λ n. combined one.coef first.value two.coef n) p first.rest in
        let left_words = words_between one.left one.right (λ i x inside. absurd (omega (arith, inside))) (All-drop (λ a. a < letters) (length (lead_at rules a.i)) (overlap_word_of rules a) word) is.first.poly.terms (rule_words a.i is.first is.first_numbered) in
        let right_words = words_between two.left two.right (All-take (λ a. a < letters) a.place (overlap_word_of rules a) word) (All-drop (λ a. a < letters) (a.place + length (lead_at rules a.j)) (overlap_word_of rules a) word) is.second.poly.terms (rule_words a.j is.second is.second_numbered) in
        let left : AreWords first.value = subst AreWords (ap (λ q. poly_between one.left q one.right) (sym (rule_at-polynomial rules a.i is.first is.first_numbered)) ∙ sized-value _ first.value first.given) left_words in
        let right : AreWords second.value = subst AreWords (ap (λ q. poly_between two.left q two.right) (sym (rule_at-polynomial rules a.j is.second is.second_numbered)) ∙ sized-value _ second.value second.given) right_words in
        subst AreWords (combined_is one.coef first.value two.coef second.value p second.rest)
        (all-totals IsWord (aligned (scaled one.coef first.value) (scaled two.coef second.value)) (all-aligned IsWord (scaled one.coef first.value) (scaled two.coef second.value) (all-scaled IsWord one.coef first.value left) (all-scaled IsWord two.coef second.value right)))
