-- The order of words, by the tokens of their letters.
use Rattle.block_text.proofs.Prelude.{◌≡◌, ◌<◌, ◌==◌, ℕ, suc, Bool, true, false, nat_lt, eq-eqb, eqb-true, ltb-true, List, [], ◌∷◌, Some, arith, refl, sym, ap, ◌∙◌, subst, length, AllZip, option_map, nat_cmp, ordering_then, slice_cmp, Ordering, Less, Equal, Greater, and_parts, false_from_ne_true, lt-ltb, ltb-false, ne_eqb, All-cons, All-head, option_and_then_some, Poly, Term, word_cmp, Descends, IsBelow, descends_one, higher, Declaration, letter_of, word_of, Line, TermTokens, IsTermOf, is_greater, letters_cmp, words_cmp, descend_behind, descend}
use Rattle.block_text.proofs.PolynomialTerms.{some_same, greater_from}
use Rattle.block_text.proofs.Results.{option_map_some}

then_equal : (o : Ordering) → ordering_then o Equal ≡ o
then_equal Less = refl
then_equal Equal = refl
then_equal Greater = refl

then_assoc : (a b c : Ordering) → ordering_then (ordering_then a b) c ≡ ordering_then a (ordering_then b c)
then_assoc Less b c = refl
then_assoc Equal b c = refl
then_assoc Greater b c = refl

less_first : (k : ℕ) → 0 < k → nat_cmp 0 k ≡ Less
less_first k some = rw (lt-ltb 0 k some) refl

greater_first : (k : ℕ) → nat_cmp (suc k) 0 ≡ Greater
greater_first k =
    let no_less : nat_lt (suc k) 0 ≡ false = false_from_ne_true (nat_lt (suc k) 0) (λ less. omega (arith, ltb-true (suc k) 0 less)) in
    rw (no_less, ne_eqb (suc k) 0 (λ e. omega (arith, e))) refl

less_more : (m n : ℕ) (b : Bool) → nat_lt m n ≡ b → nat_lt (suc m) (suc n) ≡ nat_lt m n
less_more m n true less = lt-ltb (suc m) (suc n) (omega (arith, ltb-true m n less)) ∙ sym less
less_more m n false less = false_from_ne_true (nat_lt (suc m) (suc n)) (λ more. omega (arith, ltb-true (suc m) (suc n) more, ltb-false m n less)) ∙ sym less

same_more : (m n : ℕ) (b : Bool) → (m == n) ≡ b → (suc m == suc n) ≡ (m == n)
same_more m n true same = eq-eqb (suc m) (suc n) (ap suc (eqb-true m n same)) ∙ sym same
same_more m n false same = ne_eqb (suc m) (suc n) (λ e. absurd (let equal : (m == n) ≡ true = eq-eqb m n (omega (arith, e)) in cc)) ∙ sym same

both_more : (m n : ℕ) → nat_cmp (suc m) (suc n) ≡ nat_cmp m n
both_more m n = rw (less_more m n _ refl, same_more m n _ refl) refl

module _ (ds : List Declaration) where
  -- the word of letters is that of the first one before that of the others
  first_letter : {P : Type 0} (x : List ℕ) (xs : Line) (v : List ℕ) → word_of ds (x ∷ xs) ≡ Some v
      → ((a : ℕ) (u : List ℕ) → letter_of ds x ≡ Some a → word_of ds xs ≡ Some u → a ∷ u ≡ v → P) → P
  first_letter x xs v says use_it =
      option_and_then_some (λ a. option_map (λ u. a ∷ u) (word_of ds xs)) (letter_of ds x) v says (λ a found rest.
      option_map_some (λ u. a ∷ u) (word_of ds xs) v rest (λ u there same. use_it a u found there same))

  abbrev Order : Ordering → List ℕ → List ℕ → Ordering
  Order o v w = ordering_then (nat_cmp (length v) (length w)) (ordering_then o (slice_cmp nat_cmp v w))

  words_order : (xs ys : Line) (v w : List ℕ) (o : Ordering) → word_of ds xs ≡ Some v → word_of ds ys ≡ Some w → words_cmp ds o xs ys ≡ Order o v w
  words_order [] [] v w o v_says w_says =
      let v_is : [] ≡ v = some_same [] v v_says in
      let w_is : [] ≡ w = some_same [] w w_says in
      subst (λ (u : List ℕ). o ≡ Order o u w) v_is (subst (λ (u : List ℕ). o ≡ Order o [] u) w_is (sym (then_equal o)))
  words_order [] (y ∷ ys) v w o v_says w_says =
      let v_is : [] ≡ v = some_same [] v v_says in
      first_letter y ys w w_says (λ b u found there w_is.
      subst (λ (t : List ℕ). Less ≡ Order o t w) v_is (subst (λ (t : List ℕ). Less ≡ Order o [] t) w_is
      (sym (ap (λ c. ordering_then c (ordering_then o Less)) (less_first (length (b ∷ u)) (omega arith))))))
  words_order (x ∷ xs) [] v w o v_says w_says =
      let w_is : [] ≡ w = some_same [] w w_says in
      first_letter x xs v v_says (λ a u found there v_is.
      subst (λ (t : List ℕ). Greater ≡ Order o t w) v_is (subst (λ (t : List ℕ). Greater ≡ Order o (a ∷ u) t) w_is
      (sym (ap (λ c. ordering_then c (ordering_then o Greater)) (greater_first (length u))))))
  words_order (x ∷ xs) (y ∷ ys) v w o v_says w_says =
      first_letter x xs v v_says (λ a t a_found t_there v_is.
      first_letter y ys w w_says (λ b u b_found u_there w_is.
      let first : letters_cmp (letter_of ds x) (letter_of ds y) ≡ nat_cmp a b = rw (a_found, b_found) refl in
      let rest = words_order xs ys t u (ordering_then o (nat_cmp a b)) t_there u_there in
      let more : Order (ordering_then o (nat_cmp a b)) t u ≡ Order o (a ∷ t) (b ∷ u) =
      ap (λ c. ordering_then (nat_cmp (length t) (length u)) c) (then_assoc o (nat_cmp a b) (slice_cmp nat_cmp t u))
      ∙ ap (λ c. ordering_then c (ordering_then o (slice_cmp nat_cmp (a ∷ t) (b ∷ u)))) (sym (both_more (length t) (length u))) in
      subst (λ (s : List ℕ). words_cmp ds o (x ∷ xs) (y ∷ ys) ≡ Order o s w) v_is (subst (λ (s : List ℕ). words_cmp ds o (x ∷ xs) (y ∷ ys) ≡ Order o (a ∷ t) s) w_is
      (ap (λ c. words_cmp ds (ordering_then o c) xs ys) first ∙ rest ∙ more))))

  pub words_are : (xs ys : Line) (v w : List ℕ) → word_of ds xs ≡ Some v → word_of ds ys ≡ Some w → words_cmp ds Equal xs ys ≡ word_cmp v w
  words_are xs ys v w v_says w_says = words_order xs ys v w Equal v_says w_says

  descends_behind : (t : TermTokens) (x : Term) (ts : List TermTokens) (p : Poly) → IsTermOf ds t x → AllZip (IsTermOf ds) ts p → descend_behind ds t ts ≡ true → Descends (x ∷ p)
  descends_behind t x [] [] says each known = descends_one x
  descends_behind t x [] (y ∷ p) says each known = absurd each
  descends_behind t x (u ∷ ts) [] says each known = absurd each
  descends_behind t x (u ∷ ts) (y ∷ p) says each known =
      let parts : (is_greater (words_cmp ds Equal t.letters u.letters) ≡ true) × (descend_behind ds u ts ≡ true) = and_parts _ _ known in
      let above : word_cmp x.1 y.1 ≡ Greater = sym (words_are t.letters u.letters x.1 y.1 says.letters each.0.letters) ∙ greater_from (words_cmp ds Equal t.letters u.letters) parts.0 in
      let rest = descends_behind u y ts p each.0 each.1 parts.1 in
      (All-cons (IsBelow x.1) y p above (higher x.1 y.1 p above rest.0), rest)

  pub descends_is : (ts : List TermTokens) (p : Poly) → AllZip (IsTermOf ds) ts p → descend ds ts ≡ true → Descends p
  descends_is [] [] each known = tt
  descends_is [] (y ∷ p) each known = absurd each
  descends_is (t ∷ ts) [] each known = absurd each
  descends_is (t ∷ ts) (x ∷ p) each known = descends_behind t x ts p each.0 each.1 known

  behind_there : (t : TermTokens) (x : Term) (ts : List TermTokens) (p : Poly) → IsTermOf ds t x → AllZip (IsTermOf ds) ts p → Descends (x ∷ p) → descend_behind ds t ts ≡ true
  behind_there t x [] p says each descends = refl
  behind_there t x (u ∷ ts) [] says each descends = absurd each
  behind_there t x (u ∷ ts) (y ∷ p) says each descends =
      let first : words_cmp ds Equal t.letters u.letters ≡ Greater = words_are t.letters u.letters x.1 y.1 says.letters each.0.letters ∙ All-head (IsBelow x.1) y p descends.0 in
      rw (first, behind_there u y ts p each.0 each.1 descends.1) refl

  pub descends_there : (ts : List TermTokens) (p : Poly) → AllZip (IsTermOf ds) ts p → Descends p → descend ds ts ≡ true
  descends_there [] p each descends = refl
  descends_there (t ∷ ts) [] each descends = absurd each
  descends_there (t ∷ ts) (x ∷ p) each descends = behind_there t x ts p each.0 each.1 descends
