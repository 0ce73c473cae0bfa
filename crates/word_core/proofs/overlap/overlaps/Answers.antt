use Rattle.word_core.proofs.Prelude.{◌≡◌, ◌+◌, ◌-◌, ◌∷◌, ◌++◌, [], ℕ, filter, cond, sym, ap, ◌∙◌, arith, rules, true, false, Bool, refl, range_with_len, map-id, append-nil, map-range_with_len_more, filter-append, overlaps_at}
use Rattle.word_core.proofs.overlap.overlaps.Goals as goal
use Rattle.word_core.proofs.overlap.overlaps.Goals.{then-overlaps_at+in_ok-push, else-overlaps_at}

range-more : (a n : ℕ) → range_with_len a (n + 1) ≡ range_with_len a n ++ (a + n) ∷ []
range-more a n =
    sym (map-id (range_with_len a (n + 1))) ∙ map-range_with_len_more (λ k. k) a n (a + n) refl
    ∙ ap (λ l. l ++ (a + n) ∷ []) (map-id (range_with_len a n))

filter-more : (p : ℕ → Bool) (k m : ℕ) → 1 + m ≡ k
    → filter p (range_with_len 1 (k + 1 - 1)) ≡ filter p (range_with_len 1 (k - 1)) ++ cond (p k) (k ∷ []) []
filter-more p k m e =
    let one : k + 1 - 1 ≡ m + 1 = omega arith in
    let less : k - 1 ≡ m = omega arith in
    ap (λ n. filter p (range_with_len 1 n)) one ∙ ap (filter p) (range-more 1 m)
    ∙ filter-append p (range_with_len 1 m) ((1 + m) ∷ [])
    ∙ ap (λ j. filter p (range_with_len 1 m) ++ cond (p j) (j ∷ []) []) e
    ∙ ap (λ n. filter p (range_with_len 1 n) ++ cond (p k) (k ∷ []) []) (sym less)

pub loop-place-preserved : goal.loop-place-preserved
loop-place-preserved c =
    let p = overlaps_at c.args.left.now c.args.right.now in
    let k = c.loop-place.place in
    let more = filter-more p k (k - 1) (omega arith) in
    let same : c.if-overlaps_at.places ≡ filter p (range_with_len 1 (k + 1 - 1)) = elim c.if-overlaps_at.branch [
      | then-overlaps_at+in_ok-push w ↦
          let yes : p k ≡ true = cc in
          let now : c.if-overlaps_at.places ≡ c.loop-place.places ++ k ∷ [] = search rules in
          now ∙ ap (λ l. l ++ k ∷ []) c.loop-place.invariant.same ∙ sym (more ∙ rw yes refl)
      | else-overlaps_at w ↦
          let no : p k ≡ false = cc in
          w.places-is ∙ c.loop-place.invariant.same ∙ sym (more ∙ rw (no, append-nil) refl)
    ] in
    record { within = omega arith; same = same }

pub returns : goal.returns
returns c = c.loop-place.invariant.same ∙ ap (λ n. filter (overlaps_at c.args.left.now c.args.right.now) (range_with_len 1 n)) (grind arith)
