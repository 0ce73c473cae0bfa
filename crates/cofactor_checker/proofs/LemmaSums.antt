-- what an accepted certificate with lemmas shows
use Rattle.cofactor_checker.proofs.Prelude.{◌≡◌, ℕ, ℤ, List, [], ◌∷◌, ◌++◌, map, int_div, refl, sym, ap, ap₂, ◌∙◌, arith, ◌∣◌, unsigned_abs, ints, All-head, All-tail, All-push, coefficient_of, poly_multiple, poly_sum, poly_between, collected, coefficient_of-collected, quotient_times, Lemma, LemmaRow, LemmaCertificate, lemma_sum, AddsUpTo, AreOfLemmas, IsShareOf, IsEvidenceOf, plain_sum, lemma_polynomial, lemma_polynomials, LemmaPasses, LemmasPass, goal_claim, all_polynomials, AcceptsLemmas, All}
use Rattle.cofactor_checker.proofs.Places.{stands_there}

-- the rows over generators and lemmas are those over one list
pub sums_agree : (gs ls : List (List (ℤ × List ℕ))) (rows : List LemmaRow) → lemma_sum gs ls rows ≡ plain_sum gs ls rows
sums_agree gs ls [] = refl
sums_agree gs ls (r ∷ rows) = ap₂ poly_sum (ap (λ g. poly_multiple r.coef (poly_between r.left g r.right)) (stands_there gs ls r.from)) (sums_agree gs ls rows)

times_back : (s : ℤ) (p : List (ℤ × List ℕ)) → All (λ t. unsigned_abs s ∣ unsigned_abs t.0) p → poly_multiple s (map (λ t. (int_div t.0 s, t.1)) p) ≡ p
times_back s [] each = refl
times_back s (t ∷ p) each =
    let divides : ℤ × List ℕ → Type 0 = λ u. unsigned_abs s ∣ unsigned_abs u.0 in
    ap₂ (λ z q. (z, t.1) ∷ q) (quotient_times t.0 s (All-head divides t p each)) (times_back s p (All-tail divides t p each))

pub lemma_adds_up : (gs ps : List (List (ℤ × List ℕ))) (l : Lemma) → LemmaPasses gs ps l → AddsUpTo gs ps l (lemma_polynomial gs ps l)
lemma_adds_up gs ps l passes = record {
  at = λ w.
      ap (λ q. coefficient_of q w) (sums_agree gs ps l.rows) ∙ sym (coefficient_of-collected (plain_sum gs ps l.rows) w)
      ∙ sym (ap (λ q. coefficient_of q w) (times_back l.scale (collected (plain_sum gs ps l.rows)) passes.made.divisible.each));
}

lemmas_add_up : (gs ps : List (List (ℤ × List ℕ))) (lemmas : List Lemma) → LemmasPass gs ps lemmas → AreOfLemmas gs ps lemmas (lemma_polynomials gs ps lemmas)
lemmas_add_up gs ps [] pass = tt
lemmas_add_up gs ps (l ∷ lemmas) pass = (lemma_adds_up gs ps l pass.0, lemmas_add_up gs (ps ++ lemma_polynomial gs ps l ∷ []) lemmas pass.1)

pub shows : (claims gs : List (List (ℤ × List ℕ))) (c : LemmaCertificate) → AcceptsLemmas claims gs c → IsEvidenceOf gs (all_polynomials gs c) c (goal_claim claims c)
shows claims gs c accepted =
    let begins = accepted.adds_up.lemmas.begins in
    let positive = begins.shares.posed.positive in
    let least = positive.denominator in
    let goal_least = positive.goal in
    record {
      positive = omega (arith, ints, least);
      shares = All-push (IsShareOf c.denominator) c.lemmas c.goal
          (λ k d below. (let scale = positive.lemmas k d below in omega (arith, ints, scale), begins.shares.tight.lemmas.each k d below))
          (omega (arith, ints, goal_least), begins.shares.tight.goal);
      lemmas_add_up = lemmas_add_up gs [] c.lemmas accepted.adds_up.lemmas.lemmas;
      goal_adds_up = record { at = λ w. ap (λ q. coefficient_of q w) (sums_agree gs (all_polynomials gs c) c.goal.rows) ∙ accepted.sum.at w };
    }
