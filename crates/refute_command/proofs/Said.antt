-- The verdicts on claims, one after another, by the candidates that were found for them.
use Rattle.refute_command.proofs.Prelude.{◌≡◌, ℕ, List, [], ◌∷◌, ◌++◌, Option, IfSome, IfNone, refl, sym, subst, ◌∙◌, append_assoc, append-nil, AllZip, Problem, IsLeastBreaking, NoneBreaks, Found, IsFoundFor, Verdict, zip_push, IsSearchedOn}

zip_both : {A B : Type 0} (R S : A → B → Type 0) (xs : List A) (ys : List B) → AllZip R xs ys → AllZip S xs ys → AllZip (λ x y. R x y × S x y) xs ys
zip_both R S [] [] one other = tt
zip_both R S [] (y ∷ ys) one other = absurd one
zip_both R S (x ∷ xs) [] one other = absurd one
zip_both R S (x ∷ xs) (y ∷ ys) one other = ((one.0, other.0), zip_both R S xs ys one.1 other.1)

module _ (problem : Problem) (seed : ℕ) where
  -- The first claims have their verdicts, and the others the candidates that are left.
  pub record SaidSoFar (claims : List ℕ) (verdicts : List Verdict) (left : List (Option Found)) : Type 0 where
    pub front : List ℕ
    pub back : List ℕ
    pub splits : claims ≡ front ++ back
    pub said : AllZip (IsSearchedOn problem seed) front verdicts
    pub found : AllZip (IsFoundFor problem seed) back left

  pub said_none : (asked claims : List ℕ) (verdicts : List Verdict) (found left : List (Option Found)) → asked ≡ claims → left ≡ found → verdicts ≡ []
      → AllZip (λ claim one. IfSome one (λ (f : Found). IsLeastBreaking problem claim seed f.shape f.candidate f.model)) asked found
      → AllZip (λ claim one. IfNone one (NoneBreaks problem claim seed)) asked found
      → SaidSoFar claims verdicts left
  said_none asked claims verdicts found left same items empty some none = record {
    front = [];
    back = claims;
    splits = refl;
    said = subst (λ vs. AllZip (IsSearchedOn problem seed) [] vs) (sym empty) tt;
    found = subst (AllZip (IsFoundFor problem seed) claims) (sym items)
        (subst (λ cs. AllZip (IsFoundFor problem seed) cs found) same (zip_both _ _ asked found some none));
  }

  pub said_more : (claims : List ℕ) (verdicts more : List Verdict) (left later : List (Option Found)) (one : Option Found) (v : Verdict)
      → SaidSoFar claims verdicts left → left ≡ one ∷ later → more ≡ verdicts ++ v ∷ []
      → ((claim : ℕ) → IsFoundFor problem seed claim one → IsSearchedOn problem seed claim v) → SaidSoFar claims more later
  said_more claims verdicts more left later one v so_far steps pushed says =
      go so_far.back so_far.splits (subst (AllZip (IsFoundFor problem seed) so_far.back) steps so_far.found)
    where
      go : (back : List ℕ) → claims ≡ so_far.front ++ back → AllZip (IsFoundFor problem seed) back (one ∷ later) → SaidSoFar claims more later
      go [] splits found = absurd found
      go (claim ∷ back) splits found = record {
        front = so_far.front ++ claim ∷ [];
        back = back;
        splits = splits ∙ sym (append_assoc so_far.front (claim ∷ []) back);
        said = subst (AllZip (IsSearchedOn problem seed) (so_far.front ++ claim ∷ [])) (sym pushed)
            (zip_push (IsSearchedOn problem seed) so_far.front verdicts claim v so_far.said (says claim found.0));
        found = found.1;
      }

  pub said_all : (claims : List ℕ) (verdicts : List Verdict) (left : List (Option Found)) → SaidSoFar claims verdicts left → left ≡ []
      → AllZip (IsSearchedOn problem seed) claims verdicts
  said_all claims verdicts left so_far empty =
      go so_far.back so_far.splits (subst (AllZip (IsFoundFor problem seed) so_far.back) empty so_far.found)
    where
      go : (back : List ℕ) → claims ≡ so_far.front ++ back → AllZip (IsFoundFor problem seed) back [] → AllZip (IsSearchedOn problem seed) claims verdicts
      go [] splits found = subst (λ cs. AllZip (IsSearchedOn problem seed) cs verdicts) (sym (splits ∙ append-nil so_far.front)) so_far.said
      go (claim ∷ back) splits found = absurd found
