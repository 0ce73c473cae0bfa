-- Items vanish one after another, and with them the claim.
use Rattle.cancel_rules.proofs.Prelude.{◌≡◌, ◌≢◌, ℕ, ◌<◌, ℤ, true, List, [], ◌∷◌, ◌++◌, All, sym, refl, ap, ap₂, subst, ◌∙◌, append_assoc, append-nil, and_from, All-head, All-tail, All-contains, AllByRecursion, list_all, Structure, PreadditiveLaws, InvolutionLaws, SamePolynomial, poly_between, Quiver, IsQuiver, letters, Representation, Represents, Cancels, generator_at, HasSignature, HasValueZero, all-append, star_sound, value_at-linear, IsMonic, IsEpic, Lemma, AddsUpTo, IsShareOf, Side, Item, Cancellation, put_back, declared_for, IsOfItem, AreOfItems, AreMonic, AreEpic, IsCancellationSound, IsCancellationStarSound}
use Rattle.representations.proofs.Lemmas as lemmas
use Rattle.cancel_rules.specs.declared.cancellation.Side.TheVariants as side
use Rattle.cancel_rules.specs.declared.cancellation.Item.TheVariants as item
use Rattle.cancel_rules.proofs.Stripped.{is_some, IsNothing, whole_is_zero, front_is_nothing, behind_is_nothing}

some_word : (w : List ℕ) → w ≢ [] → is_some w ≡ true
some_word [] some = absurd (some refl)
some_word (a ∷ w) some = refl

-- no word is empty
some_words : (p : List (ℤ × List ℕ)) → All (λ t. t.1 ≢ []) p → list_all (λ t. is_some t.1) p ≡ true
some_words [] all = refl
some_words (t ∷ p) all = and_from (is_some t.1) (list_all (λ u. is_some u.1) p) (some_word t.1 (All-head (λ (u : ℤ × List ℕ). u.1 ≢ []) t p all)) (some_words p (All-tail (λ (u : ℤ × List ℕ). u.1 ≢ []) t p all))

put_back_front : (a : ℕ) (p : List (ℤ × List ℕ)) → put_back side.Left a p ≡ poly_between (a ∷ []) p []
put_back_front a [] = refl
put_back_front a (t ∷ p) = ap₂ (λ w rest. (t.0, a ∷ w) ∷ rest) (sym (append-nil t.1)) (put_back_front a p)

put_back_behind : (a : ℕ) (p : List (ℤ × List ℕ)) → put_back side.Right a p ≡ poly_between [] p (a ∷ [])
put_back_behind a [] = refl
put_back_behind a (t ∷ p) = ap (λ rest. (t.0, t.1 ++ a ∷ []) ∷ rest) (put_back_behind a p)

module _ {Object Arrow : Type 0} {s : Structure Object Arrow} (laws : PreadditiveLaws s) (q : Quiver) (quiver : IsQuiver q) (f : Representation Object Arrow) (rep : Represents s q f) where
  abbrev Nothing : List (ℤ × List ℕ) → Type 0
  Nothing = IsNothing laws q quiver f rep

  -- at each signature, or at one
  at_each : (ps : List (List (ℤ × List ℕ))) → ((u v : ℕ) (in_u : u < q.objects) (in_v : v < q.objects) → AllByRecursion (lemmas.IsNothing laws q f rep u v in_u in_v) ps) → AllByRecursion (IsNothing laws q quiver f rep) ps
  at_each [] all = tt
  at_each (p ∷ ps) all = (λ u v in_u in_v. (all u v in_u in_v).0, at_each ps (λ u v in_u in_v. (all u v in_u in_v).1))

  at_one : (u v : ℕ) (in_u : u < q.objects) (in_v : v < q.objects) (ps : List (List (ℤ × List ℕ))) → AllByRecursion (IsNothing laws q quiver f rep) ps → AllByRecursion (lemmas.IsNothing laws q f rep u v in_u in_v) ps
  at_one u v in_u in_v [] all = tt
  at_one u v in_u in_v (p ∷ ps) all = (all.0 u v in_u in_v, at_one u v in_u in_v ps all.1)

  generators_vanish : (generators : List (List (ℤ × List ℕ))) → AllByRecursion (HasSignature q) generators → AllByRecursion (HasValueZero s q f) generators → AllByRecursion (IsNothing laws q quiver f rep) generators
  generators_vanish generators typed vanish = at_each generators (λ u v in_u in_v. lemmas.generators_vanish laws q f rep u v in_u in_v generators typed vanish)

  nothing_at : (ps : List (List (ℤ × List ℕ))) → AllByRecursion (IsNothing laws q quiver f rep) ps → (n : ℕ) → IsNothing laws q quiver f rep (generator_at ps n)
  nothing_at ps all n u v in_u in_v = lemmas.nothing_at laws q f rep u v in_u in_v ps (at_one u v in_u in_v ps all) n

  module _ (generators before : List (List (ℤ × List ℕ))) (none_of : AllByRecursion (IsNothing laws q quiver f rep) generators) (none_so_far : AllByRecursion (IsNothing laws q quiver f rep) before) where
    lemma_vanishes : (d : ℤ) → Cancels s d → (l : Lemma) (p : List (ℤ × List ℕ)) → IsShareOf d l → AddsUpTo generators before l p → IsNothing laws q quiver f rep p
    lemma_vanishes d cancels l p share adds_up u v in_u in_v =
        lemmas.lemma_vanishes laws q f rep u v in_u in_v generators before (at_one u v in_u in_v generators none_of) (at_one u v in_u in_v before none_so_far) d cancels l p share adds_up

  module _ (proof : Cancellation) (in_quiver : (end : Side) → All (λ a. a.0 < letters q) (declared_for proof end)) (cancels : Cancels s proof.denominator)
      (monic : AreMonic s f proof.monic) (epic : AreEpic s f proof.epic) (generators : List (List (ℤ × List ℕ))) (none_of : AllByRecursion (IsNothing laws q quiver f rep) generators) where
    item_vanishes : (before : List (List (ℤ × List ℕ))) → AllByRecursion (IsNothing laws q quiver f rep) before → (i : Item) (p : List (ℤ × List ℕ)) → IsOfItem q proof generators before i p → IsNothing laws q quiver f rep p
    item_vanishes before none_so_far (item.Lemma l) p is = lemma_vanishes generators before none_of none_so_far proof.denominator cancels l p is.0 is.1
    item_vanishes before none_so_far (item.Cancel letter side.Left number) p is =
        let whole = generator_at before number in
        front_is_nothing laws q quiver f rep letter.0 (All-contains (λ a. a.0 < letters q) proof.monic letter (in_quiver side.Left) is.declared) whole p is.typed
        (some_words p is.words) (subst (SamePolynomial whole) (put_back_front letter.0 p) is.same)
        (All-contains (λ a. IsMonic s (f.arrow a.0)) proof.monic letter monic is.declared) (nothing_at before none_so_far number)
    item_vanishes before none_so_far (item.Cancel letter side.Right number) p is =
        let whole = generator_at before number in
        behind_is_nothing laws q quiver f rep letter.0 (All-contains (λ a. a.0 < letters q) proof.epic letter (in_quiver side.Right) is.declared) whole p is.typed
        (some_words p is.words) (subst (SamePolynomial whole) (put_back_behind letter.0 p) is.same)
        (All-contains (λ a. IsEpic s (f.arrow a.0)) proof.epic letter epic is.declared) (nothing_at before none_so_far number)

    items_vanish : (before : List (List (ℤ × List ℕ))) → AllByRecursion (IsNothing laws q quiver f rep) before → (items : List Item) (ps : List (List (ℤ × List ℕ))) → AreOfItems q proof generators before items ps
        → AllByRecursion (IsNothing laws q quiver f rep) (before ++ ps)
    items_vanish before none_so_far [] [] are = subst (AllByRecursion (IsNothing laws q quiver f rep)) (sym (append-nil before)) none_so_far
    items_vanish before none_so_far [] (p ∷ ps) are = absurd are
    items_vanish before none_so_far (i ∷ items) [] are = absurd are
    items_vanish before none_so_far (i ∷ items) (p ∷ ps) are =
        let this = item_vanishes before none_so_far i p are.0 in
        subst (AllByRecursion (IsNothing laws q quiver f rep)) (append_assoc before (p ∷ []) ps)
        (items_vanish (before ++ p ∷ []) (all-append (IsNothing laws q quiver f rep) before (p ∷ []) none_so_far (this, tt)) items ps are.1)

-- the laws
pub cancellation_sound : {Object Arrow : Type 0} {s : Structure Object Arrow} → PreadditiveLaws s → IsCancellationSound s
cancellation_sound laws = record {
  proofs = λ q generators items proof claim quiver typed is. record {
    zero = λ f rep cancels monic epic vanish. record {
      at = λ u v in_u in_v claim_typed.
          let none_of = generators_vanish laws q quiver f rep generators typed vanish in
          let none_so_far = items_vanish laws q quiver f rep proof is.in_quiver cancels monic epic generators none_of [] tt proof.items items is.items in
          value_at-linear laws q f rep u v in_u in_v claim
          ∙ whole_is_zero laws q quiver f rep claim (lemma_vanishes laws q quiver f rep generators items none_of none_so_far proof.denominator cancels proof.goal claim is.share is.goal) u v in_u in_v;
    };
  };
}

pub cancellation_star_sound : {Object Arrow : Type 0} {s : Structure Object Arrow} {adjoint : Arrow → Arrow} → PreadditiveLaws s → InvolutionLaws s adjoint → IsCancellationStarSound s adjoint
cancellation_star_sound laws involution = record {
  proofs = λ q starred marked assumptions items proof claim quiver in_range typed is f rep cancels monic epic vanish.
      ((cancellation_sound laws).proofs q _ items proof claim quiver typed is).zero f rep.represents cancels monic epic
      ((star_sound laws involution).generators q starred marked assumptions quiver in_range f rep vanish);
}
