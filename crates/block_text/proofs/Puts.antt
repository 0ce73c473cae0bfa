-- Parts of a text that are appended one after another.
use Rattle.block_text.proofs.Prelude.{◌≡◌, ◌<◌, ◌+◌, ℕ, List, [], ◌∷◌, ◌++◌, Result, Ok, Err, OnOk, length, take, get_or, sym, ap, ◌∙◌, flat_map-append, append-nil, take_more, flat_map}
use Rattle.std.proofs.Common.{append_assoc}

pub four_put : {E : Type 0} (r : Result (Unit {0}) E) (before first second third fourth one two three last : List ℕ) → one ≡ before ++ first → two ≡ one ++ second → three ≡ two ++ third
    → OnOk r (last ≡ three ++ fourth) → OnOk r (last ≡ before ++ (((first ++ second) ++ third) ++ fourth))
four_put (Ok done) before first second third fourth one two three last one_is two_is three_is last_is =
    last_is ∙ ap (λ x. x ++ fourth) (three_is ∙ ap (λ x. x ++ third) (two_is ∙ ap (λ x. x ++ second) one_is ∙ append_assoc before first second) ∙ append_assoc before (first ++ second) third)
    ∙ append_assoc before ((first ++ second) ++ third) fourth
four_put (Err e) before first second third fourth one two three last one_is two_is three_is last_is = tt

-- three parts, one after another
pub three_put : {E : Type 0} (r : Result (Unit {0}) E) (before first second third one two last : List ℕ) → one ≡ before ++ first → two ≡ one ++ second → OnOk r (last ≡ two ++ third)
    → OnOk r (last ≡ before ++ ((first ++ second) ++ third))
three_put (Ok done) before first second third one two last one_is two_is last_is =
    last_is ∙ ap (λ x. x ++ third) (two_is ∙ ap (λ x. x ++ second) one_is ∙ append_assoc before first second) ∙ append_assoc before (first ++ second) third
three_put (Err e) before first second third one two last one_is two_is last_is = tt

-- a part for each of a list
pub each_put : {A : Type 0} (part : A → List ℕ) (xs : List A) (place : ℕ) (x : A) (before out now : List ℕ) → place < length xs → x ≡ get_or xs place x
    → out ≡ before ++ flat_map part (take place xs) → now ≡ out ++ part x → now ≡ before ++ flat_map part (take (place + 1) xs)
each_put part xs place x before out now within is so_far next =
    let one_more : take (place + 1) xs ≡ take place xs ++ x ∷ [] = take_more xs place x within ∙ ap (λ y. take place xs ++ y ∷ []) (sym is) in
    let written : flat_map part (take (place + 1) xs) ≡ flat_map part (take place xs) ++ part x =
    ap (flat_map part) one_more ∙ flat_map-append part (take place xs) (x ∷ []) ∙ ap (λ y. flat_map part (take place xs) ++ y) (append-nil (part x)) in
    next ∙ ap (λ y. y ++ part x) so_far ∙ append_assoc before (flat_map part (take place xs)) (part x) ∙ ap (λ y. before ++ y) (sym written)
