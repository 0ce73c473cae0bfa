-- The first thing that is found in a list, step by step.
use Rattle.signature_typing.proofs.Prelude.{◌≡◌, ℕ, ◌+◌, ◌<◌, List, [], ◌∷◌, ◌++◌, length, get_or, take, drop, Option, None, refl, sym, ◌∙◌, ap, subst, option_or, both_none, take_next, items_split, option_or-nothing, TypeFault, Fault, Memory, first_among, Explains}

-- nothing is found before an element, so what is found in the list is found from the element on
first_among_behind : {A B : Type 0} (f : A → Option B) (xs ys : List A) → first_among f xs ≡ None → first_among f (xs ++ ys) ≡ first_among f ys
first_among_behind f [] ys none = refl
first_among_behind f (x ∷ xs) ys none =
    let both = both_none (f x) (first_among f xs) none in
    rw (both.0) (first_among_behind f xs ys both.1)

-- one more element in which nothing is found
pub first_among_none_more : {A B : Type 0} (f : A → Option B) (xs : List A) (i : ℕ) (x : A) → i < length xs → x ≡ get_or xs i x → first_among f (take i xs) ≡ None → f x ≡ None → first_among f (take (i + 1) xs) ≡ None
first_among_none_more f xs i x lt is none here =
    ap (first_among f) (take_next xs i x lt is) ∙ first_among_behind f (take i xs) (x ∷ []) none ∙ option_or-nothing (f x) ∙ here

explained_before : (o p : Option TypeFault) (e : TypeFault) → Explains o e → Explains (option_or o p) e
explained_before o p (Fault code line column left right limit) is = ap (λ q. option_or q p) is
explained_before o p (Memory e) is = tt

-- the first fault in a list, where none was found before an element
pub explained_at : {A : Type 0} (f : A → Option TypeFault) (xs : List A) (i : ℕ) (x : A) (e : TypeFault)
    → i < length xs → x ≡ get_or xs i x → first_among f (take i xs) ≡ None → Explains (f x) e → Explains (first_among f xs) e
explained_at f xs i x e lt is none found =
    let behind = ap (first_among f) (items_split xs i x lt is) ∙ first_among_behind f (take i xs) (x ∷ drop (i + 1) xs) none in
    subst (λ o. Explains o e) (sym behind) (explained_before (f x) (first_among f (drop (i + 1) xs)) e found)
