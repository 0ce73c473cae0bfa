-- How far the lists of a stage are, before an element of a list.
use Rattle.signature_typing.proofs.Prelude.{◌≡◌, ℕ, ◌+◌, ◌<◌, ◌≤◌, List, [], ◌∷◌, ◌++◌, map, length, get_or, take, Option, None, refl, sym, ◌∙◌, ap, append_assoc, flat_map, err_from_is_err_and, take_all, map-append, flat_map-append, flat_next, first_among}
use Rattle.signature_typing.proofs.FirstFound.{first_among_none_more, explained_at}

-- The values of the elements so far are after those that were there, and none of the elements has a fault.
pub record IsSoFar {A B X : Type 0} (gives : A → List X) (wrong : A → Option B) (xs : List A) (i : ℕ) (before now : List X) : Type 0 where
  pub listed : now ≡ before ++ flat_map gives (take i xs)
  pub fits : first_among wrong (take i xs) ≡ None

flat_map_twice : {A B X : Type 0} (parts : A → List B) (gives : B → List X) (xs : List A) → flat_map (λ x. flat_map gives (parts x)) xs ≡ flat_map gives (flat_map parts xs)
flat_map_twice parts gives [] = refl
flat_map_twice parts gives (x ∷ xs) = ap (λ ys. flat_map gives (parts x) ++ ys) (flat_map_twice parts gives xs) ∙ sym (flat_map-append gives (parts x) (flat_map parts xs))

pub one_more : {A B X : Type 0} (gives : A → List X) (wrong : A → Option B) (xs : List A) (i : ℕ) (before now then : List X) (x : A) → i < length xs → x ≡ get_or xs i x
    → then ≡ now ++ gives x → wrong x ≡ None → IsSoFar gives wrong xs i before now → IsSoFar gives wrong xs (i + 1) before then
one_more gives wrong xs i before now then x lt is more here so_far = record {
  listed = more ∙ ap (λ ys. ys ++ gives x) so_far.listed ∙ append_assoc before (flat_map gives (take i xs)) (gives x)
      ∙ ap (λ ys. before ++ ys) (sym (flat_next xs i x lt is gives));
  fits = first_among_none_more wrong xs i x lt is so_far.fits here;
}

-- what all of them give
pub all_listed : {A B C X : Type 0} (parts : A → List B) (gives : B → List X) (wrong : A → Option C) (xs : List A) (i : ℕ) (now : List X) → length xs ≤ i
    → IsSoFar (λ x. flat_map gives (parts x)) wrong xs i [] now → now ≡ flat_map gives (flat_map parts xs)
all_listed parts gives wrong xs i now past so_far =
    so_far.listed ∙ ap (flat_map (λ x. flat_map gives (parts x))) (take_all i xs past) ∙ flat_map_twice parts gives xs

-- The assumptions and the claims of the statements so far are listed, and none of these has a fault.
pub record AreSoFar {A B X : Type 0} (assumed claimed : A → List X) (wrong : A → Option B) (xs : List A) (i : ℕ) (assumptions claims : List X) : Type 0 where
  pub assumed_so_far : IsSoFar assumed wrong xs i [] assumptions
  pub claimed_so_far : IsSoFar claimed wrong xs i [] claims

pub one_more_statement : {A B X : Type 0} (assumed claimed : A → List X) (wrong : A → Option B) (xs : List A) (i : ℕ) (assumptions claims more_assumptions more_claims : List X) (x : A)
    → i < length xs → x ≡ get_or xs i x → more_assumptions ≡ assumptions ++ assumed x → more_claims ≡ claims ++ claimed x → wrong x ≡ None
    → AreSoFar assumed claimed wrong xs i assumptions claims → AreSoFar assumed claimed wrong xs (i + 1) more_assumptions more_claims
one_more_statement assumed claimed wrong xs i assumptions claims more_assumptions more_claims x lt is more_assumed more_claimed here so_far = record {
  assumed_so_far = one_more assumed wrong xs i [] assumptions more_assumptions x lt is more_assumed here so_far.assumed_so_far;
  claimed_so_far = one_more claimed wrong xs i [] claims more_claims x lt is more_claimed here so_far.claimed_so_far;
}

-- what is said of one more
pub said_push : {V X : Type 0} (said : V → X) (vs : List V) (v : V) → map said (vs ++ v ∷ []) ≡ map said vs ++ said v ∷ []
said_push said vs v = map-append said vs (v ∷ [])

pub said_more : {V X : Type 0} (said : V → X) (before now : List V) (v : V) (values : List X) → now ≡ before ++ v ∷ [] → said v ∷ [] ≡ values
    → map said now ≡ map said before ++ values
said_more said before now v values pushed is = ap (map said) pushed ∙ said_push said before v ∙ ap (λ xs. map said before ++ xs) is

-- what a stage gives at its end, and what its first fault explains
pub ruleset progress = (all_listed, explained_at, err_from_is_err_and)
