-- The words of the terms of a polynomial.
use Rattle.std.proofs.Common.{List, [], ◌∷◌, map}
use Rattle.std.specs.List.{AllByRecursion}
use Rattle.definitions.specs.Poly.{Word, Term}

-- the polynomial with a function applied to its words
abbrev pub map_words : (Word → Word) → List Term → List Term
map_words h p = map (λ t. (t.0, h t.1)) p

-- what holds of each item of a list
pub each_weaker : {X : Type 0} (P Q : X → Type 0) → ((x : X) → P x → Q x) → (xs : List X) → AllByRecursion P xs → AllByRecursion Q xs
each_weaker P Q up [] e = tt
each_weaker P Q up (x ∷ xs) e = (up x e.0, each_weaker P Q up xs e.1)

abbrev pub AllWords : (Word → Type 0) → List Term → Type 0
AllWords P p = AllByRecursion (λ t. P t.1) p

pub all_words_map : (P Q : Word → Type 0) → ((w : Word) → P w → Q w) → (p : List Term) → AllWords P p → AllWords Q p
all_words_map P Q up = each_weaker (λ t. P t.1) (λ t. Q t.1) (λ t. up t.1)
