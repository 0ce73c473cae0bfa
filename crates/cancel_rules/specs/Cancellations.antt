-- What a proof that cancels letters shows: its items, one after another, and its goal lead to a claim.
use Rattle.std.specs.Prelude.{◌≢◌, ℕ, ◌<◌, ◌<ℤ◌, pos, List, [], ◌∷◌, ◌++◌, map, Contains, ⊤}
use Rattle.std.specs.List.{All}
use Rattle.word_core.specs.declared.letter.Letter.{Letter}
use Rattle.definitions.specs.Poly.{Poly, SamePolynomial}
use Rattle.definitions.specs.Quiver.{Quiver, letters}
use Rattle.definitions.specs.Combination.{generator_at}
use Rattle.definitions.specs.Soundness.{HasSignature}
use Rattle.traced_rows.specs.LemmaRows.{AddsUpTo, IsShareOf}
use Rattle.cancel_rules.specs.declared.cancellation.Side.{Side}
use Rattle.cancel_rules.specs.declared.cancellation.Side.TheVariants as side
use Rattle.cancel_rules.specs.declared.cancellation.Item.{Item}
use Rattle.cancel_rules.specs.declared.cancellation.Item.TheVariants as item
use Rattle.cancel_rules.specs.declared.cancellation.Cancellation.{Cancellation}

-- the word with a letter more in front, or behind
abbrev pub with_letter : Side → ℕ → List ℕ → List ℕ
with_letter side.Left a w = a ∷ w
with_letter side.Right a w = w ++ a ∷ []

-- the polynomial with the letter put back at that end of each word
abbrev pub put_back : Side → ℕ → Poly → Poly
put_back end a p = map (λ t. (t.0, with_letter end a t.1)) p

-- the letters that are declared for a side: in front the monic ones come off, behind the epic ones
abbrev pub declared_for : Cancellation → Side → List Letter
declared_for proof side.Left = proof.monic
declared_for proof side.Right = proof.epic

-- The letter is declared for its side, the whole polynomial is typed, it is p with the letter put back, and no word of p is empty.
pub record IsWithout (q : Quiver) (proof : Cancellation) (letter : Letter) (end : Side) (whole p : Poly) : Type 0 where
  pub declared : Contains (declared_for proof end) letter
  pub typed : HasSignature q whole
  pub same : SamePolynomial whole (put_back end letter.0 p)
  pub words : All (λ t. t.1 ≢ []) p

-- The polynomial is that of the item, where those of the items before it are given: a lemma's rows add up to its scale times the
-- polynomial, and its scale is positive and divides the denominator.
abbrev pub IsOfItem : Quiver → Cancellation → List Poly → List Poly → Item → Poly → Type 0
IsOfItem q proof generators before (item.Lemma l) p = IsShareOf proof.denominator l × AddsUpTo generators before l p
IsOfItem q proof generators before (item.Cancel letter end number) p = IsWithout q proof letter end (generator_at before number) p

-- the polynomials are those of the items, one after another
abbrev pub AreOfItems : Quiver → Cancellation → List Poly → List Poly → List Item → List Poly → Type 0
AreOfItems q proof generators before [] [] = ⊤
AreOfItems q proof generators before [] (p ∷ ps) = ⊥
AreOfItems q proof generators before (i ∷ items) [] = ⊥
AreOfItems q proof generators before (i ∷ items) (p ∷ ps) = IsOfItem q proof generators before i p × AreOfItems q proof generators (before ++ p ∷ []) items ps

-- The proof leads to the claim, with these polynomials of its items. The goal is one more lemma, and the declared letters are letters of the quiver.
pub record IsCancellationOf (q : Quiver) (generators polynomials : List Poly) (proof : Cancellation) (claim : Poly) : Type 0 where
  pub in_quiver : (end : Side) → All (λ a. a.0 < letters q) (declared_for proof end)
  pub positive : pos 0 <ℤ proof.denominator
  pub items : AreOfItems q proof generators [] proof.items polynomials
  pub share : IsShareOf proof.denominator proof.goal
  pub goal : AddsUpTo generators polynomials proof.goal claim
