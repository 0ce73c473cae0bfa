-- The letters that the lines so far call monic and epic, and one more.
use Rattle.cancellation_text.proofs.Prelude.{◌≡◌, ℕ, Bool, true, false, nat_eq, List, [], ◌∷◌, ◌++◌, Option, Some, None, arith, refl, sym, ap, ap₂, ◌∙◌, subst, eq-eqb, cons_option, eqb-true, filter_map-append, AreDistinct, distinct_push, distinct_apart, Letter, Declaration, Side, Left, Right, CalledTokens, known_letter, on_side, called_on, called_letters, called_of, is_called, on_left, on_right}
use Rattle.std.proofs.Common.{append-nil}

-- those on this side
abbrev pub letters_by : List Letter → List Letter → Side → List Letter
letters_by monic epic Left = monic
letters_by monic epic Right = epic

-- the lines call these letters so
abbrev pub AreCalled : List Declaration → List CalledTokens → List Letter → List Letter → Type 0
AreCalled ds called monic epic = (side : Side) → called_letters ds side called ≡ letters_by monic epic side

-- no letter is there twice
abbrev pub AreApart : List Letter → Type 0
AreApart = AreDistinct

abbrev pub AreOnce : List Declaration → List CalledTokens → Type 0
AreOnce ds called = (side : Side) → AreApart (called_letters ds side called)

-- before all lines
pub none_called : (ds : List Declaration) → AreCalled ds [] [] []
none_called ds Left = refl
none_called ds Right = refl

pub none_once : (ds : List Declaration) → AreOnce ds []
none_once ds side = λ i j e below within. absurd (omega (arith, within))

-- by their numbers
abbrev same_letter : Letter → Letter → Bool
same_letter a b = nat_eq b.0 a.0

same_decides : (a b : Letter) → (same_letter a b ≡ true → a ≡ b) × (a ≡ b → same_letter a b ≡ true)
same_decides a b = (λ same. let number : b.0 ≡ a.0 = eqb-true b.0 a.0 same in λ j. record { 0 = sym number j }, λ same. eq-eqb b.0 a.0 (ap (λ (c : Letter). c.0) (sym same)))

module _ (ds : List Declaration) (called : List CalledTokens) (monic epic : List Letter) (are : AreCalled ds called monic epic) (letter : List ℕ) where
  -- with one line more
  pushed : (side own : Side) (found : Option Letter) (later : List CalledTokens) → known_letter ds letter ≡ found
      → called_letters ds side (called ++ called_of letter own ∷ later) ≡ letters_by monic epic side ++ cons_option (on_side side own found) (called_letters ds side later)
  pushed side own found later known =
      filter_map-append (called_on ds side) called (called_of letter own ∷ later)
      ∙ ap₂ (λ (ls : List Letter) (o : Option Letter). ls ++ cons_option (on_side side own o) (called_letters ds side later)) (are side) known

  pub called_more : (own : Side) (a : Letter) → known_letter ds letter ≡ Some a
      → AreCalled ds (called ++ called_of letter own ∷ []) (on_left own (letters_by monic epic own ++ a ∷ []) monic) (on_right own (letters_by monic epic own ++ a ∷ []) epic)
  called_more Left a known Left = pushed Left Left (Some a) [] known
  called_more Left a known Right = pushed Right Left (Some a) [] known ∙ append-nil epic
  called_more Right a known Left = pushed Left Right (Some a) [] known ∙ append-nil monic
  called_more Right a known Right = pushed Right Right (Some a) [] known

  -- a line whose name is unknown calls none
  pub called_unknown : (own : Side) → known_letter ds letter ≡ None → AreCalled ds (called ++ called_of letter own ∷ []) monic epic
  called_unknown Left none Left = pushed Left Left None [] none ∙ append-nil monic
  called_unknown Left none Right = pushed Right Left None [] none ∙ append-nil epic
  called_unknown Right none Left = pushed Left Right None [] none ∙ append-nil monic
  called_unknown Right none Right = pushed Right Right None [] none ∙ append-nil epic

  -- after a letter that follows these, none of them is it
  pub letter_is_new : (own : Side) (a : Letter) (later : List CalledTokens) → known_letter ds letter ≡ Some a → AreApart (called_letters ds own (called ++ called_of letter own ∷ later)) → is_called a (letters_by monic epic own) ≡ false
  letter_is_new Left a later known once = distinct_apart same_letter same_decides monic a (called_letters ds Left later) (subst AreApart (pushed Left Left (Some a) later known) once)
  letter_is_new Right a later known once = distinct_apart same_letter same_decides epic a (called_letters ds Right later) (subst AreApart (pushed Right Right (Some a) later known) once)

pub once_more : (monic epic : List Letter) (own : Side) (a : Letter) → is_called a (letters_by monic epic own) ≡ false → ((side : Side) → AreApart (letters_by monic epic side))
    → (side : Side) → AreApart (letters_by (on_left own (letters_by monic epic own ++ a ∷ []) monic) (on_right own (letters_by monic epic own ++ a ∷ []) epic) side)
once_more monic epic Left a none once Left = distinct_push same_letter same_decides monic a (once Left) none
once_more monic epic Left a none once Right = once Right
once_more monic epic Right a none once Left = once Left
once_more monic epic Right a none once Right = distinct_push same_letter same_decides epic a (once Right) none
