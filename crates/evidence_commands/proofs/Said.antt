-- What the line on an accepted block says, whatever the command, and what that means over the problem of a statement and a text of evidence.
use Rattle.evidence_commands.proofs.Prelude.{◌≡◌, ◌<ℤ◌, ℕ, pos, ℤ, Bool, true, false, List, [], ◌∷◌, ◌++◌, Some, refl, length, slice_get, codes, IsTrue, decimal, signed_decimal, AllByRecursion, list_all, Structure, InvolutionLaws, InRationalIdeal, Representation, Represents, StarRepresents, Cancels, HasValueZero, Letter, Declaration, quiver_of, Rule, Problem, polynomials, claim_at, IsNumberUpTo, MeansZero, AreMonic, AreEpic, Model, IsClaimNumber, RefutedMeans, IsModels, SharpMeans, StarSharpMeans, is_named, claim_text, names_text, called_text, letters_text, claim_confirmed, sharp_ending, claim_closed}
use Rattle.evidence_commands.proofs.QuietTexts.{lacks}
use Rattle.evidence_commands.proofs.QuietBlocks.{AreQuiet, nothing_is_quiet, letter_is_part}
use Rattle.evidence_commands.proofs.Parts.{IsPart, lit, then, num, int}

-- It names a claim that it proves, refutes, or shows not to be derivable; or it says what no promise is about.
pub data Said : Type 0 where
  says_accepted : (claim : ℕ) (d : ℤ) (monic epic : List Letter) → Said
  says_explained : (claim : ℕ) (d : ℤ) (steps : ℕ) → Said
  says_confirmed : (m : Model) → Said
  says_closed : (claim : ℕ) (sharp : Bool) → Said
  says_another : (text : List ℕ) → Said

abbrev pub said_text : List Declaration → Said → List ℕ
said_text ds (says_accepted claim d monic epic) = claim_text claim d ++ letters_text ds monic epic
said_text ds (says_explained claim d steps) =
    codes "explained claim " ++ (decimal claim ++ (codes " denominator " ++ (signed_decimal d ++ (codes " steps " ++ decimal steps))))
said_text ds (says_confirmed m) = claim_confirmed m.claim
said_text ds (says_closed claim sharp) = claim_closed claim sharp
said_text ds (says_another text) = text

-- the block with this place among the blocks that a text has
pub record IsBlockAt {Block : Type 0} (AreBlocks : List Block → Type 0) (place : ℕ) (block : Block) : Type 0 where
  pub blocks : List Block
  pub read : AreBlocks blocks
  pub at : slice_get blocks place ≡ Some block

-- the claim is zero where d cancels, the letters have such arrows, and the assumptions are zero
pub record AcceptedSaid {Object Arrow : Type 0} (s : Structure Object Arrow) (problem : Problem) (claim : ℕ) (d : ℤ) (monic epic : List Letter) : Type 0 where
  pub names : IsNumberUpTo (length (polynomials problem.parts.claims)) claim
  pub positive : pos 0 <ℤ d
  pub by_star : (adjoint : Arrow → Arrow) → InvolutionLaws s adjoint → (f : Representation Object Arrow) → StarRepresents s adjoint (quiver_of problem.parts.quiver) f
      → Cancels s d → AreMonic s f monic → AreEpic s f epic → AllByRecursion (HasValueZero s (quiver_of problem.parts.quiver) f) (polynomials problem.parts.assumptions)
      → HasValueZero s (quiver_of problem.parts.quiver) f (claim_at problem claim)
  pub plain : problem.parts.starred ≡ false → (f : Representation Object Arrow) → Represents s (quiver_of problem.parts.quiver) f
      → Cancels s d → AreMonic s f monic → AreEpic s f epic → AllByRecursion (HasValueZero s (quiver_of problem.parts.quiver) f) (polynomials problem.parts.assumptions)
      → HasValueZero s (quiver_of problem.parts.quiver) f (claim_at problem claim)

pub record ExplainedSaid {Object Arrow : Type 0} (s : Structure Object Arrow) (problem : Problem) (claim : ℕ) (d : ℤ) : Type 0 where
  pub names : IsNumberUpTo (length (polynomials problem.parts.claims)) claim
  pub positive : pos 0 <ℤ d
  pub means : MeansZero s problem d (claim_at problem claim)

-- the model is the block of the text at this place
pub record ConfirmedSaid (problem : Problem) (text : List ℕ) (place : ℕ) (m : Model) : Type 0 where
  pub names : IsClaimNumber problem m.claim
  pub means : RefutedMeans problem m.claim m
  pub at : IsBlockAt (IsModels problem.parts.quiver text) place m

pub record ClosedSaid (problem : Problem) (claim : ℕ) (sharp : Bool) : Type 0 where
  pub names : IsClaimNumber problem claim
  pub outside : InRationalIdeal (polynomials problem.generators) (claim_at problem claim) → ⊥
  pub rules : List Rule
  pub sharp_means : sharp ≡ true → SharpMeans problem.parts rules (claim_at problem claim)
  pub star_sharp : sharp ≡ true → IsTrue problem.parts.starred → StarSharpMeans problem.parts rules (claim_at problem claim)

-- it begins as no line of a promise does
pub record IsAnother (text : List ℕ) : Type 0 where
  pub not_accepted : (more : List ℕ) → codes "accepted " ++ more ≡ text → ⊥
  pub not_explained : (more : List ℕ) → codes "explained " ++ more ≡ text → ⊥
  pub not_confirmed : (more : List ℕ) → codes "confirmed " ++ more ≡ text → ⊥
  pub not_closed : (more : List ℕ) → codes "closed " ++ more ≡ text → ⊥

abbrev pub SaidMeans : {Object Arrow : Type 0} → Structure Object Arrow → Problem → List ℕ → ℕ → Said → Type 0
SaidMeans s problem text place (says_accepted claim d monic epic) = AcceptedSaid s problem claim d monic epic
SaidMeans s problem text place (says_explained claim d steps) = ExplainedSaid s problem claim d
SaidMeans s problem text place (says_confirmed m) = ConfirmedSaid problem text place m
SaidMeans s problem text place (says_closed claim sharp) = ClosedSaid problem claim sharp
SaidMeans s problem text place (says_another said) = IsAnother said

-- The text about a block: its first line, and lines after it that don't begin with #.
pub record IsTold (first text : List ℕ) : Type 0 where
  pub rest : List ℕ
  pub splits : text ++ 10 ∷ [] ≡ first ++ 10 ∷ rest
  pub one : lacks 10 first ≡ true
  pub quiet : AreQuiet rest

-- one line
pub line_is_told : (text : List ℕ) → IsPart text → IsTold text text
line_is_told text part = record { rest = []; splits = refl; one = part.is; quiet = nothing_is_quiet }

-- what is said is one line, where each declaration has a name of the language
module _ (ds : List Declaration) (known : IsTrue (list_all is_named ds)) where
  names : (letters : List Letter) → IsPart (names_text ds letters)
  names [] = lit [] refl
  names (a ∷ letters) = then (then (lit (codes " ") refl) (record { is = letter_is_part ds known a.0 })) (names letters)

  called : (text : List ℕ) (letters : List Letter) → IsPart text → IsPart (called_text ds text letters)
  called text [] is = lit [] refl
  called text (a ∷ letters) is = then is (names (a ∷ letters))

  pub accepted_is_part : (claim : ℕ) (d : ℤ) (monic epic : List Letter) → IsPart (said_text ds (says_accepted claim d monic epic))
  accepted_is_part claim d monic epic =
      then (then (lit (codes "accepted claim ") refl) (then (num claim) (then (lit (codes " denominator ") refl) (int d))))
      (then (called (codes " monic") monic (lit (codes " monic") refl)) (called (codes " epic") epic (lit (codes " epic") refl)))

  pub explained_is_part : (claim : ℕ) (d : ℤ) (steps : ℕ) → IsPart (said_text ds (says_explained claim d steps))
  explained_is_part claim d steps =
      then (lit (codes "explained claim ") refl) (then (num claim) (then (lit (codes " denominator ") refl) (then (int d) (then (lit (codes " steps ") refl) (num steps)))))

  pub confirmed_is_part : (m : Model) → IsPart (said_text ds (says_confirmed m))
  confirmed_is_part m = then (lit (codes "confirmed claim ") refl) (num m.claim)

  ending : (sharp : Bool) → IsPart (sharp_ending sharp)
  ending true = lit (codes " sharp") refl
  ending false = lit [] refl

  pub closed_is_part : (claim : ℕ) (sharp : Bool) → IsPart (said_text ds (says_closed claim sharp))
  closed_is_part claim sharp = then (then (lit (codes "closed claim ") refl) (num claim)) (ending sharp)
