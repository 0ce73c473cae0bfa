-- When a proof that cancels letters is accepted, and else the first test that fails.
use Rattle.std.specs.Prelude.{◌≡◌, ◌⊎◌, ℕ, ◌+◌, ◌<◌, ◌≤◌, ℤ, pos, ◌≤ℤ◌, List, [], length, take, slice_get, Some, None, ⊤}
use Rattle.std.specs.List.{All}
use Rattle.coef_int.specs.declared.Overflow.{Overflow}
use Rattle.coef_int.specs.Operations.{first_overflow}
use Rattle.coef_int.specs.Range.{IsCoefficient}
use Rattle.word_core.specs.declared.letter.Letter.{Letter}
use Rattle.word_core.specs.Letters.{IsOver}
use Rattle.definitions.specs.Poly.{Poly}
use Rattle.definitions.specs.Quiver.{Quiver}
use Rattle.definitions.specs.Combination.{generator_at}
use Rattle.nc_polynomial.specs.Terms.{products}
use Rattle.quiver.specs.Declarations.{Declaration, letter_count, quiver_of}
use Rattle.traced_rows.specs.declared.evidence.Lemma.{Lemma}
use Rattle.traced_rows.specs.declared.evidence.LemmaRow.{LemmaRow}
use Rattle.adjoint_rules.specs.declared.problem.Problem.{Problem}
use Rattle.adjoint_rules.specs.Problem.{polynomials}
use Rattle.cofactor_checker.specs.Rows.{IsNumberUpTo}
use Rattle.cofactor_checker.specs.LemmaAcceptance.{HasScale, IsTight, IsRanged}
use Rattle.cofactor_checker.specs.Goals.{ReachesClaim, RefusesGoal}
use Rattle.cofactor_checker.specs.Acceptance as certificates
use Rattle.cofactor_checker.specs.declared.refusal.Refusal.{Refusal}
use Rattle.cofactor_checker.specs.declared.refusal.Refusal.TheVariants as common
use Rattle.cancel_rules.specs.declared.cancellation.Item.{Item}
use Rattle.cancel_rules.specs.declared.cancellation.Item.TheVariants as item
use Rattle.cancel_rules.specs.declared.cancellation.Cancellation.{Cancellation}
use Rattle.cancel_rules.specs.declared.refusal.CancelRefusal.{CancelRefusal}
use Rattle.cancel_rules.specs.declared.refusal.CancelRefusal.TheVariants as refusal
use Rattle.cancel_rules.specs.Cancellations.{IsCancellationOf}
use Rattle.cancel_rules.specs.Items.{item_polynomials, row_total, InCommon, ItemsPass, RefusesItems}

-- the claim that the proof names
abbrev pub claim_named : List Poly → Cancellation → Poly
claim_named claims proof = generator_at claims proof.claim

-- the polynomials of all its items
abbrev pub all_items : List Poly → Cancellation → List Poly
all_items generators proof = item_polynomials generators [] proof.items

-- what is asked of the lemmas among items alone
abbrev pub OfLemma : (Lemma → Type 0) → Item → Type 0
OfLemma P (item.Lemma l) = P l
OfLemma P (item.Cancel letter end number) = ⊤

-- The denominator and each scale are at least 1.
pub record HasPositiveScales (proof : Cancellation) : Type 0 where
  pub denominator : pos 1 ≤ℤ proof.denominator
  pub items : All (OfLemma HasScale) proof.items
  pub goal : HasScale proof.goal

-- The proof names a claim, and its denominator and scales are at least 1.
pub record CancelIsPosed (claims : List Poly) (proof : Cancellation) : Type 0 where
  pub claim : IsNumberUpTo (length claims) proof.claim
  pub positive : HasPositiveScales proof

-- Each scale divides the denominator.
pub record HasDivisors (proof : Cancellation) : Type 0 where
  pub items : All (OfLemma (IsTight proof.denominator)) proof.items
  pub goal : IsTight proof.denominator proof.goal

-- It is posed, and each scale divides the denominator.
pub record CancelHasShares (claims : List Poly) (proof : Cancellation) : Type 0 where
  pub posed : CancelIsPosed claims proof
  pub tight : HasDivisors proof

-- Its scales divide, and no product of the goal's scale with a coefficient of the claim leaves the range.
pub record CancelBegins (claims : List Poly) (proof : Cancellation) : Type 0 where
  pub shares : CancelHasShares claims proof
  pub products : first_overflow (products proof.goal.scale (claim_named claims proof)) ≡ None

-- It begins, and each item passes.
pub record HasItems (q : Quiver) (claims generators : List Poly) (proof : Cancellation) : Type 0 where
  pub begins : CancelBegins claims proof
  pub items : ItemsPass q proof generators [] proof.items

-- It has its items, and the goal's rows pass and add up to its scale times the claim.
pub record AcceptsCancellation (q : Quiver) (claims generators : List Poly) (proof : Cancellation) : Type 0 where
  pub items : HasItems q claims generators proof
  pub goal : ReachesClaim generators (all_items generators proof) proof.goal (claim_named claims proof)

-- The proof names a claim, and its denominator or a scale is below 1.
pub record LacksPositive (claims : List Poly) (proof : Cancellation) : Type 0 where
  pub claim : IsNumberUpTo (length claims) proof.claim
  pub positive : HasPositiveScales proof → ⊥

-- The item with this number is the first lemma whose scale does not divide the denominator.
pub record IsFirstLooseItem (d : ℤ) (items : List Item) (told : ℕ) : Type 0 where
  pub before : ℕ
  pub item : Item
  pub numbered : told ≡ before + 1
  pub there : slice_get items before ≡ Some item
  pub earlier : All (OfLemma (IsTight d)) (take before items)
  pub loose : OfLemma (IsTight d) item → ⊥

-- The scale of each lemma divides the denominator, but that of the goal, which has number 0, does not.
pub record CancelHasLooseGoal (proof : Cancellation) (told : ℕ) : Type 0 where
  pub numbered : told ≡ 0
  pub items : All (OfLemma (IsTight proof.denominator)) proof.items
  pub loose : IsTight proof.denominator proof.goal → ⊥

-- The scales divide, and this is the first product of the goal's scale with a coefficient of the claim that leaves the range.
-- It stands before all rows, and so in row 0.
pub record CancelOverflows (claims : List Poly) (proof : Cancellation) (row : ℕ) (overflow : Overflow) : Type 0 where
  pub before_rows : row ≡ 0
  pub shares : CancelHasShares claims proof
  pub products : first_overflow (products proof.goal.scale (claim_named claims proof)) ≡ Some overflow

-- The first item that does not pass, or else what is told of the goal.
abbrev pub RefusesParts : Quiver → List Poly → List Poly → Cancellation → CancelRefusal → Type 0
RefusesParts q claims generators proof e =
    (CancelBegins claims proof × RefusesItems q proof generators [] 0 proof.items e)
    ⊎ (HasItems q claims generators proof
    × InCommon (RefusesGoal generators (all_items generators proof) (row_total proof.items) proof.goal (claim_named claims proof)) e)

-- what is told before the items: each refusal comes where its test is the first that fails
abbrev pub RefusesBeginning : List Poly → Cancellation → Refusal → Type 0
RefusesBeginning claims proof common.NoSuchClaim = IsNumberUpTo (length claims) proof.claim → ⊥
RefusesBeginning claims proof common.ZeroDenominator = LacksPositive claims proof
RefusesBeginning claims proof (common.LooseScale told) =
    CancelIsPosed claims proof × (IsFirstLooseItem proof.denominator proof.items told ⊎ CancelHasLooseGoal proof told)
RefusesBeginning claims proof (common.Overflow row overflow) = CancelOverflows claims proof row overflow
RefusesBeginning claims proof other = ⊥

-- What is told in the words of certificates; want of memory can come at any time.
abbrev pub RefusesCommon : Quiver → List Poly → List Poly → Cancellation → Refusal → Type 0
RefusesCommon q claims generators proof (common.Memory failed) = ⊤
RefusesCommon q claims generators proof other = RefusesBeginning claims proof other ⊎ RefusesParts q claims generators proof (refusal.Common other)

-- The first test that fails.
abbrev pub RefusesCancellation : Quiver → List Poly → List Poly → Cancellation → CancelRefusal → Type 0
RefusesCancellation q claims generators proof (refusal.Common e) = RefusesCommon q claims generators proof e
RefusesCancellation q claims generators proof other = RefusesParts q claims generators proof other

-- the refusal is want of memory
abbrev pub IsMemory : CancelRefusal → Type 0
IsMemory e = InCommon certificates.IsMemory e

-- no test of the proof fails
abbrev pub IsAccepted : Problem → Cancellation → Type 0
IsAccepted problem proof = AcceptsCancellation (quiver_of problem.parts.quiver) (polynomials problem.parts.claims) (polynomials problem.generators) proof

-- this one is the first that fails
abbrev pub IsRefused : Problem → Cancellation → CancelRefusal → Type 0
IsRefused problem proof e = RefusesCancellation (quiver_of problem.parts.quiver) (polynomials problem.parts.claims) (polynomials problem.generators) proof e

-- items and goal lead to the claim that the proof names
abbrev pub ShowsByCancelling : Problem → Cancellation → Type 0
ShowsByCancelling problem proof =
    IsCancellationOf (quiver_of problem.parts.quiver) (polynomials problem.generators)
    (all_items (polynomials problem.generators) proof) proof (claim_named (polynomials problem.parts.claims) proof)

-- a letter of the quiver
abbrev pub IsLetterOf : List Declaration → Letter → Type 0
IsLetterOf ds letter = letter.0 < letter_count ds

-- the letters of both words are letters of the quiver
pub record IsRowOver (ds : List Declaration) (r : LemmaRow) : Type 0 where
  pub left : IsOver (letter_count ds) r.left
  pub right : IsOver (letter_count ds) r.right

-- The scale and the coefficients are in range, and the letters are letters of the quiver.
pub record IsReadableLemma (ds : List Declaration) (l : Lemma) : Type 0 where
  pub ranged : IsRanged l
  pub letters : All (IsRowOver ds) l.rows

-- so it is of a lemma, and of a cancellation the letter is one of the quiver
abbrev pub IsReadableItem : List Declaration → Item → Type 0
IsReadableItem ds (item.Lemma l) = IsReadableLemma ds l
IsReadableItem ds (item.Cancel letter end number) = IsLetterOf ds letter

-- All numbers are coefficients, letters are letters of the quiver, and items and rows can be numbered.
pub record IsReadableCancellation (ds : List Declaration) (proof : Cancellation) : Type 0 where
  pub denominator : IsCoefficient proof.denominator
  pub monic : All (IsLetterOf ds) proof.monic
  pub epic : All (IsLetterOf ds) proof.epic
  pub items : All (IsReadableItem ds) proof.items
  pub goal : IsReadableLemma ds proof.goal
  pub few_items : length proof.items ≤ 4294967295
  pub few_rows : row_total proof.items + length proof.goal.rows ≤ 4294967295
