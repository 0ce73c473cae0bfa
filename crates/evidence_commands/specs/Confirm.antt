-- What `confirm` reads, judges and prints, and what that means.
use Rattle.std.specs.Prelude.{⊤, ℕ, Bool, IsTrue, if◌then◌else◌, List, [], ◌++◌, codes, decimal, Option, Some, None}
use Rattle.nc_polynomial.specs.declared.poly.Poly.{Poly}
use Rattle.quiver.specs.Declarations.{Declaration}
use Rattle.adjoint_rules.specs.declared.problem.Problem.{Problem}
use Rattle.adjoint_rules.specs.Problem.{polynomials}
use Rattle.cofactor_trace.specs.declared.halt.Cause.{Cause}
use Rattle.block_text.specs.Written.{poly_text}
use Rattle.adjoint_rules.specs.declared.basis.Basis.{Basis}
use Rattle.block_lines.specs.Bases.{IsBases, IsFirstFault}
use Rattle.quiver.specs.Over.{IsPolyOver}
use Rattle.report_text.specs.Heads.{cause_text}
use Rattle.ambiguities.specs.declared.ambiguity.Kind as ambiguity
use Rattle.ambiguities.specs.declared.ambiguity.Kind.TheVariants.{Overlap, Inclusion}
use Rattle.ambiguities.specs.declared.ambiguity.Ambiguity.{Ambiguity}
use Rattle.closed_checker.specs.declared.part.Part.{Part}
use Rattle.closed_checker.specs.declared.part.Part.TheVariants as part
use Rattle.closed_checker.specs.declared.refusal.ClosedRefusal.{ClosedRefusal}
use Rattle.closed_checker.specs.declared.refusal.ClosedRefusal.TheVariants as refusal
use Rattle.closed_checker.specs.Rests.{rules_of, claim_of}
use Rattle.closed_checker.specs.Closed.{IsClosedBasis, Refuses}
use Rattle.closed_checker.specs.Laws.{ClosedMeans}
use Rattle.normal_forms.specs.SharpMeans.{SharpMeans, StarSharpMeans}
use Rattle.normal_category.specs.Tests.{is_sharp}
use Rattle.evidence_commands.specs.Kind.{Kind}

-- the end of the line on a basis: ` sharp`, or nothing
abbrev pub sharp_ending : Bool → List ℕ
sharp_ending sharp = if sharp then codes " sharp" else []

-- the text of a closed basis: the claim that it names, and whether it is sharp
abbrev pub claim_closed : ℕ → Bool → List ℕ
claim_closed claim sharp = (codes "closed claim " ++ decimal claim) ++ sharp_ending sharp

-- a basis that is refused
abbrev pub kind_text : ambiguity.Kind → List ℕ
kind_text Overlap = codes "overlap"
kind_text Inclusion = codes "inclusion"

-- how two leading words meet, the numbers of their rules, and the place
abbrev pub ambiguity_text : Ambiguity → List ℕ
ambiguity_text a = kind_text a.kind ++ (codes " " ++ (decimal a.i ++ (codes " " ++ (decimal a.j ++ (codes " " ++ decimal a.place)))))

-- what is reduced
abbrev pub part_text : Part → List ℕ
part_text (part.Generator number) = codes "generator " ++ decimal number
part_text (part.Ambiguity a) = ambiguity_text a
part_text part.Claim = codes "claim"

-- the code of the test, the part, and what is left of it
abbrev pub left_text : List Declaration → List ℕ → Part → Poly → List ℕ
left_text ds code p rest = code ++ (part_text p ++ (codes " rest " ++ poly_text ds rest.terms))

-- what is left of the claim
abbrev pub got_text : List Declaration → Poly → List ℕ
got_text ds got = codes "B5 got " ++ poly_text ds got.terms

-- where work is given up, and why
abbrev pub stop_text : Part → Cause → List ℕ
stop_text p c = codes "B7 " ++ (part_text p ++ (codes " " ++ cause_text c))

-- why a basis is refused; no line says that memory is short
abbrev pub refusal_text : List Declaration → ClosedRefusal → Option (List ℕ)
refusal_text ds refusal.NoSuchClaim = Some (codes "B1")
refusal_text ds (refusal.NotRule rule) = Some (codes "B2 rule " ++ decimal rule)
refusal_text ds (refusal.GeneratorLeft number rest) = Some (left_text ds (codes "B3 ") (part.Generator number) rest)
refusal_text ds (refusal.AmbiguityLeft a rest) = Some (left_text ds (codes "B4 ") (part.Ambiguity a) rest)
refusal_text ds (refusal.OtherRest got) = Some (got_text ds got)
refusal_text ds refusal.ZeroRest = Some (codes "B6")
refusal_text ds (refusal.Stopped p c) = Some (stop_text p c)
refusal_text ds (refusal.Memory failed) = None

-- the letters that it names are letters of the quiver
abbrev pub HasRefusalLetters : List Declaration → ClosedRefusal → Type 0
HasRefusalLetters ds (refusal.GeneratorLeft number rest) = IsPolyOver ds rest
HasRefusalLetters ds (refusal.AmbiguityLeft a rest) = IsPolyOver ds rest
HasRefusalLetters ds (refusal.OtherRest got) = IsPolyOver ds got
HasRefusalLetters ds other = ⊤

-- the claim that the basis names is closed, and sharp where each rule is typed and in play
abbrev pub closed_text : Problem → Basis → List ℕ
closed_text problem b = claim_closed b.claim (is_sharp problem.parts (polynomials b.rules))

-- What a closed basis means: no positive multiple of the claim is a combination of the generators. Where the line says ` sharp`, there is a preadditive
-- category in which each positive integer cancels, with a representation in which all generators are zero and the claim isn't; and where the statement
-- is starred, one with an involution, and a star representation.
pub record BasisMeans (problem : Problem) (b : Basis) : Type 0 where
  pub closed : ClosedMeans problem b
  pub sharp : IsTrue (is_sharp problem.parts (polynomials b.rules)) → SharpMeans problem.parts (rules_of problem b) (claim_of problem b)
  pub star_sharp : IsTrue (is_sharp problem.parts (polynomials b.rules)) → IsTrue problem.parts.starred
      → StarSharpMeans problem.parts (rules_of problem b) (claim_of problem b)

-- bases, each closed, or refused for the first test that fails
abbrev pub bases : Kind Basis ClosedRefusal
bases = record {
  AreBlocks = IsBases;
  IsFirstFault = IsFirstFault;
  Passes = IsClosedBasis;
  IsRefused = Refuses;
  shows = closed_text;
  cause = refusal_text;
  Shown = BasisMeans;
  Means = λ Object Arrow s problem b. BasisMeans problem b;
}
