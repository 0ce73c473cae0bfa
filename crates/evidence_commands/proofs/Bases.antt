-- Bases are judged, and what a closed one means, by its rules.
use Rattle.evidence_commands.proofs.Prelude.{◌≡◌, ℕ, List, ◌++◌, Bool, true, false, Some, Result, Ok, Err, MatchResult, IfOk, get_or, codes, refl, sym, ap, subst, arith, IsTrue, IfSome, All, list_all, Term, InRationalIdeal, polynomials_of, CertFault, ExplainsBy, is_named, Poly, Overlap, Inclusion, Ambiguity, Part, Problem, polynomials, Declaration, Basis, IsBases, IsFirstFault, are_over, bases_are_unique, bases_have_no_fault, ClosedRefusal, rules_of, claim_of, IsReadableBasis, IsClosedBasis, ClosedMeans, closed_bases_mean_outside, each_basis_is_judged, basis_refusal_is_unique, closed_basis_is_not_refused, SharpMeans, star_sharp_means, AreSharp, is_sharp, problem_is_sharp, sharp_rules_are_told, kind_text, ambiguity_text, part_text, left_text, closed_text, BasisMeans, bases}
use Rattle.ambiguities.specs.declared.ambiguity.Kind as ambiguity
use Rattle.closed_checker.specs.declared.part.Part.TheVariants as part
use Rattle.block_lines.proofs.EachText.{each_text_is_read, first_fault_is_unique}
use Rattle.closed_checker.specs.declared.refusal.ClosedRefusal.TheVariants as refusal
use Rattle.closed_checker.specs.Closed.{IsMemory}
use Rattle.evidence_commands.proofs.ReadBases.{read_bases_are_readable}
use Rattle.evidence_commands.specs.Confirm.{refusal_text}
use Rattle.evidence_commands.proofs.Owed.{IsJudged}
use Rattle.evidence_commands.proofs.QuietBlocks.{cause_is_part}
use Rattle.evidence_commands.proofs.Parts.{IsPart, lit, then, num, poly}
use Rattle.evidence_commands.proofs.Said.{says_closed, line_is_told, closed_is_part}

-- tests that hold alike are the same
pub same_test : (a b : Bool) → (a ≡ true → b ≡ true) → (b ≡ true → a ≡ true) → a ≡ b
same_test true b there back = sym (there refl)
same_test false true there back = back refl
same_test false false there back = refl

-- what the meaning of a closed basis says of the polynomials of its rules
module _ (problem : Problem) (b : Basis) (means : ClosedMeans problem b) where
  pub rules_generate : All (InRationalIdeal (polynomials_of (rules_of problem b))) (polynomials problem.generators)
  rules_generate = subst (λ (ps : List (List Term)). All (InRationalIdeal ps) (polynomials problem.generators)) (sym means.same) means.generated

  pub rules_miss_claim : InRationalIdeal (polynomials_of (rules_of problem b)) (claim_of problem b) → ⊥
  rules_miss_claim inside = means.outside_rules (subst (λ (ps : List (List Term)). InRationalIdeal ps (claim_of problem b)) means.same inside)

  -- the test of the polynomials of the basis is that of its rules
  pub rules_from_test : is_sharp problem.parts (polynomials b.rules) ≡ true → AreSharp problem.parts (rules_of problem b)
  rules_from_test holds =
      (sharp_rules_are_told problem.parts (rules_of problem b)).0
      (subst (λ (ps : List (List Term)). is_sharp problem.parts ps ≡ true) (sym means.same) holds)

  pub test_from_rules : AreSharp problem.parts (rules_of problem b) → is_sharp problem.parts (polynomials b.rules) ≡ true
  test_from_rules sharp =
      subst (λ (ps : List (List Term)). is_sharp problem.parts ps ≡ true) means.same ((sharp_rules_are_told problem.parts (rules_of problem b)).1 sharp)

  sharp_means : IsClosedBasis problem b → is_sharp problem.parts (polynomials b.rules) ≡ true
      → SharpMeans problem.parts (rules_of problem b) (claim_of problem b)
  sharp_means closed holds =
      problem_is_sharp problem (rules_of problem b) means.are_rules means.resolved rules_generate (rules_from_test holds) b.claim
      closed.has_rules.claim.least closed.has_rules.claim.most rules_miss_claim

pub basis_means : (problem : Problem) (b : Basis) → IsReadableBasis problem.parts.quiver b → IsClosedBasis problem b → BasisMeans problem b
basis_means problem b readable closed =
    let means = closed_bases_mean_outside problem b readable closed in
    let sharp = sharp_means problem b means closed in
    record {
      closed = means;
      sharp = sharp;
      star_sharp = λ holds starred. star_sharp_means problem.parts (rules_of problem b) (claim_of problem b) problem.posed starred (sharp holds);
    }

-- they can be checked
pub bases_are_readable : (ds : List Declaration) (bytes : List ℕ) (bases : List Basis) → IsBases ds bytes bases → All (IsReadableBasis ds) bases
bases_are_readable ds bytes bases is = read_bases_are_readable ds bytes bases is (are_over ds bytes bases is)

pub read_readable : (ds : List Declaration) (bytes : List ℕ) (read : Result (List Basis) CertFault)
    → MatchResult read (IsBases ds bytes) (ExplainsBy (IsFirstFault ds bytes)) → IfOk read (All (IsReadableBasis ds))
read_readable ds bytes (Ok bases) is = bases_are_readable ds bytes bases is
read_readable ds bytes (Err fault) is = tt

-- the texts of refusals
has_text : (ds : List Declaration) (r : ClosedRefusal) → (IsMemory r → ⊥) → (cause : List ℕ) × (refusal_text ds r ≡ Some cause)
has_text ds (refusal.Memory failed) h = absurd (h tt)
has_text ds other h = (_, refl)

-- a refusal that has a line is no want of memory
told : (ds : List Declaration) (r : ClosedRefusal) (cause : List ℕ) → refusal_text ds r ≡ Some cause → IsMemory r → ⊥
told ds (refusal.Memory failed) cause is memory = absurd cc
told ds other cause is memory = memory

-- the texts are lines
module _ (ds : List Declaration) (known : IsTrue (list_all is_named ds)) where
  kind : (k : ambiguity.Kind) → IsPart (kind_text k)
  kind Overlap = lit (codes "overlap") refl
  kind Inclusion = lit (codes "inclusion") refl

  blank : IsPart (codes " ")
  blank = lit (codes " ") refl

  on_ambiguity : (a : Ambiguity) → IsPart (ambiguity_text a)
  on_ambiguity a = then (kind a.kind) (then blank (then (num a.i) (then blank (then (num a.j) (then blank (num a.place))))))

  on_part : (p : Part) → IsPart (part_text p)
  on_part (part.Generator number) = then (lit (codes "generator ") refl) (num number)
  on_part (part.Ambiguity a) = on_ambiguity a
  on_part part.Claim = lit (codes "claim") refl

  left : (code : List ℕ) (p : Part) (rest : Poly) → IsPart code → IsPart (left_text ds code p rest)
  left code p rest is = then is (then (on_part p) (then (lit (codes " rest ") refl) (poly ds known rest)))

  caused : (r : ClosedRefusal) → IfSome (refusal_text ds r) IsPart
  caused refusal.NoSuchClaim = lit (codes "B1") refl
  caused (refusal.NotRule rule) = then (lit (codes "B2 rule ") refl) (num rule)
  caused (refusal.GeneratorLeft number rest) = left (codes "B3 ") (part.Generator number) rest (lit (codes "B3 ") refl)
  caused (refusal.AmbiguityLeft a rest) = left (codes "B4 ") (part.Ambiguity a) rest (lit (codes "B4 ") refl)
  caused (refusal.OtherRest got) = then (lit (codes "B5 got ") refl) (poly ds known got)
  caused refusal.ZeroRest = lit (codes "B6") refl
  caused (refusal.Stopped p c) = then (lit (codes "B7 ") refl) (then (on_part p) (then blank (record { is = cause_is_part c })))
  caused (refusal.Memory failed) = tt

-- no cause begins as the text of a closed basis
other_text : (problem : Problem) (b : Basis) (cause more : List ℕ) → codes "refused " ++ cause ≡ closed_text problem b ++ more → ⊥
other_text problem b cause more same =
    let first : (let n : ℕ = 114 in n) ≡ 99 = ap (λ l. get_or l 0 0) same in
    absurd (omega arith)

pub bases_are_judged : IsJudged bases
bases_are_judged = record {
  IsMemory = IsMemory;
  is_kind = λ problem text.
      let ds = problem.parts.quiver in
      record {
        each_text = each_text_is_read ds text;
        one_list = bases_are_unique ds text;
        one_fault = first_fault_is_unique ds text;
        no_fault = bases_have_no_fault ds text;
        each_block = each_basis_is_judged problem;
        one_refusal = basis_refusal_is_unique problem;
        not_refused = closed_basis_is_not_refused problem;
        has_text = has_text ds;
        no_text = told ds;
        other_text = other_text problem;
      };
  IsReadable = IsReadableBasis;
  readable = bases_are_readable;
  shown = basis_means;
  means = λ laws sound with_lemmas cancelling. basis_means;
  caused = caused;
  said = λ problem b. says_closed b.claim (is_sharp problem.parts (polynomials b.rules));
  told = λ problem known b holds. line_is_told (closed_text problem b) (closed_is_part problem.parts.quiver known b.claim (is_sharp problem.parts (polynomials b.rules)));
  meant = λ problem text place b at holds means.
      record {
        names = record { least = holds.has_rules.claim.least; most = holds.has_rules.claim.most };
        outside = means.closed.outside;
        rules = rules_of problem b;
        sharp_means = means.sharp;
        star_sharp = means.star_sharp;
      };
}
