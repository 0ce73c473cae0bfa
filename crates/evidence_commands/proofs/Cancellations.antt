-- Proofs that cancel letters are judged, and what an accepted one means, by the main theorem of cancelling.
use Rattle.evidence_commands.proofs.Prelude.{◌≡◌, ◌<◌, ℕ, false, List, ◌++◌, Some, get_or, codes, refl, ap, sym, subst, arith, IsTrue, IfSome, All, list_all, Structure, PreadditiveLaws, Term, Quiver, letters, Declaration, quiver_of, letters-quiver_of, Problem, polynomials, generators_in, posed_quiver, generators_have_signatures, generators_are_zero, zero_along, claim_at, star_sound, is_named, claim_typed, plain_generators, Side, Cancellation, declared_for, IsCancellationOf, CancelRefusal, all_items, IsLetterOf, IsReadableCancellation, MakesZeroByCancelling, IsCancellationSound, cancellation_is_judged, cancellation_refusal_is_unique, accepted_cancellation_is_not_refused, difference_over, indivisible_over, accepted_cancellation_leads, proofs_are_readable, accepted_text, MakesZeroByStar, CancelledMeans, cancellations}
use Rattle.cofactor_checker.specs.declared.refusal.Refusal.TheVariants as common
use Rattle.cancel_rules.specs.declared.cancellation.Side.TheVariants as side
use Rattle.cancel_rules.specs.declared.refusal.CancelRefusal.TheVariants as refusal
use Rattle.cancel_rules.specs.Acceptance.{IsAccepted, IsRefused, IsMemory}
use Rattle.cancellation_text.proofs.Reader as texts
use Rattle.evidence_commands.specs.Cancel.{refusal_text, HasRefusalLetters}
use Rattle.evidence_commands.proofs.Causes as causes
use Rattle.evidence_commands.proofs.Owed.{IsJudged}
use Rattle.evidence_commands.proofs.Parts.{IsPart, lit, then, num}
use Rattle.evidence_commands.proofs.Said.{says_accepted, line_is_told, accepted_is_part}

-- the letters that a proof declares are letters of the quiver
declared_in : (ds : List Declaration) (p : Cancellation) → IsReadableCancellation ds p
    → (end : Side) → All (λ a. a.0 < letters (quiver_of ds)) (declared_for p end)
declared_in ds p readable end = subst (λ (n : ℕ). All (λ a. a.0 < n) (declared_for p end)) (sym (letters-quiver_of ds)) (below end)
  where
    below : (end : Side) → All (IsLetterOf ds) (declared_for p end)
    below side.Left = readable.monic
    below side.Right = readable.epic

module _ (problem : Problem) (p : Cancellation) where
  -- what the statement draws, the generators that the program makes, the polynomials of the items, and the claim
  abbrev q : Quiver
  q = quiver_of problem.parts.quiver

  abbrev gs : List (List Term)
  gs = polynomials problem.generators

  abbrev items : List (List Term)
  items = all_items gs p

  abbrev claim : List Term
  claim = claim_at problem p.claim

  module _ (readable : IsReadableCancellation problem.parts.quiver p) (accepted : IsAccepted problem p) where
    shows : IsCancellationOf q gs items p claim
    shows = accepted_cancellation_leads q (polynomials problem.parts.claims) gs p (declared_in problem.parts.quiver p readable) accepted

    module _ {Object Arrow : Type 0} {s : Structure Object Arrow} (laws : PreadditiveLaws s) (cancelling : IsCancellationSound s) where
      makes : MakesZeroByCancelling s q p gs claim
      makes = cancelling.proofs q gs items p claim (posed_quiver problem.parts problem.posed)
          (generators_have_signatures problem.parts problem.posed problem.generators problem.closed) shows

      zero : MakesZeroByCancelling s q p (generators_in problem.parts) claim
      zero = record {
        zero = λ f rep cancels monic epic vanish. makes.zero f rep cancels monic epic
            (zero_along laws q f rep gs (generators_in problem.parts) problem.closed.same vanish);
      }

      by_star : MakesZeroByStar s q p (polynomials problem.parts.assumptions) claim
      by_star = record {
        zero = λ adjoint involution f rep cancels monic epic vanish. makes.zero f rep.represents cancels monic epic
            (generators_are_zero laws problem.parts problem.generators problem.closed adjoint (star_sound laws involution) problem.posed f rep vanish);
      }

      plain : problem.parts.starred ≡ false → MakesZeroByCancelling s q p (polynomials problem.parts.assumptions) claim
      plain not_starred = record {
        zero = λ f rep cancels monic epic vanish. zero.zero f rep cancels monic epic (plain_generators laws problem not_starred f rep vanish);
      }

      pub cancelled_means : CancelledMeans s problem p
      cancelled_means =
          let named = accepted.items.begins.shares.posed.claim in
          record {
            items = items;
            shows = shows;
            typed = claim_typed problem p.claim named.least named.most;
            zero = zero;
            by_star = by_star;
            plain = plain;
          }

-- the texts of refusals
has_text : (ds : List Declaration) (r : CancelRefusal) → (IsMemory r → ⊥) → (cause : List ℕ) × (refusal_text ds r ≡ Some cause)
has_text ds (refusal.Common e) h = causes.refusal_text ds e h
has_text ds other h = (_, refl)

-- a refusal that has a line is no want of memory
told : (ds : List Declaration) (r : CancelRefusal) (cause : List ℕ) → refusal_text ds r ≡ Some cause → IsMemory r → ⊥
told ds (refusal.Common e) cause is memory = causes.told ds e cause is memory
told ds other cause is memory = memory

-- the texts are lines
module _ (ds : List Declaration) (known : IsTrue (list_all is_named ds)) where
  caused : (r : CancelRefusal) → IfSome (refusal_text ds r) IsPart
  caused (refusal.Common e) = causes.caused ds known e
  caused (refusal.NoSuchItem item) = then (lit (codes "X1 item ") refl) (num item)
  caused (refusal.NotDeclared item) = then (lit (codes "X2 item ") refl) (num item)
  caused (refusal.NotTyped item) = then (lit (codes "X3 item ") refl) (num item)
  caused (refusal.NotStripped item) = then (lit (codes "X4 item ") refl) (num item)

-- no cause begins as the text of an accepted proof
other_text : (ds : List Declaration) (p : Cancellation) (cause more : List ℕ) → codes "refused " ++ cause ≡ accepted_text ds p ++ more → ⊥
other_text ds p cause more same =
    let first : (let n : ℕ = 114 in n) ≡ 97 = ap (λ l. get_or l 0 0) same in
    absurd (omega arith)

-- refusals name letters of the quiver alone
pub refusal_letters : (problem : Problem) (p : Cancellation) → IsReadableCancellation problem.parts.quiver p
    → (r : CancelRefusal) → IsRefused problem p r → HasRefusalLetters problem.parts.quiver r
refusal_letters problem p readable (refusal.Common (common.Differs word want got)) because = difference_over problem p readable word want got because
refusal_letters problem p readable (refusal.Common (common.NotDivisible lemma word got)) because = indivisible_over problem p readable lemma word got because
refusal_letters problem p readable (refusal.Common other) because = tt
refusal_letters problem p readable other because = tt

pub cancellations_are_judged : IsJudged cancellations
cancellations_are_judged = record {
  IsMemory = IsMemory;
  is_kind = λ problem text.
      let ds = problem.parts.quiver in
      let claims = polynomials problem.parts.claims in
      let generators = polynomials problem.generators in
      let each = texts.told ds in
      record {
        each_text = each.each_is_read text;
        one_list = each.values_are_unique text;
        one_fault = each.fault_is_unique text;
        no_fault = each.values_have_no_fault text;
        each_block = cancellation_is_judged (quiver_of ds) claims generators;
        one_refusal = cancellation_refusal_is_unique (quiver_of ds) claims generators;
        not_refused = accepted_cancellation_is_not_refused (quiver_of ds) claims generators;
        has_text = has_text ds;
        no_text = told ds;
        other_text = other_text ds;
      };
  IsReadable = IsReadableCancellation;
  readable = proofs_are_readable;
  shown = λ problem p readable accepted. (all_items (polynomials problem.generators) p, shows problem p readable accepted);
  means = λ laws sound with_lemmas cancelling problem p readable accepted. cancelled_means problem p readable accepted laws cancelling;
  caused = caused;
  said = λ problem p. says_accepted p.claim p.denominator p.monic p.epic;
  told = λ problem known p holds. line_is_told (accepted_text problem.parts.quiver p) (accepted_is_part problem.parts.quiver known p.claim p.denominator p.monic p.epic);
  meant = λ problem text place p at holds means. record {
    names = holds.items.begins.shares.posed.claim;
    positive = means.shows.positive;
    by_star = means.by_star.zero;
    plain = λ unstarred. (means.plain unstarred).zero;
  };
}
