-- Certificates are explained or refused, and what an explained one means.
use Rattle.evidence_commands.proofs.Prelude.{◌≡◌, ◌⊎◌, inl, inr, ℕ, pos, List, [], ◌∷◌, ◌++◌, Option, None, Some, length, get_or, codes, refl, ap, arith, IsTrue, decimal, IfSome, signed_decimal, AllByRecursion, list_all, Structure, PreadditiveLaws, Term, HasSignature, IsSound, MakesZero, IsEvidenceSound, Declaration, quiver_of, Certificate, Evidence, Plain, Lemmas, Problem, polynomials, IsCheckable, each_text_is_read, evidence_is_unique, first_fault_is_unique, evidence_has_no_fault, MeansZero, means_zero, ChainFault, is_named, letter_limit, steps_of, lines_of, chain_text, lines_are_a_chain, lines_have_signatures, steps_add_up, steps_typed, lines_vanish, IsExplained, IsRefused, fault_text, refusal_text, HasFaultLetters, explained_text, ExplainedMeans, IsChained, BlockMeans, chains}
use Rattle.std.proofs.lemmas.List.{append_assoc}
use Rattle.traced_rows.specs.declared.evidence.Format.TheVariants as format
use Rattle.equation_chain.specs.declared.fault.ChainFault.TheVariants as fault
use Rattle.equation_chain.specs.Faults as chain
use Rattle.equation_chain.proofs.Outcomes as outcomes
use Rattle.evidence_commands.specs.Explain.{IsMemory}
use Rattle.evidence_commands.proofs.Causes as causes
use Rattle.evidence_commands.proofs.Letters.{refused_letters}
use Rattle.evidence_commands.proofs.Certificates.{names, accepted_means}
use Rattle.evidence_commands.proofs.Owed.{IsJudged}
use Rattle.evidence_commands.proofs.QuietBlocks.{chain_is_quiet}
use Rattle.evidence_commands.proofs.Parts.{IsPart, lit, then, num, overflow}
use Rattle.evidence_commands.proofs.Said.{Said, says_explained, said_text, SaidMeans, IsTold, explained_is_part}

-- one outcome for each block
module _ (problem : Problem) where
  each_block : (e : Evidence) → IsExplained problem e ⊎ ((r : Option ChainFault) × IsRefused problem e r × (IsMemory r → ⊥))
  each_block (Plain c) = by (outcomes.each_is_explained problem c)
    where
      by : chain.IsExplained problem c ⊎ ((f : ChainFault) × chain.IsFirstFault problem c f × (chain.IsMemory f → ⊥))
          → IsExplained problem (Plain c) ⊎ ((r : Option ChainFault) × IsRefused problem (Plain c) r × (IsMemory r → ⊥))
      by (inl explained) = inl explained
      by (inr wrong) = inr (Some wrong.0, wrong.1, wrong.2)
  each_block (Lemmas c) = inr (None, tt, λ none. none)

  one_refusal : (e : Evidence) (r r' : Option ChainFault) → IsRefused problem e r → IsRefused problem e r' → (IsMemory r → ⊥) → (IsMemory r' → ⊥) → r ≡ r'
  one_refusal (Plain c) (Some f) (Some g) one other no_memory no_memory' = ap Some (outcomes.first_fault_is_unique problem c f g one other no_memory no_memory')
  one_refusal (Plain c) (Some f) None one other no_memory no_memory' = absurd other
  one_refusal (Plain c) None r' one other no_memory no_memory' = absurd one
  one_refusal (Lemmas c) None None one other no_memory no_memory' = refl
  one_refusal (Lemmas c) None (Some g) one other no_memory no_memory' = absurd other
  one_refusal (Lemmas c) (Some f) r' one other no_memory no_memory' = absurd one

  not_refused : (e : Evidence) (r : Option ChainFault) → IsExplained problem e → IsRefused problem e r → IsMemory r
  not_refused (Plain c) (Some f) explained is = outcomes.explained_has_no_fault problem c f explained is
  not_refused (Plain c) None explained is = absurd is
  not_refused (Lemmas c) r explained is = absurd explained

-- the texts of refusals
fault_has_text : (ds : List Declaration) (f : ChainFault) → (chain.IsMemory f → ⊥) → (cause : List ℕ) × (fault_text ds f ≡ Some cause)
fault_has_text ds (fault.Refused refusal) h = causes.refusal_text ds refusal h
fault_has_text ds (fault.Memory failed) h = absurd (h tt)
fault_has_text ds other h = (_, refl)

has_text : (ds : List Declaration) (r : Option ChainFault) → (IsMemory r → ⊥) → (cause : List ℕ) × (refusal_text ds r ≡ Some cause)
has_text ds None h = (_, refl)
has_text ds (Some f) h = fault_has_text ds f h

-- a refusal that has a line is no want of memory
fault_told : (ds : List Declaration) (f : ChainFault) (cause : List ℕ) → fault_text ds f ≡ Some cause → chain.IsMemory f → ⊥
fault_told ds (fault.Refused refusal) cause is memory = causes.told ds refusal cause is memory
fault_told ds (fault.Memory failed) cause is memory = absurd cc
fault_told ds other cause is memory = memory

told : (ds : List Declaration) (r : Option ChainFault) (cause : List ℕ) → refusal_text ds r ≡ Some cause → IsMemory r → ⊥
told ds None cause is memory = memory
told ds (Some f) cause is memory = fault_told ds f cause is memory

-- the texts are lines
module _ (ds : List Declaration) (known : IsTrue (list_all is_named ds)) where
  fault_caused : (f : ChainFault) → IfSome (fault_text ds f) IsPart
  fault_caused (fault.Refused r) = causes.caused ds known r
  fault_caused (fault.Overflow row o) = overflow (codes "E2 row ") row o (lit (codes "E2 row ") refl)
  fault_caused (fault.Size row) = then (lit (codes "E3 row ") refl) (num row)
  fault_caused (fault.Long row) = then (lit (codes "E4 row ") refl) (then (num row) (then (lit (codes " limit ") refl) (num letter_limit)))
  fault_caused (fault.Memory failed) = tt

  caused : (r : Option ChainFault) → IfSome (refusal_text ds r) IsPart
  caused None = lit (codes "E1") refl
  caused (Some f) = fault_caused f

-- no cause begins as the text of an explained block
differ : (cause more : List ℕ) → codes "refused " ++ cause ≡ 101 ∷ more → ⊥
differ cause more same =
    let first : (let n : ℕ = 114 in n) ≡ 101 = ap (λ l. get_or l 0 0) same in
    absurd (omega arith)

other_text : (problem : Problem) (e : Evidence) (cause more : List ℕ) → codes "refused " ++ cause ≡ explained_text problem e ++ more → ⊥
other_text problem (Plain c) cause more same = differ cause _ same
other_text problem (Lemmas c) cause more same = differ cause _ same

-- refusals name letters of the quiver alone
pub fault_letters : (problem : Problem) (c : Certificate) → IsCheckable problem.parts.quiver c → (f : ChainFault) → chain.IsFirstFault problem c f → HasFaultLetters problem.parts.quiver f
fault_letters problem c checkable (fault.Refused refusal) because = refused_letters problem (Plain c) checkable refusal because
fault_letters problem c checkable other because = tt

-- what explained certificates mean
module _ {Object Arrow : Type 0} {s : Structure Object Arrow} (laws : PreadditiveLaws s) (sound : IsSound s) (with_lemmas : IsEvidenceSound s) (problem : Problem) where
  -- lines that have signatures and are zero wherever the generators are
  each_line : (lines : List (List Term)) → AllByRecursion (HasSignature (quiver_of problem.parts.quiver)) lines
      → AllByRecursion (MakesZero s (quiver_of problem.parts.quiver) (polynomials problem.generators) (pos 1)) lines → AllByRecursion (MeansZero s problem (pos 1)) lines
  each_line [] typed makes = tt
  each_line (l ∷ lines) typed makes = (means_zero laws problem (pos 1) l makes.0 typed.0, each_line lines typed.1 makes.1)

  explained_means : (c : Certificate) → chain.IsExplained problem c → ExplainedMeans s problem c
  explained_means c explained = record {
    sum = steps_add_up problem c explained.accepted;
    means = (accepted_means laws sound with_lemmas problem (Plain c) explained.accepted).means;
    typed = steps_typed problem c;
    lines = lines_are_a_chain problem c explained;
    each = each_line (lines_of problem c) (lines_have_signatures problem c explained.accepted) (lines_vanish laws problem c explained.accepted);
  }

  block_means : (e : Evidence) → IsExplained problem e → BlockMeans s problem e
  block_means (Plain c) explained = explained_means c explained
  block_means (Lemmas c) explained = absurd explained

chained : (problem : Problem) (e : Evidence) → IsExplained problem e → IsChained problem e
chained problem (Plain c) explained = lines_are_a_chain problem c explained
chained problem (Lemmas c) explained = absurd explained

-- the text about an explained block: the line on it, and its chain
abbrev said_of : Problem → Evidence → Said
said_of problem (Plain c) = says_explained c.claim c.denominator (length (steps_of problem c))
said_of problem (Lemmas c) = says_explained c.claim c.denominator 0

moved : (claim d steps more : List ℕ) → (((codes "explained claim " ++ (claim ++ (codes " denominator " ++ (d ++ (codes " steps " ++ (steps ++ codes "\n")))))) ++ more) ++ 10 ∷ [])
    ≡ (codes "explained claim " ++ (claim ++ (codes " denominator " ++ (d ++ (codes " steps " ++ steps))))) ++ 10 ∷ (more ++ codes "\n")
moved claim d steps more = simp append_assoc refl

explained_is_told : (problem : Problem) → IsTrue (list_all is_named problem.parts.quiver) → (e : Evidence) → IsExplained problem e
    → IsTold (said_text problem.parts.quiver (said_of problem e)) (explained_text problem e)
explained_is_told problem known (Plain c) holds =
    let steps = length (steps_of problem c) in
    record {
      rest = chain_text problem.parts.quiver c.claim c.denominator (steps_of problem c) (lines_of problem c) ++ codes "\n";
      splits = moved (decimal c.claim) (signed_decimal c.denominator) (decimal steps) (chain_text problem.parts.quiver c.claim c.denominator (steps_of problem c) (lines_of problem c));
      one = (explained_is_part problem.parts.quiver known c.claim c.denominator steps).is;
      quiet = chain_is_quiet problem.parts.quiver known c.claim c.denominator (steps_of problem c) (lines_of problem c);
    }
explained_is_told problem known (Lemmas c) holds = absurd holds

explained_said : {Object Arrow : Type 0} (s : Structure Object Arrow) (problem : Problem) (text : List ℕ) (place : ℕ) (e : Evidence) → IsExplained problem e → BlockMeans s problem e
    → SaidMeans s problem text place (said_of problem e)
explained_said s problem text place (Plain c) holds means = record { names = names problem (Plain c) holds.accepted; positive = means.sum.positive; means = means.means }
explained_said s problem text place (Lemmas c) holds means = absurd holds

pub chains_are_judged : IsJudged chains
chains_are_judged = record {
  IsMemory = IsMemory;
  is_kind = λ problem text.
      let ds = problem.parts.quiver in
      record {
        each_text = each_text_is_read format.Lemmas ds text;
        one_list = evidence_is_unique format.Lemmas ds text;
        one_fault = first_fault_is_unique format.Lemmas ds text;
        no_fault = evidence_has_no_fault format.Lemmas ds text;
        each_block = each_block problem;
        one_refusal = one_refusal problem;
        not_refused = not_refused problem;
        has_text = has_text ds;
        no_text = told ds;
        other_text = other_text problem;
      };
  IsReadable = λ ds e. Unit {0};
  readable = λ ds text es are k d below. tt;
  shown = λ problem e readable. chained problem e;
  means = λ laws sound with_lemmas cancelling problem e readable. block_means laws sound with_lemmas problem e;
  caused = caused;
  said = said_of;
  told = explained_is_told;
  meant = λ problem text place e at. explained_said _ problem text place e;
}
