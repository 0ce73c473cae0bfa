-- Models are judged, and what a confirmed one means.
use Rattle.evidence_commands.proofs.Prelude.{◌≡◌, ◌<◌, ℕ, List, ◌++◌, Some, get_or, codes, refl, ap, subst, sym, ◌∙◌, arith, IsTrue, IfSome, list_all, Declaration, quiver_of, letters-quiver_of, Model, Problem, ModelRefusal, Refutes, RefusesModel, each_model_is_judged, refuting_model_is_not_refused, model_refusal_is_unique, refuted_means, IsModel, models_are_unique, models_have_no_fault, models_are_models, is_named, map_cause, model_cause, HasModelLetter, claim_confirmed, ConfirmedMeans, models}
use Rattle.model_checker.specs.declared.refusal.ModelRefusal.TheVariants as refusal
use Rattle.model_checker.specs.Models as search
use Rattle.model_checker.specs.Refusals.{IsMemory}
use Rattle.model_text.proofs.EachText.{each_text_is_read, first_fault_is_unique}
use Rattle.evidence_commands.proofs.Owed.{IsJudged}
use Rattle.evidence_commands.proofs.QuietBlocks.{name_is_part}
use Rattle.evidence_commands.proofs.Parts.{IsPart, lit, then, num}
use Rattle.evidence_commands.proofs.Said.{says_confirmed, line_is_told, confirmed_is_part}

-- they are models in the words of the search
pub readable : (ds : List Declaration) (m : Model) → IsModel ds m → search.IsModel (quiver_of ds) m
readable ds m is = record { modulus = is.modulus; side_of_each = is.objects; sides = is.sides; place_of_each = is.letters ∙ sym (letters-quiver_of ds) }

-- a refusal names a declared map
pub refused_letter : (problem : Problem) (m : Model) (e : ModelRefusal) → RefusesModel problem m e → HasModelLetter problem.parts.quiver e
refused_letter problem m refusal.NoSuchClaim because = tt
refused_letter problem m (refusal.MissingMap letter) because = subst (λ n. letter.0 < n) (letters-quiver_of problem.parts.quiver) because.1.at.map.letter
refused_letter problem m (refusal.BadShape letter) because = subst (λ n. letter.0 < n) (letters-quiver_of problem.parts.quiver) because.1.at.map.letter
refused_letter problem m (refusal.NotSymmetric letter) because = subst (λ n. letter.0 < n) (letters-quiver_of problem.parts.quiver) because.1.at.map.letter
refused_letter problem m (refusal.NotZero number) because = tt
refused_letter problem m refusal.ClaimZero because = tt
refused_letter problem m (refusal.Memory failed) because = tt

-- the texts of refusals
refusal_text : (ds : List Declaration) (e : ModelRefusal) → (IsMemory e → ⊥) → (cause : List ℕ) × (model_cause ds e ≡ Some cause)
refusal_text ds refusal.NoSuchClaim h = (_, refl)
refusal_text ds (refusal.MissingMap letter) h = (_, refl)
refusal_text ds (refusal.BadShape letter) h = (_, refl)
refusal_text ds (refusal.NotSymmetric letter) h = (_, refl)
refusal_text ds (refusal.NotZero number) h = (_, refl)
refusal_text ds refusal.ClaimZero h = (_, refl)
refusal_text ds (refusal.Memory failed) h = absurd (h tt)

told : (ds : List Declaration) (e : ModelRefusal) (cause : List ℕ) → model_cause ds e ≡ Some cause → IsMemory e → ⊥
told ds (refusal.Memory failed) cause is memory = absurd cc
told ds refusal.NoSuchClaim cause is memory = memory
told ds (refusal.MissingMap letter) cause is memory = memory
told ds (refusal.BadShape letter) cause is memory = memory
told ds (refusal.NotSymmetric letter) cause is memory = memory
told ds (refusal.NotZero number) cause is memory = memory
told ds refusal.ClaimZero cause is memory = memory

-- which are lines
module _ (ds : List Declaration) (known : IsTrue (list_all is_named ds)) where
  on_map : (code : List ℕ) (map : ℕ) → IsPart code → IsPart (map_cause ds code map)
  on_map code map is = then is (then (lit (codes " map ") refl) (record { is = name_is_part ds known _ }))

  caused : (r : ModelRefusal) → IfSome (model_cause ds r) IsPart
  caused refusal.NoSuchClaim = lit (codes "M1") refl
  caused (refusal.MissingMap letter) = on_map (codes "M2") letter.0 (lit (codes "M2") refl)
  caused (refusal.BadShape letter) = on_map (codes "M3") letter.0 (lit (codes "M3") refl)
  caused (refusal.NotZero number) = then (lit (codes "M4 assumption ") refl) (num number)
  caused refusal.ClaimZero = lit (codes "M5") refl
  caused (refusal.NotSymmetric letter) = on_map (codes "M6") letter.0 (lit (codes "M6") refl)
  caused (refusal.Memory failed) = tt

-- no cause begins as the text of a confirmed model
other_text : (m : Model) (cause more : List ℕ) → codes "refused " ++ cause ≡ claim_confirmed m.claim ++ more → ⊥
other_text m cause more same =
    let first : (let n : ℕ = 114 in n) ≡ 99 = ap (λ l. get_or l 0 0) same in
    absurd (omega arith)

-- a model that refutes the claim that it names has its meaning
confirmed_means : (problem : Problem) (m : Model) → IsModel problem.parts.quiver m → Refutes problem m → ConfirmedMeans problem m
confirmed_means problem m is refutes = refuted_means problem m.claim m (readable problem.parts.quiver m is) refl refutes

pub models_are_judged : IsJudged models
models_are_judged = record {
  IsMemory = IsMemory;
  is_kind = λ problem text.
      let ds = problem.parts.quiver in
      record {
        each_text = each_text_is_read ds text;
        one_list = models_are_unique ds text;
        one_fault = first_fault_is_unique ds text;
        no_fault = models_have_no_fault ds text;
        each_block = each_model_is_judged problem;
        one_refusal = model_refusal_is_unique problem;
        not_refused = refuting_model_is_not_refused problem;
        has_text = refusal_text ds;
        no_text = told ds;
        other_text = other_text;
      };
  IsReadable = IsModel;
  readable = models_are_models;
  shown = confirmed_means;
  means = λ laws sound with_lemmas cancelling. confirmed_means;
  caused = caused;
  said = λ problem m. says_confirmed m;
  told = λ problem known m holds. line_is_told (claim_confirmed m.claim) (confirmed_is_part problem.parts.quiver known m);
  meant = λ problem text place m at holds means. record { names = holds.assumptions.fitting.claim; means = means; at = at };
}
