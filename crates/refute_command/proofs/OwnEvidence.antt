-- The report of `refute` is its own evidence.
use Rattle.refute_command.proofs.Prelude.{◌≡◌, ◌≤◌, ℕ, List, [], ◌∷◌, length, refl, sym, ap, ◌∙◌, subst, arith, IsTrue, All, AllZip, list_all, All-nil, All-cons, All-weaker, length-range_with_len, AllZip-long, Model, Problem, claim_numbers, Refutes, least_refutes, is_named, IsWritableModel, Verdict, report_of, proved_in, IsWritableVerdict, refuted_in, IsItsOwnEvidence, breaking_candidates_are_writable, search_is_evidence, IsSearchedOn, refuted, not_refuted}
use Rattle.report_text.specs.declared.verdict.Verdict.TheVariants as verdict

module _ (problem : Problem) (seed : ℕ) (names : IsTrue (list_all is_named problem.parts.quiver)) where
  -- a model that can be written, and that refutes its claim
  abbrev IsShown : Model → Type 0
  IsShown m = IsWritableModel problem.parts.quiver m × Refutes problem m

  -- what verdicts of a search are for the text that they make
  record AreFit (verdicts : List Verdict) : Type 0 where
    models : All IsShown (refuted_in verdicts)
    writable : All (IsWritableVerdict problem.parts.quiver) verdicts
    none_proved : proved_in verdicts ≡ []

  one_more : (claim : ℕ) (v : Verdict) (verdicts : List Verdict) → IsSearchedOn problem seed claim v → AreFit verdicts → AreFit (v ∷ verdicts)
  one_more claim v verdicts (refuted m least says) others =
      let model = least_refutes problem claim seed m least in
      subst (λ (x : Verdict). AreFit (x ∷ verdicts)) (sym says) (record {
        models = All-cons IsShown m (refuted_in verdicts) (breaking_candidates_are_writable problem claim seed least.0 least.1 m names least.2.breaks, model.refutes) others.models;
        writable = All-cons (IsWritableVerdict problem.parts.quiver) (verdict.Refuted m) verdicts (record { sides = model.sides; maps = model.maps }) others.writable;
        none_proved = others.none_proved;
      })
  one_more claim v verdicts (not_refuted none says) others =
      subst (λ (x : Verdict). AreFit (x ∷ verdicts)) (sym says) (record {
        models = others.models;
        writable = All-cons (IsWritableVerdict problem.parts.quiver) (verdict.NotRefuted _) verdicts tt others.writable;
        none_proved = others.none_proved;
      })

  all_fit : (claims : List ℕ) (verdicts : List Verdict) → AllZip (IsSearchedOn problem seed) claims verdicts → AreFit verdicts
  all_fit [] [] each = record { models = All-nil IsShown; writable = All-nil (IsWritableVerdict problem.parts.quiver); none_proved = refl }
  all_fit [] (v ∷ verdicts) each = absurd each
  all_fit (claim ∷ claims) [] each = absurd each
  all_fit (claim ∷ claims) (v ∷ verdicts) each = one_more claim v verdicts each.0 (all_fit claims verdicts each.1)

  pub searched_is_evidence : (verdicts : List Verdict) → AllZip (IsSearchedOn problem seed) (claim_numbers problem) verdicts → IsItsOwnEvidence problem (report_of problem.parts.quiver [] verdicts) verdicts
  searched_is_evidence verdicts each =
      let fit = all_fit (claim_numbers problem) verdicts each in
      let long = AllZip-long (IsSearchedOn problem seed) (claim_numbers problem) verdicts each in
      search_is_evidence problem names verdicts
      (All-weaker IsShown (IsWritableModel problem.parts.quiver) (λ m is. is.0) (refuted_in verdicts) fit.models)
      (All-weaker IsShown (Refutes problem) (λ m is. is.1) (refuted_in verdicts) fit.models)
      fit.writable (omega (arith, long, length-range_with_len 1 (length problem.parts.claims), problem.posed.few_claims)) fit.none_proved
