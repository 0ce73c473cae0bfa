use Rattle.cofactor_trace.proofs.Prelude.{rules, ◌≡◌, ◌++◌, ◌∷◌, [], pos, map, None, Some, Ok, Err, sym, ap, subst, ◌∙◌, option_map, first_overflow, common_multiple, multiple_products, lemma_of, lemma_records, scale_fault, gathered_of, extended_all, no_extent, limit_of, named_in, records}
use Rattle.cofactor_trace.specs.declared.fault.GatherFault.TheVariants as fault
use Rattle.cofactor_trace.specs.GatherFaults.{Explains}
use Rattle.cofactor_trace.proofs.LemmaHalts.{explains-some, explains-behind, ok-behind}
use Rattle.cofactor_trace.proofs.LemmaLaws.{gathered_is}
use Rattle.cofactor_trace.proofs.lemmas.gather.Goals as goal

pub returns-in_err-check_limits : goal.returns-in_err-check_limits
returns-in_err-check_limits c =
    let made = c.args.made.now in
    let target = c.args.target.now in
    let ms = records c.as_slice-named.result.now in
    let table = c.in_ok-naming.naming.replacements.items in
    let e = c.in_err-check_limits.field-0.0 in
    let same : ms ≡ lemma_records made target = ap records c.as_slice-named.ensures.value ∙ c.in_ok-naming.ensures.lemmas in
    let is = gathered_is made target c.requires.records c.requires.target table c.in_ok-naming.ensures.named c.args.claim ms same in
    let first : limit_of (extended_all no_extent (ms ++ target ∷ [])) ≡ Some e = c.in_err-check_limits.ensures in
    let back : c.from_residual-in_err-check_limits.result ≡ Err e = search rules in
    let explained : Explains (gathered_of c.args.claim made target) e = subst (λ r. Explains r e) (sym is) (explains-some (limit_of (extended_all no_extent (ms ++ target ∷ []))) _ e first) in
    record { exact = rw back explained }

pub returns-in_err-denominator : goal.returns-in_err-denominator
returns-in_err-denominator c =
    let made = c.args.made.now in
    let target = c.args.target.now in
    let ms = records c.as_slice-named.result.now in
    let table = c.in_ok-naming.naming.replacements.items in
    let o = c.in_err-denominator.field-0.0 in
    let same : ms ≡ lemma_records made target = ap records c.as_slice-named.ensures.value ∙ c.in_ok-naming.ensures.lemmas in
    let is = gathered_is made target c.requires.records c.requires.target table c.in_ok-naming.ensures.named c.args.claim ms same in
    let passed : limit_of (extended_all no_extent (ms ++ target ∷ [])) ≡ None = c.in_ok-check_limits.ensures in
    let first : first_overflow (multiple_products (pos 1) (map (λ m. m.scale) (ms ++ target ∷ []))) ≡ Some o = c.in_err-denominator.ensures.exact in
    let back : c.from_residual-in_err-denominator.result ≡ Err (fault.Overflow o) = search rules in
    let explained : Explains (gathered_of c.args.claim made target) (fault.Overflow o) =
    subst (λ r. Explains r (fault.Overflow o)) (sym is)
    (explains-behind (limit_of (extended_all no_extent (ms ++ target ∷ []))) _ (fault.Overflow o) passed
    (explains-some (scale_fault (map (λ m. m.scale) (ms ++ target ∷ []))) _ (fault.Overflow o) (ap (option_map fault.Overflow) first))) in
    record { exact = rw back explained }

pub returns : goal.returns
returns c =
    let made = c.args.made.now in
    let target = c.args.target.now in
    let ms = records c.as_slice-named.result.now in
    let table = c.in_ok-naming.naming.replacements.items in
    let d = c.in_ok-denominator.denominator in
    let same : ms ≡ lemma_records made target = ap records c.as_slice-named.ensures.value ∙ c.in_ok-naming.ensures.lemmas in
    let is = gathered_is made target c.requires.records c.requires.target table c.in_ok-naming.ensures.named c.args.claim ms same in
    let passed : limit_of (extended_all no_extent (ms ++ target ∷ [])) ≡ None = c.in_ok-check_limits.ensures in
    let fits : first_overflow (multiple_products (pos 1) (map (λ m. m.scale) (ms ++ target ∷ []))) ≡ None = c.in_ok-denominator.ensures.exact.0 in
    let value : common_multiple (pos 1) (map (λ m. m.scale) (ms ++ target ∷ [])) ≡ mir.Val.to_z mir.Syntax.w128 (mir.Val.of_z mir.Syntax.w128 d) = search (rules, sym c.in_ok-denominator.ensures.exact.1) in
    let rows_in : c.as_slice-replacements.result.now ≡ table = c.as_slice-replacements.ensures.value in
    let lemmas : map (lemma_of (named_in table)) ms ≡ c.in_ok-make_lemmas.field-0 = sym (c.in_ok-make_lemmas.ensures ∙ ap (λ t. map (lemma_of (named_in t)) ms) rows_in) in
    let goal_is : lemma_of (named_in table) target ≡ c.in_ok-make_lemma.field-0 = sym (c.in_ok-make_lemma.ensures ∙ ap (λ t. lemma_of (named_in t) target) rows_in) in
    record {
      exact =
          is
          ∙ ok-behind (limit_of (extended_all no_extent (ms ++ target ∷ []))) (scale_fault (map (λ m. m.scale) (ms ++ target ∷ []))) _ passed (ap (option_map fault.Overflow) fits)
          ∙ (λ i. Ok (record { claim = c.args.claim; denominator = value i; lemmas = lemmas i; goal = goal_is i }));
    }
