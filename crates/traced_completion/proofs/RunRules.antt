-- Each state of a run has rules.
use Rattle.traced_completion.proofs.Prelude.{◌≡◌, ◌≢◌, ◌<◌, ℕ, pos, ◌*ℤ◌, length, Option, Some, None, refl, sym, ap, ◌∙◌, option_map, *ℤ-zero, Term, IsCoefficient, IsOver, Compare, Made, Rule, leading_term, IsRule, leading-all, AreWords, words_nonempty, words_over, is_negative, is_term_negative, leads_negative, Rest, IsMadeFrom, signed, signed_nonzero, multiple_term, leading-multiple, quotient_words, positive_quotient}
use Rattle.traced_completion.proofs.UniqueRuns.{same_factor}

-- a rule that is made
same_rule : (g h : Rule) → ◌≡◌ {A = Option Rule} (Some g) (Some h) → g ≡ h
same_rule g h same = cc

none_some : (g : Rule) → ◌≡◌ {A = Option Rule} None (Some g) → ⊥
none_some g same = cc

pub made_is_rule : (letters : ℕ) (compare : Compare) (rest : Rest) (g : Rule) (m : Made) → IsMadeFrom compare rest g m → AreWords letters rest.polynomial → IsRule letters compare g
made_is_rule letters compare rest g m made words =
    let k = signed (leads_negative compare rest.polynomial) m.scale in
    let leads = leads_at (leading_term compare g.poly.terms) refl in
    let nonzero : g.leading ≢ pos 0 = leading-all (λ t. t.0 ≢ pos 0) compare g.poly.terms (g.leading, g.lead) leads g.poly.canonical.shaped.nonzero in
    let k_nonzero = signed_nonzero (leads_negative compare rest.polynomial) m.scale made.positive in
    let top : leading_term compare rest.polynomial ≡ Some (k *ℤ g.leading, g.lead) = sym (ap (leading_term compare) made.divided) ∙ leading-multiple compare k g.poly.terms ∙ ap (option_map (multiple_term k)) leads in
    let sign : leads_negative compare rest.polynomial ≡ is_negative (k *ℤ g.leading) = ap is_term_negative top in
    record {
      leading = leads;
      positive = positive_quotient m.scale g.leading (k *ℤ g.leading) made.positive (ap (λ b. signed b m.scale *ℤ g.leading) (sym sign)) (λ none. nonzero (same_factor k g.leading (pos 0) k_nonzero (none ∙ sym (*ℤ-zero k))));
      in_range = leading-all (λ t. IsCoefficient t.0) compare g.poly.terms (g.leading, g.lead) leads g.poly.canonical.shaped.in_range;
      nonempty = quotient_words (λ w. 0 < length w) k g.poly.terms rest.polynomial made.divided (words_nonempty letters rest.polynomial words);
      over = quotient_words (IsOver letters) k g.poly.terms rest.polynomial made.divided (words_over letters rest.polynomial words);
    }
  where
    leads_at : (o : Option Term) → leading_term compare g.poly.terms ≡ o → leading_term compare g.poly.terms ≡ Some (g.leading, g.lead)
    leads_at None none = absurd (none_some g (sym (ap (option_map (λ (t : Term). record { leading = t.0; lead = t.1; poly = g.poly })) none) ∙ made.leading))
    leads_at (Some t) has =
        let same : ◌≡◌ {A = Rule} (record { leading = t.0; lead = t.1; poly = g.poly }) g = same_rule _ g (sym (ap (option_map (λ (u : Term). record { leading = u.0; lead = u.1; poly = g.poly })) has) ∙ made.leading) in
        has ∙ (λ i. Some ((same i).leading, (same i).lead))
