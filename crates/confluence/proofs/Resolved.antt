-- Rules whose ambiguities are resolved, as two rows at places of one word take them.
use Rattle.std.proofs.Common.{◌≡◌, List, [], ◌++◌, ℕ, Some, refl, subst, sym, ap, ap₂, ◌∙◌, pos, ◌+ℤ◌, ◌*ℤ◌, neg_ℤ}
use Rattle.std.specs.List.{All}
use Rattle.definitions.specs.Poly.{Word, coefficient_of, poly_between}
use Rattle.word_orders.proofs.Orders.{order_from_laws}
use Rattle.word_orders.specs.Admissible.{Compare, IsAdmissible}
use Rattle.word_orders.specs.Orders.{Order}
use Rattle.rule_reduce.specs.RuleLists.{IsRule, rule_at}
use Rattle.rule_reduce.specs.declared.rule.Rule.{Rule}
use Rattle.ambiguities.specs.Ambiguities.{IsAmbiguity, overlap_word_of}
use Rattle.ambiguities.specs.Resolved.{s_sum, IsResolved}
use Rattle.ambiguities.specs.SPolynomials.{leading_at, first_row, second_row}
use Rattle.ambiguities.specs.declared.ambiguity.Ambiguity.{Ambiguity}
use Rattle.confluence.proofs.Integers.{neg_ℤ-*ℤ}
use Rattle.confluence.proofs.Spans.{Coefs, Span, span_same, single}
use Rattle.confluence.proofs.Shifts.{span_bind}
use Rattle.confluence.proofs.Meets.{row_bound, poly, Rules, Allowed, Under, Meets, meets_at, Resolved}
use Rattle.confluence.proofs.Outside.{AnyRow}
use Rattle.confluence.proofs.Resolve.{below}
use Rattle.confluence.proofs.Factors.{Factors}
use Rattle.confluence.proofs.Led.{led_at-is}
use Rattle.confluence.proofs.LedRules.{ordered, row_poly}
use Rattle.confluence.proofs.BelowSpans.{below_span}
use Rattle.confluence.proofs.MeetingsOf.{IsMeeting, overlap_meeting, inclusion_meeting, coefficient_of-s_sum, factors_of}

module _ (letters : ℕ) (compare : Compare) (rank : List ℕ → List ℕ) (laws : IsAdmissible letters compare rank) (rules : List Rule) (are : All (IsRule letters compare) rules) where
  abbrev order : Order
  order = order_from_laws letters compare rank laws

  abbrev g : Rules order
  g = ordered letters compare rank laws rules are

  -- each ambiguity whose overlap word may be a top is resolved
  module _ (q : Allowed order) (each : (a : Ambiguity) → IsAmbiguity rules a → q.May (overlap_word_of rules a) → IsResolved letters compare rules a) where
    resolved_meets : (a : Ambiguity) → IsResolved letters compare rules a → q.May (overlap_word_of rules a)
        → Meets order g q
        (overlap_word_of rules a) [] a.i (first_row rules a).right (second_row rules a).left a.j (second_row rules a).right
    resolved_meets a resolved may = record {
      one = f.one;
      other = f.other;
      one_positive = f.one_positive;
      other_positive = f.other_positive;
      difference = span_same (Under order g q O) (coefficient_of (s_sum rules a)) _
          (span_bind (AnyRow order g (below order O))
          (Under order g q O) lower _ (below_span letters compare rank laws rules are O (s_sum rules a) resolved.below)) value;
    }
      where
        O : Word
        O = overlap_word_of rules a

        is : IsAmbiguity rules a
        is = resolved.ambiguity

        f : Factors (leading_at rules a.i) (leading_at rules a.j)
        f = factors_of rules a resolved.ambiguity letters compare are

        lower : (b : Coefs) → AnyRow order g (below order O) b → Span (Under order g q O) b
        lower b (L, row) = single (Under order g q O) b (L, row.may, row_bound order g (below order O) q L b row (q.closed L O row.may may))

        value : (w : Word) → pos f.one *ℤ coefficient_of (poly_between [] (poly (g.rule a.i)) (first_row rules a).right) w
            +ℤ neg_ℤ (pos f.other *ℤ coefficient_of
            (poly_between (second_row rules a).left (poly (g.rule a.j)) (second_row rules a).right) w) ≡ coefficient_of (s_sum rules a) w
        value w = sym (coefficient_of-s_sum rules a is w
            ∙ ap₂ ◌+ℤ◌ (ap₂ ◌*ℤ◌ f.one_is
            (sym (row_poly letters compare rank laws rules are a.i is.first is.first_numbered [] (first_row rules a).right w)))
            (ap₂ (λ c x. neg_ℤ c *ℤ x) f.other_is (sym (row_poly letters compare rank laws rules are a.j is.second is.second_numbered
            (second_row rules a).left (second_row rules a).right w)) ∙ neg_ℤ-*ℤ
            (pos f.other) (coefficient_of (poly_between (second_row rules a).left (poly (g.rule a.j)) (second_row rules a).right) w)))

    from_meeting : (a : Ambiguity) (word after before behind : Word)
        → IsMeeting rules a word after before behind → q.May word → Meets order g q word [] a.i after before a.j behind
    from_meeting a word after before behind m may =
        let here = subst q.May (sym m.word_is) may in
        meets_at order g q word _ [] [] after _ before _ behind _ a.i a.j m.word_is refl m.after_is m.before_is m.behind_is
        (resolved_meets a (each a m.ambiguity here) here)

    lead_is : (n : ℕ) (f : Rule) → rule_at rules n ≡ Some f → (g.rule n).lead ≡ f.lead
    lead_is n f numbered = ap (λ r. r.lead) (led_at-is rules n f numbered)

    pub all_resolved : Resolved order g q
    all_resolved = record {
      overlaps = λ i j s u t (f, f_at) (h, h_at) ns nu nt e1 e2 r m.
          subst (λ w. Meets order g q (s ++ w) [] i t s j []) (sym (lead_is j h h_at))
          (from_meeting _ (s ++ h.lead) t s []
          (overlap_meeting rules i j f h f_at h_at s u t ns nu nt (sym (lead_is i f f_at) ∙ e1) (sym (lead_is j h h_at) ∙ e2))
          (subst (λ w. q.May (s ++ w)) (lead_is j h h_at) m));
      inclusions = λ i j s t (f, f_at) (h, h_at) differ e r m.
          subst (λ w. Meets order g q w [] i [] s j t) (sym (lead_is i f f_at))
          (from_meeting _ f.lead [] s t
          (inclusion_meeting rules i j f h f_at h_at s t differ (sym (lead_is i f f_at) ∙ e ∙ ap (λ w. s ++ (w ++ t)) (lead_is j h h_at)))
          (subst q.May (lead_is i f f_at) m));
    }
