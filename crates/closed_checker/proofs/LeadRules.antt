-- The words of a table are leading words of rules, and their ambiguities those of the rules.
use Rattle.closed_checker.proofs.Prelude.{◌≢◌, ℕ, ◌<◌, ◌≤◌, ◌^◌, List, length, refl, sym, ap, ◌∙◌, subst, arith, All, Contains, All-weaker, All-contains_itself, Compare, Rule, IsRule, rule_at, rule_at-all, Ambiguity, MeetsAs, IsAmbiguity, exactly-same, short_leads, nonempty_leads, Lead, IsLeadOf, IsTableOf, ListsEachOnce, IsOfFirsts}
use Rattle.closed_checker.proofs.Tables.{leading, numbered-lead}

module _ (rules : List Rule) (table : List Lead) (of : IsTableOf rules table) where
  -- what holds of all leading words
  each_word : (P : List ℕ → Type 0) → All (λ (g : Rule). P g.lead) rules → All (λ (l : Lead). P l.letters) table
  each_word P each = All-weaker (Contains table) (λ (l : Lead). P l.letters) (λ l at. word l ((of.members l).0 at)) table (All-contains_itself table)
    where
      word : (l : Lead) → IsLeadOf rules l → P l.letters
      word l is = let lead = leading rules l is in subst P lead.letters (rule_at-all (λ (g : Rule). P g.lead) rules l.number lead.rule lead.numbered each)

  module _ (letters : ℕ) (compare : Compare) (each : All (IsRule letters compare) rules) where
    pub words_nonempty : All (λ (l : Lead). 0 < length l.letters) table
    words_nonempty = each_word (λ w. 0 < length w) (nonempty_leads letters compare rules each)

    pub words_short : All (λ (l : Lead). length l.letters < 2 ^ 32) table
    words_short = All-weaker (λ (l : Lead). length l.letters ≤ 500) (λ (l : Lead). length l.letters < 2 ^ 32) (λ l short. omega (arith, short)) table
        (each_word (λ w. length w ≤ 500) (short_leads letters compare rules each))

  into : (a : Ambiguity) → IsOfFirsts table table a → IsAmbiguity rules a
  into a met =
      let one = leading rules met.lead ((of.members met.lead).0 met.among) in
      let other = leading rules met.meeting.second ((of.members met.meeting.second).0 met.meeting.among) in
      record {
        first = one.rule;
        second = other.rule;
        first_numbered = ap (rule_at rules) (sym met.meeting.first_numbered) ∙ one.numbered;
        second_numbered = ap (rule_at rules) (sym met.meeting.second_numbered) ∙ other.numbered;
        meets = subst (λ (p : List ℕ × List ℕ). MeetsAs a.kind a.i a.j p.0 p.1 a.place) (λ n. (sym one.letters n, sym other.letters n)) met.meeting.meets;
      }

  back : (a : Ambiguity) → IsAmbiguity rules a → IsOfFirsts table table a
  back a is =
      let one : Lead = record { letters = is.first.lead; number = a.i } in
      let other : Lead = record { letters = is.second.lead; number = a.j } in
      record {
        lead = one;
        among = (of.members one).1 (numbered-lead rules one is.first is.first_numbered refl);
        meeting = record {
          second = other;
          among = (of.members other).1 (numbered-lead rules other is.second is.second_numbered refl);
          first_numbered = refl;
          second_numbered = refl;
          meets = is.meets;
          at_place = tt;
        };
      }

  pub ambiguities-of : (found : List Ambiguity) → ListsEachOnce (IsOfFirsts table table) found → ListsEachOnce (IsAmbiguity rules) found
  ambiguities-of found exact = exactly-same (λ a b. a ≢ b) (IsOfFirsts table table) (IsAmbiguity rules) found (λ a. (back a, into a)) exact
