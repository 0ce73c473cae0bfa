-- The test of the polynomials of rules holds exactly where all rules are typed and in play.
use Rattle.normal_category.proofs.Prelude.{◌≡◌, ℕ, Bool, true, ◌&&◌, List, [], ◌∷◌, get_or, Option, Some, None, refl, sym, ap, ◌∙◌, subst, and_parts, and_from, list_all-map, AllPass-from_list_all, list_all-from_AllPass, All, list_all, Term, coefficient_of, Quiver, is_path, IsTyped, signature_of, signature_from_path, Poly, quiver_of, Rule, polynomials_of, numbers, is_in_play, IsTypedInPlay, are_paths, is_typed, has_letters_in_play, SharpRulesAreTold}
use Rattle.normal_category.proofs.PassedRules.{words_tested, words_suffice}

-- types
module _ (q : Quiver) where
  -- the signature of the first word, which is that of all, or no word
  record HasEnds (p : List Term) : Type 0 where
    source : ℕ
    target : ℕ
    typed : IsTyped q source target p

  no_words : (p : List Term) → p ≡ [] → IsTyped q 0 0 p
  no_words p none = record { at = λ w some. absurd (some (ap (λ (r : List Term). coefficient_of r w) none)) }

  by_signature : (p : List Term) (s : Option (ℕ × ℕ)) → are_paths q s p ≡ true → HasEnds p
  by_signature p None holds = absurd cc
  by_signature p (Some s) holds = record { source = s.0; target = s.1; typed = record { at = words_tested (is_path q s.0 s.1) p holds } }

  typed_from_test : (p : List Term) → is_typed q p ≡ true → HasEnds p
  typed_from_test [] holds = record { source = 0; target = 0; typed = no_words [] refl }
  typed_from_test (t ∷ p) holds = by_signature (t ∷ p) (signature_of q t.1) holds

  all_paths : (u v : ℕ) (p : List Term) → list_all (λ t. is_path q u v t.1) p ≡ true → is_typed q p ≡ true
  all_paths u v [] all = refl
  all_paths u v (t ∷ p) all =
      let first = (and_parts (is_path q u v t.1) (list_all (λ t. is_path q u v t.1) p) all).0 in
      subst (λ (s : Option (ℕ × ℕ)). are_paths q s (t ∷ p) ≡ true) (sym (signature_from_path q u v t.1 first)) all

  test_from_typed : (p : Poly) (u v : ℕ) → IsTyped q u v p.terms → is_typed q p.terms ≡ true
  test_from_typed p u v typed = all_paths u v p.terms (words_suffice (is_path q u v) p typed.at)

  -- types and letters
  module _ (play : ℕ → Bool) where
    abbrev test : List Term → Bool
    test f = is_typed q f && has_letters_in_play play f

    from_test : (p : List Term) → test p ≡ true → IsTypedInPlay q play p
    from_test p holds =
        let parts = and_parts (is_typed q p) (has_letters_in_play play p) holds in
        let ends = typed_from_test p parts.0 in
        record { source = ends.source; target = ends.target; typed = ends.typed; in_play = record { at = words_tested (list_all play) p parts.1 } }

    to_test : (p : Poly) → IsTypedInPlay q play p.terms → test p.terms ≡ true
    to_test p is = and_from (is_typed q p.terms) (has_letters_in_play play p.terms)
        (test_from_typed p is.source is.target is.typed) (words_suffice (list_all play) p is.in_play.at)

    abbrev test_rule : Rule → Bool
    test_rule g = test g.poly.terms

    each_from_test : (rules : List Rule) → list_all test (polynomials_of rules) ≡ true → All (λ g. IsTypedInPlay q play g.poly.terms) rules
    each_from_test rules holds k g inside =
        from_test (get_or rules k g).poly.terms (AllPass-from_list_all test_rule rules (sym (list_all-map test (λ (f : Rule). f.poly.terms) rules) ∙ holds) k g inside)

    each_to_test : (rules : List Rule) → All (λ g. IsTypedInPlay q play g.poly.terms) rules → list_all test (polynomials_of rules) ≡ true
    each_to_test rules each =
        list_all-map test (λ (f : Rule). f.poly.terms) rules
        ∙ list_all-from_AllPass test_rule rules (λ k g inside. to_test (get_or rules k g).poly (each k g inside))

pub sharp_rules_are_told : SharpRulesAreTold
sharp_rules_are_told p rules =
    let q = quiver_of p.quiver in
    let play = is_in_play p.quiver p.starred (numbers p.marked) in
    (each_from_test q play rules, each_to_test q play rules)
