-- The rule b a b - a b a, with the letters a = 0 and b = 1 in the canonical order, has one ambiguity.
use Rattle.confluence.proofs.Prelude.{◌≡◌, ◌<◌, ℕ, zero, suc, pos, negsuc, List, [], ◌∷◌, ◌++◌, length, Some, Ok, refl, sym, ap, ◌∙◌, arith, length-append, Term, IsCanonical, Rule, rule_at, Kind, Overlap, Inclusion, Ambiguity, MeetsAs, IsAmbiguity, overlap_word_of, s_polynomial_of}
use Rattle.confluence.proofs.WrittenTerms.{shaped_as_written, canonical_as_written}

abbrev terms : List Term
terms = (pos 1, 1 ∷ 0 ∷ 1 ∷ []) ∷ (negsuc 0, 0 ∷ 1 ∷ 0 ∷ []) ∷ []

canonical : IsCanonical terms
canonical =
    canonical_as_written terms
    (shaped_as_written terms ((refl, tt), (tt, tt)) ((λ e. cc), ((λ e. cc), tt)) (omega arith, (omega arith, tt)))
    (omega arith, (omega arith, tt)) (omega arith)

abbrev rule : Rule
rule = record { leading = pos 1; lead = 1 ∷ 0 ∷ 1 ∷ []; poly = record { terms = terms; canonical = canonical } }

abbrev itself : Ambiguity
itself = record { i = 1; j = 1; kind = Overlap; place = 2 }

is_one : IsAmbiguity (rule ∷ []) itself
is_one = record {
  first = rule;
  second = rule;
  first_numbered = refl;
  second_numbered = refl;
  meets = record { before = 1 ∷ 0 ∷ []; shared = 1 ∷ []; after = 0 ∷ 1 ∷ []; left_splits = refl; right_splits = refl; at_place = refl; before_letters = omega arith; shared_letters = omega arith; after_letters = omega arith };
}

-- b a b a b
word : overlap_word_of (rule ∷ []) itself ≡ 1 ∷ 0 ∷ 1 ∷ 0 ∷ 1 ∷ []
word = refl

-- b a a b a - a b a a b
difference : s_polynomial_of (rule ∷ []) itself ≡ Ok ((pos 1, 1 ∷ 0 ∷ 0 ∷ 1 ∷ 0 ∷ []) ∷ (negsuc 0, 0 ∷ 1 ∷ 0 ∷ 0 ∷ 1 ∷ []) ∷ [])
difference = refl

-- there is no other
pub only_rule : {f : Rule} (n : ℕ) (g : Rule) → rule_at (f ∷ []) n ≡ Some g → (n ≡ 1) × (g ≡ f)
only_rule zero g is = absurd (cc)
only_rule (suc zero) g is = (refl, (cc))
only_rule (suc (suc n)) g is = absurd (cc)

-- b a b overlaps itself in one letter alone
one_letter : (s o t : List ℕ) → 1 ∷ 0 ∷ 1 ∷ [] ≡ s ++ o → 1 ∷ 0 ∷ 1 ∷ [] ≡ o ++ t → 0 < length s → 0 < length o → length s ≡ 2
one_letter [] o t left right some shared = absurd (omega (arith, some))
one_letter (x ∷ []) o t left right some shared = absurd (clash o t (tail x o left) right shared)
  where
    tail : (x : ℕ) (o : List ℕ) → 1 ∷ 0 ∷ 1 ∷ [] ≡ x ∷ o → 0 ∷ 1 ∷ [] ≡ o
    tail x o e = cc

    clash : (o t : List ℕ) → 0 ∷ 1 ∷ [] ≡ o → 1 ∷ 0 ∷ 1 ∷ [] ≡ o ++ t → 0 < length o → ⊥
    clash [] t e f some = omega (arith, some)
    clash (y ∷ o) t e f some = differ (heads y o e) (fronts y o t f)
      where
        heads : (y : ℕ) (o : List ℕ) → 0 ∷ 1 ∷ [] ≡ y ∷ o → 0 ≡ y
        heads y o e = cc

        fronts : (y : ℕ) (o t : List ℕ) → 1 ∷ 0 ∷ 1 ∷ [] ≡ y ∷ (o ++ t) → 1 ≡ y
        fronts y o t e = cc

        differ : {y : ℕ} → 0 ≡ y → 1 ≡ y → ⊥
        differ a b = omega (arith, a, b)
one_letter (x ∷ y ∷ []) o t left right some shared = refl
one_letter (x ∷ y ∷ z ∷ s) o t left right some shared = absurd (omega (arith, ap length left, length-append (x ∷ y ∷ z ∷ s) o, shared))

only_itself : (a : Ambiguity) → IsAmbiguity (rule ∷ []) a → a ≡ itself
only_itself a is = by_kind a.kind refl is.meets
  where
    i : a.i ≡ 1
    i = (only_rule a.i is.first is.first_numbered).0

    j : a.j ≡ 1
    j = (only_rule a.j is.second is.second_numbered).0

    first_lead : is.first.lead ≡ 1 ∷ 0 ∷ 1 ∷ []
    first_lead = ap (λ (g : Rule). g.lead) (only_rule a.i is.first is.first_numbered).1

    second_lead : is.second.lead ≡ 1 ∷ 0 ∷ 1 ∷ []
    second_lead = ap (λ (g : Rule). g.lead) (only_rule a.j is.second is.second_numbered).1

    by_kind : (k : Kind) → a.kind ≡ k → MeetsAs k a.i a.j is.first.lead is.second.lead a.place → a ≡ itself
    by_kind Inclusion kind at = absurd (at.0 (i ∙ sym j))
    by_kind Overlap kind at =
        let place : a.place ≡ 2 = sym at.at_place ∙ one_letter at.before at.shared at.after (sym first_lead ∙ at.left_splits) (sym second_lead ∙ at.right_splits) at.before_letters at.shared_letters in
        λ t. record { i = i t; j = j t; kind = kind t; place = place t }
