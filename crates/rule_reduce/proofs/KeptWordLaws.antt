-- The words of a reduction stay below those of the polynomial, are typed like it, and have its letters or those of the rules.
use Rattle.std.proofs.Common.{◌≢◌, inl, inr, ℕ, pos, Bool, List, ◌++◌, get_or, refl, sym, ◌∙◌, subst}
use Rattle.std.proofs.lemmas.Bool.{and_parts, and_from}
use Rattle.std.proofs.lemmas.List.Elements.{All-weaker}
use Rattle.std.proofs.lemmas.List.Folds.{list_all-append}
use Rattle.std.specs.List.{All, list_all}
use Rattle.definitions.proofs.Paths.{fits_from_path, path_from_fits}
use Rattle.definitions.specs.Poly.{Term, coefficient_of}
use Rattle.definitions.specs.Quiver.{Quiver, IsPath}
use Rattle.word_core.specs.Letters.{IsOver}
use Rattle.nc_polynomial.proofs.Distinct.{distinct-descending, words_listed}
use Rattle.nc_polynomial.proofs.Shapes.{recursion_from_IsDescending}
use Rattle.nc_polynomial.specs.Shape.{IsShaped}
use Rattle.word_orders.proofs.Over.{IsOver-append, IsOver-front, IsOver-back}
use Rattle.word_orders.specs.Admissible.{Compare, IsAdmissible}
use Rattle.word_orders.specs.Orders.{IsBelow}
use Rattle.rule_reduce.specs.KeptWords.{IsAtMostOf, WordsStayBelow, IsTypedRule, TypesAreKept, IsInPlay, IsPolyInPlay, LettersAreKept}
use Rattle.rule_reduce.specs.RuleLists.{IsRule}
use Rattle.rule_reduce.specs.declared.rule.Rule.{Rule}
use Rattle.rule_reduce.proofs.Numbers.{rule_at-all}
use Rattle.rule_reduce.proofs.AtMost.{IsAtMost, leading-greatest, leading-all}
use Rattle.rule_reduce.proofs.WordsKept.{words_with_coefficients, words_kept}

-- what holds of each word with a coefficient holds of each that stands there
words_of : (P : List ℕ → Type 0) (p : List Term) → IsShaped p → ((w : List ℕ) → coefficient_of p w ≢ pos 0 → P w) → All (λ t. P t.1) p
words_of P p shaped each = words_listed P p (distinct-descending p (recursion_from_IsDescending p shaped.descending)) shaped.nonzero each

-- words stay below
module _ (letters : ℕ) (compare : Compare) (rank : List ℕ → List ℕ) (laws : IsAdmissible letters compare rank) (p : List Term) (p_over : All (λ t. IsOver letters t.1) p) where
  over_at_most : (w : List ℕ) → IsAtMostOf letters compare p w → IsOver letters w
  over_at_most w most = elim most.at_most [
    | inl same ↦ subst (IsOver letters) (sym same) (words_with_coefficients (IsOver letters) p p_over most.word most.occurs)
    | inr below ↦ below.left
  ]

  lower : (u w : List ℕ) → IsBelow letters compare u w → IsAtMostOf letters compare p w → IsAtMostOf letters compare p u
  lower u w less most = record {
    word = most.word;
    occurs = most.occurs;
    at_most = inr (elim most.at_most [
      | inl same ↦ subst (IsBelow letters compare u) same less
      | inr more ↦ record { left = less.left; right = more.right; less = laws.total.trans u w most.word less.less more.less }
    ]);
  }

  -- l u r is at most what l v r is, where u is at most v
  around_at_most : (l u v r : List ℕ) → IsOver letters u → IsAtMost compare u v → IsAtMostOf letters compare p (l ++ (v ++ r)) → IsAtMostOf letters compare p (l ++ (u ++ r))
  around_at_most l u v r u_over (inl same) most = subst (λ w. IsAtMostOf letters compare p (l ++ (w ++ r))) (sym same) most
  around_at_most l u v r u_over (inr less) most =
      let whole = over_at_most (l ++ (v ++ r)) most in
      let left = IsOver-front letters l (v ++ r) whole in
      let right = IsOver-back letters v r (IsOver-back letters l (v ++ r) whole) in
      lower (l ++ (u ++ r)) (l ++ (v ++ r)) (record { left = IsOver-append letters l (u ++ r) left (IsOver-append letters u r u_over right); right = whole; less = laws.around l u v r less }) most

  replaced_at_most : (g : Rule) → IsRule letters compare g → (l r : List ℕ) → IsAtMostOf letters compare p (l ++ (g.lead ++ r)) → All (λ t. IsAtMostOf letters compare p (l ++ (t.1 ++ r))) g.poly.terms
  replaced_at_most g is_rule l r most i t k =
      let below = leading-greatest letters compare rank laws g.poly.terms (g.leading, g.lead) is_rule.leading in
      around_at_most l (get_or g.poly.terms i t).1 g.lead r (is_rule.over i t k) (below i t k) most

pub words_stay_below : WordsStayBelow
words_stay_below letters compare rank rules p steps s laws are_rules shaped over ends =
    words_kept (IsAtMostOf letters compare p) compare rules
    (λ n g has. replaced_at_most letters compare rank laws p over g (rule_at-all (IsRule letters compare) rules n g has are_rules))
    p steps s (words_of (IsAtMostOf letters compare p) p shaped (λ w occurs. record { word = w; occurs = occurs; at_most = inl refl })) ends

-- types are kept
replaced_path : (q : Quiver) (u v letters : ℕ) (compare : Compare) (g : Rule) → IsRule letters compare g → IsTypedRule q g → (l r : List ℕ) → IsPath q u v (l ++ (g.lead ++ r)) → All (λ t. IsPath q u v (l ++ (t.1 ++ r))) g.poly.terms
replaced_path q u v letters compare g is_rule typed l r path =
    let paths = words_of (IsPath q typed.source typed.target) g.poly.terms g.poly.canonical.shaped typed.typed.at in
    let lead = leading-all (λ t. IsPath q typed.source typed.target t.1) compare g.poly.terms (g.leading, g.lead) is_rule.leading paths in
    let fits = fits_from_path q u v typed.source typed.target l g.lead r lead path in
    All-weaker (λ (t : Term). IsPath q typed.source typed.target t.1) (λ (t : Term). IsPath q u v (l ++ (t.1 ++ r))) (λ t is_path. path_from_fits q u v typed.source typed.target l t.1 r fits is_path) g.poly.terms paths

pub types_are_kept : TypesAreKept
types_are_kept q u v letters compare rules p steps s are_rules typed shaped p_typed ends =
    words_kept (IsPath q u v) compare rules
    (λ n g has. replaced_path q u v letters compare g (rule_at-all (IsRule letters compare) rules n g has are_rules) (rule_at-all (IsTypedRule q) rules n g has typed))
    p steps s (words_of (IsPath q u v) p shaped p_typed.at) ends

-- letters are kept
in_play-parts : (play : ℕ → Bool) (u v : List ℕ) → IsInPlay play (u ++ v) → IsInPlay play u × IsInPlay play v
in_play-parts play u v both = and_parts (list_all play u) (list_all play v) (sym (list_all-append play u v) ∙ both)

in_play-append : (play : ℕ → Bool) (u v : List ℕ) → IsInPlay play u → IsInPlay play v → IsInPlay play (u ++ v)
in_play-append play u v left right = list_all-append play u v ∙ and_from (list_all play u) (list_all play v) left right

replaced_in_play : (play : ℕ → Bool) (g : Rule) → IsPolyInPlay play g.poly.terms → (l r : List ℕ) → IsInPlay play (l ++ (g.lead ++ r)) → All (λ t. IsInPlay play (l ++ (t.1 ++ r))) g.poly.terms
replaced_in_play play g in_play l r whole =
    let outer = in_play-parts play l (g.lead ++ r) whole in
    let inner = in_play-parts play g.lead r outer.1 in
    let words = words_of (IsInPlay play) g.poly.terms g.poly.canonical.shaped in_play.at in
    All-weaker (λ (t : Term). IsInPlay play t.1) (λ (t : Term). IsInPlay play (l ++ (t.1 ++ r))) (λ t held. in_play-append play l (t.1 ++ r) outer.0 (in_play-append play t.1 r held inner.1)) g.poly.terms words

pub letters_are_kept : LettersAreKept
letters_are_kept play compare rules p steps s in_play shaped p_in_play ends =
    words_kept (IsInPlay play) compare rules (λ n g has. replaced_in_play play g (rule_at-all (λ f. IsPolyInPlay play f.poly.terms) rules n g has in_play))
    p steps s (words_of (IsInPlay play) p shaped p_in_play.at) ends
