-- The words of sums, products and adjoints are paths of their signatures.
use Rattle.expressions.proofs.Prelude.{◌≡◌, ◌<◌, ℕ, zero, suc, ℤ, pos, negsuc, Bool, true, false, cond, nat_eq, List, [], ◌∷◌, ◌++◌, Option, Some, None, Result, Ok, Err, refl, sym, ap, ap₂, subst, ◌∙◌, eqb-true, eq-eqb, lt-ltb, and_parts, and_from, All-nil, option_map, Poly, Quiver, IsQuiver, letters, source, target, is_path, adjoint_word, adjoint_poly, is_path-adjoint_word, leads-append, product_result, Sig, Spot, Mark, Adjoint, Power, SignatureFault, Part, from_to, same_ends, turned, is_repeated, repeated, mark_signature, marked_signature, power_poly, mark_poly, marked_poly, Summand, signed}
use Rattle.expressions.specs.Signatures as signatures
use Rattle.expressions.specs.Polynomials as polynomials
use Rattle.expressions.proofs.Sequences.{bound, same_value, OfValues, values-ok, values-bind}
use Rattle.expressions.proofs.Words.{Words, weaker, words-collection, words-adjoint, words-product}
use Rattle.expressions.proofs.Letters.{words-signed, words-sum_step, words-power_poly}

pub no_fault : {A : Type 0} (x : A) (f : SignatureFault) → ◌≡◌ {A = Result A SignatureFault} (Err f) (Ok x) → ⊥
no_fault x f h = cc

-- equal signatures
pub same_from_ends : (s t : Sig) → same_ends s t ≡ true → s ≡ t
same_from_ends s t h =
    let both = and_parts (nat_eq s.source.0 t.source.0) (nat_eq s.target.0 t.target.0) h in
    ap₂ from_to (eqb-true s.source.0 t.source.0 both.0) (eqb-true s.target.0 t.target.0 both.1)

-- a test that a result passed
passed : {A : Type 0} (b : Bool) (x o : A) (f : SignatureFault) → cond b (Ok x) (Err f) ≡ Ok o → (b ≡ true) × (x ≡ o)
passed true x o f h = (refl, same_value x o h)
passed false x o f h = absurd (no_fault o f h)

pub same_passed : {A : Type 0} (s t : Sig) (x o : A) (f : SignatureFault) → cond (same_ends s t) (Ok x) (Err f) ≡ Ok o → (s ≡ t) × (x ≡ o)
same_passed s t x o f h = let both = passed (same_ends s t) x o f h in (same_from_ends s t both.0, both.1)

pub meets_passed : {A : Type 0} (m n : ℕ) (x o : A) (f : SignatureFault) → cond (nat_eq m n) (Ok x) (Err f) ≡ Ok o → (m ≡ n) × (x ≡ o)
meets_passed m n x o f h = let both = passed (nat_eq m n) x o f h in (eqb-true m n both.0, both.1)

-- of several parts, those so far have a signature
sum_from-fault : (f : SignatureFault) (parts : List Part) → signatures.sum_from (Err f) parts ≡ Err f
sum_from-fault f [] = refl
sum_from-fault f (p ∷ parts) = sum_from-fault f parts

pub sum_passed : (r : Result (Option Sig) SignatureFault) (parts : List Part) (o : Option Sig) → signatures.sum_from r parts ≡ Ok o
    → (x : Option Sig) × (r ≡ Ok x) × (signatures.sum_from (Ok x) parts ≡ Ok o)
sum_passed (Ok x) parts o h = (x, refl, h)
sum_passed (Err f) parts o h = absurd (no_fault o f (sym (sum_from-fault f parts) ∙ h))

product_from-fault : (f : SignatureFault) (parts : List Part) → signatures.product_from (Err f) parts ≡ Err f
product_from-fault f [] = refl
product_from-fault f (p ∷ parts) = product_from-fault f parts

pub product_passed : (r : Result (Option Sig) SignatureFault) (parts : List Part) (o : Option Sig) → signatures.product_from r parts ≡ Ok o
    → (x : Option Sig) × (r ≡ Ok x) × (signatures.product_from (Ok x) parts ≡ Ok o)
product_passed (Ok x) parts o h = (x, refl, h)
product_passed (Err f) parts o h = absurd (no_fault o f (sym (product_from-fault f parts) ∙ h))

-- the next factor, which fits those so far, and the factors after it
pub record Joins (left : Sig) (part : Part) (parts : List Part) (o : Option Sig) : Type 0 where
  pub right : Sig
  pub is : part.1 ≡ Some right
  pub meet : left.source.0 ≡ right.target.0
  pub rest : signatures.product_from (Ok (Some (from_to right.source.0 left.target.0))) parts ≡ Ok o

pub joins : (left : Sig) (part : Part) (parts : List Part) (o : Option Sig) → signatures.product_from (signatures.product_step (Ok (Some left)) part.0 part.1) parts ≡ Ok o
    → Joins left part parts o
joins left part parts o h = let next = product_passed _ parts o h in go part.1 refl next.0 next.1 next.2
  where
    go : (s : Option Sig) → part.1 ≡ s → (after : Option Sig) → signatures.product_step (Ok (Some left)) part.0 s ≡ Ok after → signatures.product_from (Ok after) parts ≡ Ok o
        → Joins left part parts o
    go None is after step rest = absurd (no_fault after _ step)
    go (Some right) is after step rest =
        let both = meets_passed left.source.0 right.target.0 _ _ _ step in
        record { right = right; is = is; meet = both.0; rest = ap (λ s. signatures.product_from (Ok s) parts) both.1 ∙ rest }

-- the paths of a signature
module _ (q : Quiver) where
  -- an open expression has no words
  abbrev pub IsPathOf : Option Sig → List ℕ → Type 0
  IsPathOf None w = ⊥
  IsPathOf (Some s) w = is_path q s.source.0 s.target.0 w ≡ true

  abbrev pub ArePathsOf : Option Sig → Poly → Type 0
  ArePathsOf o p = Words (IsPathOf o) p

  pub path-append : (u k v : ℕ) (l y : List ℕ) → is_path q k v l ≡ true → is_path q u k y ≡ true → is_path q u v (l ++ y) ≡ true
  path-append u k v [] y h m = absurd (cc)
  path-append u k v (a ∷ l) [] h m = absurd (cc)
  path-append u k v (a ∷ l) (b ∷ y) h m = leads-append q u k v (a ∷ l) (b ∷ y) h m

  pub path-letter : (a : ℕ) → a < letters q → is_path q (source q a) (target q a) (a ∷ []) ≡ true
  path-letter a h = and_from _ _ (lt-ltb a (letters q) h) (and_from _ _ (eq-eqb (target q a) (target q a) refl) (eq-eqb (source q a) (source q a) refl))

  -- a sum
  sum-left : (before : Option Sig) (at : Spot) (next after : Option Sig) → signatures.sum_step (Ok before) at next ≡ Ok after → (w : List ℕ) → IsPathOf before w → IsPathOf after w
  sum-left before at None after h w path = subst (λ s. IsPathOf s w) (same_value before after h) path
  sum-left None at (Some s) after h w path = absurd path
  sum-left (Some before) at (Some s) after h w path = subst (λ t. IsPathOf t w) (same_passed before s _ _ _ h).1 path

  sum-right : (before : Option Sig) (at : Spot) (next after : Option Sig) → signatures.sum_step (Ok before) at next ≡ Ok after → (w : List ℕ) → IsPathOf next w → IsPathOf after w
  sum-right before at None after h w path = absurd path
  sum-right None at (Some s) after h w path = subst (λ t. IsPathOf t w) (same_value (Some s) after h) path
  sum-right (Some before) at (Some s) after h w path = let both = same_passed before s _ _ _ h in subst (λ t. IsPathOf t w) (ap Some (sym both.0) ∙ both.1) path

  -- each summand is typed as its part says
  pub data AreSummands : List Part → List Summand → Type 0 where
    no_summand : AreSummands [] []
    one_summand : (p : Part) (s : Summand) (parts : List Part) (ss : List Summand) → Words (IsPathOf p.1) s.1 → AreSummands parts ss → AreSummands (p ∷ parts) (s ∷ ss)

  typed-sum_from : (so_far : Option Sig) (sum : Poly) (parts : List Part) (ss : List Summand) → AreSummands parts ss → ArePathsOf so_far sum
      → OfValues (signatures.sum_from (Ok so_far) parts) (polynomials.sum_from sum ss) ArePathsOf
  typed-sum_from so_far sum _ _ no_summand h o e r d = values-ok ArePathsOf so_far sum h o e r d
  typed-sum_from so_far sum _ _ (one_summand p s parts ss typed k) h o e r d =
      let step = bound (polynomials.sum_step sum s) (λ next. polynomials.sum_from next ss) r d in
      let next = sum_passed (signatures.sum_step (Ok so_far) p.0 p.1) parts o e in
      let on_left = weaker (IsPathOf so_far) (IsPathOf next.0) (sum-left so_far p.0 p.1 next.0 next.1) sum h in
      let on_right = weaker (IsPathOf p.1) (IsPathOf next.0) (sum-right so_far p.0 p.1 next.0 next.1) s.1 typed in
      typed-sum_from next.0 step.value parts ss k (words-sum_step (IsPathOf next.0) sum s on_left on_right step.value step.is) o next.2 r step.then

  first-sum_step : (at : Spot) (s : Option Sig) → signatures.sum_step (Ok None) at s ≡ Ok s
  first-sum_step at None = refl
  first-sum_step at (Some s) = refl

  pub typed-total : (parts : List Part) (ss : List Summand) → AreSummands parts ss → OfValues (signatures.sum_from (Ok None) parts) (polynomials.total ss) ArePathsOf
  typed-total _ _ no_summand o e r d = values-ok ArePathsOf None [] (All-nil _) o e r d
  typed-total _ _ (one_summand p s parts ss typed k) o e r d =
      typed-sum_from p.1 (signed s) parts ss k (words-signed (IsPathOf p.1) s typed) o (ap (λ x. signatures.sum_from x parts) (sym (first-sum_step p.0 p.1)) ∙ e) r d

  -- a product
  -- each factor is typed as its part says
  pub data AreFactors : List Part → List Poly → Type 0 where
    no_factor : AreFactors [] []
    one_factor : (part : Part) (p : Poly) (parts : List Part) (ps : List Poly) → Words (IsPathOf part.1) p → AreFactors parts ps → AreFactors (part ∷ parts) (p ∷ ps)

  typed-product_from : (left : Sig) (product : Poly) (parts : List Part) (ps : List Poly) → AreFactors parts ps → ArePathsOf (Some left) product
      → OfValues (signatures.product_from (Ok (Some left)) parts) (polynomials.product_from product ps) ArePathsOf
  typed-product_from left product _ _ no_factor h o e r d = values-ok ArePathsOf (Some left) product h o e r d
  typed-product_from left product _ _ (one_factor part p parts ps typed k) h o e r d =
      let step = bound (product_result product p) (λ next. polynomials.product_from next ps) r d in
      let next = joins left part parts o e in
      let right = next.right in
      let both = from_to right.source.0 left.target.0 in
      let factor = subst (λ s. ArePathsOf s p) next.is typed in
      let joined : (v w : List ℕ) → IsPathOf (Some left) v → IsPathOf (Some right) w → IsPathOf (Some both) (v ++ w) =
      λ v w on_left on_right. path-append right.source.0 left.source.0 left.target.0 v w on_left (subst (λ x. is_path q right.source.0 x w ≡ true) (sym next.meet) on_right) in
      typed-product_from both step.value parts ps k (words-product (IsPathOf (Some left)) (IsPathOf (Some right)) (IsPathOf (Some both)) joined product p step.value h factor step.is) o next.rest r step.then

  pub typed-product : (parts : List Part) (ps : List Poly) → AreFactors parts ps → OfValues (signatures.product_signature parts) (polynomials.product_poly ps) ArePathsOf
  typed-product _ _ no_factor o e r d = values-ok ArePathsOf None [] (All-nil _) o e r d
  typed-product _ _ (one_factor part p _ _ typed no_factor) o e r d = values-ok ArePathsOf part.1 p typed o e r d
  typed-product _ _ (one_factor part p _ _ typed (one_factor next x parts ps later k)) o e r d = go part.1 e typed
    where
      go : (s : Option Sig) → signatures.product_from (signatures.product_step (Ok None) part.0 s) (next ∷ parts) ≡ Ok o → ArePathsOf s p → ArePathsOf o r
      go None rest factor = absurd (no_fault _ _ (product_passed _ (next ∷ parts) o rest).1)
      go (Some s) rest factor = typed-product_from s p (next ∷ parts) (x ∷ ps) (one_factor next x parts ps later k) factor o rest r d

  -- marks
  turned-path : IsQuiver q → (s : Option Sig) (w : List ℕ) → IsPathOf s w → IsPathOf (option_map turned s) (adjoint_word q w)
  turned-path quiver None w h = h
  turned-path quiver (Some s) w h = is_path-adjoint_word q quiver s.source.0 s.target.0 w h

  -- what leads from an object to itself is repeated along paths
  repeated-path : (first caret : Spot) (s o : Option Sig) → repeated first caret s ≡ Ok o → (v w : List ℕ) → IsPathOf o v → IsPathOf o w → IsPathOf o (v ++ w)
  repeated-path first caret None o e v w h k = absurd (no_fault o _ e)
  repeated-path first caret (Some s) o e v w h k =
      let both = meets_passed s.source.0 s.target.0 _ _ _ e in
      let back = λ (x : List ℕ) (path : IsPathOf o x). subst (λ t. IsPathOf t x) (sym both.1) path in
      subst (λ t. IsPathOf t (v ++ w)) both.1
      (path-append s.source.0 s.source.0 s.target.0 v w (back v h) (subst (λ x. is_path q s.source.0 x w ≡ true) (sym both.0) (back w k)))

  repeated-same : (first caret : Spot) (s o : Option Sig) → repeated first caret s ≡ Ok o → s ≡ o
  repeated-same first caret None o e = absurd (no_fault o _ e)
  repeated-same first caret (Some s) o e = (meets_passed s.source.0 s.target.0 _ _ _ e).1

  -- an exponent that repeats nothing
  power-once : (exponent : ℤ) (p : Poly) → is_repeated exponent ≡ false → power_poly exponent p ≡ Ok p
  power-once (pos zero) p h = refl
  power-once (pos (suc zero)) p h = refl
  power-once (pos (suc (suc n))) p h = absurd (cc)
  power-once (negsuc n) p h = refl

  typed-mark : IsQuiver q → (first : Spot) (m : Mark) (s : Option Sig) (p : Poly) → ArePathsOf s p → OfValues (mark_signature first m s) (mark_poly q m p) ArePathsOf
  typed-mark quiver first Adjoint s p h o e r d =
      subst (λ t. ArePathsOf t r) (same_value (option_map turned s) o e)
      (words-collection (IsPathOf (option_map turned s)) (adjoint_poly q p) r (words-adjoint (IsPathOf s) (IsPathOf (option_map turned s)) q (turned-path quiver s) p h) d)
  typed-mark quiver first (Power caret exponent) s p h o e r d = go (is_repeated exponent.value) refl e
    where
      go : (b : Bool) → is_repeated exponent.value ≡ b → cond b (repeated first caret s) (Ok s) ≡ Ok o → ArePathsOf o r
      go true again k =
          words-power_poly (IsPathOf o) (repeated-path first caret s o k) exponent.value p (subst (λ t. ArePathsOf t p) (repeated-same first caret s o k) h) r d
      go false once k =
          subst (ArePathsOf o) (same_value p r (sym (power-once exponent.value p once) ∙ d)) (subst (λ t. ArePathsOf t p) (same_value s o k) h)

  pub typed-marked : IsQuiver q → (first : Spot) (marks : List Mark) (s : Option Sig) (p : Poly) → ArePathsOf s p → OfValues (marked_signature first marks s) (marked_poly q marks p) ArePathsOf
  typed-marked quiver first [] s p h = values-ok ArePathsOf s p h
  typed-marked quiver first (m ∷ marks) s p h =
      values-bind ArePathsOf ArePathsOf (mark_signature first m s) (marked_signature first marks) (mark_poly q m p) (marked_poly q marks) (typed-mark quiver first m s p h) (typed-marked quiver first marks)
