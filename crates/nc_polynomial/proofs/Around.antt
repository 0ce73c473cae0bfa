-- Words with the same letters on either side.
use Rattle.std.proofs.Common.{◌≡◌, ℕ, ◌+◌, List, [], ◌∷◌, ◌++◌, length, get_or, sym, refl, ap, ap₂, ◌∙◌, arith}
use Rattle.std.proofs.lemmas.Bool.Decides.{nat_tests}
use Rattle.std.proofs.lemmas.Cmp.{ranked, tied_itself, nat_list_cmp_total}
use Rattle.std.proofs.lemmas.List.{length-append}
use Rattle.std.proofs.lemmas.List.Elements.{All-map}
use Rattle.std.specs.Cmp.{nat_cmp_total}
use Rattle.std.specs.Cmp.Lexicographic.{slice_cmp}
use Rattle.std.specs.Ordering.{nat_cmp, ordering_then}
use Rattle.std.specs.declared.cmp.Ordering.{Ordering}
use Rattle.std.specs.declared.cmp.Ordering.TheVariants.{Less, Equal, Greater}
use Rattle.definitions.specs.Poly.{Term, poly_between}
use Rattle.word_core.specs.Canonical.{word_cmp}
use Rattle.nc_polynomial.specs.Shape.{IsShaped}
use Rattle.nc_polynomial.proofs.Shapes.{Descends, IsBelow, IsInRange, IsNonzero, IsDescending-from_recursion, recursion_from_IsDescending}

cmp-before : (l u v : List ℕ) → slice_cmp nat_cmp (l ++ u) (l ++ v) ≡ slice_cmp nat_cmp u v
cmp-before [] u v = refl
cmp-before (x ∷ l) u v = ap₂ ordering_then (tied_itself nat_cmp_total x) (cmp-before l u v)

cmp-behind : (u v r : List ℕ) → length u ≡ length v → slice_cmp nat_cmp (u ++ r) (v ++ r) ≡ slice_cmp nat_cmp u v
cmp-behind [] [] r e = tied_itself nat_list_cmp_total r
cmp-behind [] (y ∷ v) r e = absurd (omega arith)
cmp-behind (x ∷ u) [] r e = absurd (omega arith)
cmp-behind (x ∷ u) (y ∷ v) r e = ap (ordering_then (nat_cmp x y)) (cmp-behind u v r (omega arith))

pub length-around : (l u r : List ℕ) → length (l ++ (u ++ r)) ≡ length l + (length u + length r)
length-around l u r = length-append l (u ++ r) ∙ ap (λ n. length l + n) (length-append u r)

nat_cmp-around : (a b m n : ℕ) → nat_cmp (a + (m + b)) (a + (n + b)) ≡ nat_cmp m n
nat_cmp-around a b m n = grind (arith, nat_tests)

-- the order stays
pub word_cmp-around : (l u v r : List ℕ) → word_cmp (l ++ (u ++ r)) (l ++ (v ++ r)) ≡ word_cmp u v
word_cmp-around l u v r = go (nat_cmp (length u) (length v)) refl
  where
    lengths : nat_cmp (length (l ++ (u ++ r))) (length (l ++ (v ++ r))) ≡ nat_cmp (length u) (length v)
    lengths = ap₂ nat_cmp (length-around l u r) (length-around l v r) ∙ nat_cmp-around (length l) (length r) (length u) (length v)

    go : (o : Ordering) → o ≡ nat_cmp (length u) (length v) → word_cmp (l ++ (u ++ r)) (l ++ (v ++ r)) ≡ word_cmp u v
    go Less e = ap (λ p. ordering_then p (slice_cmp nat_cmp (l ++ (u ++ r)) (l ++ (v ++ r)))) (lengths ∙ sym e) ∙ ap (λ p. ordering_then p (slice_cmp nat_cmp u v)) e
    go Greater e = ap (λ p. ordering_then p (slice_cmp nat_cmp (l ++ (u ++ r)) (l ++ (v ++ r)))) (lengths ∙ sym e) ∙ ap (λ p. ordering_then p (slice_cmp nat_cmp u v)) e
    go Equal e =
        let same : length u ≡ length v = ranked (length u) (length v) Equal e in
        ap₂ ordering_then lengths (cmp-before l (u ++ r) (v ++ r) ∙ cmp-behind u v r same)

module _ (l r : List ℕ) where
  descending-between : (p : List Term) → Descends p → Descends (poly_between l p r)
  descending-between [] d = tt
  descending-between (t ∷ p) d = (
    All-map (IsBelow (l ++ (t.1 ++ r))) (λ (u : Term). (u.0, l ++ (u.1 ++ r))) p (λ i u k. word_cmp-around l t.1 (get_or p i u).1 r ∙ d.0 i u k),
    descending-between p d.1,
  )

  pub shaped-between : (p : List Term) → IsShaped p → IsShaped (poly_between l p r)
  shaped-between p h = record {
    descending = IsDescending-from_recursion (poly_between l p r) (descending-between p (recursion_from_IsDescending p h.descending));
    nonzero = All-map IsNonzero (λ (u : Term). (u.0, l ++ (u.1 ++ r))) p h.nonzero;
    in_range = All-map IsInRange (λ (u : Term). (u.0, l ++ (u.1 ++ r))) p h.in_range;
  }
