-- The relations of the identities, among the generators_of of a statement.
use Rattle.std.proofs.Common.{◌≡◌, ◌≢◌, ℕ, ◌+◌, ◌-◌, ◌<◌, ◌≤◌, zero, suc, refl, sym, ap, ap₂, subst, ◌∙◌, Bool, true, false, ◌||◌, cond, List, [], ◌∷◌, ◌++◌, ℤ, pos, negsuc, ◌⊎◌, inl, inr, true≢false, eqb, eq-eqb, eqb-true, arith}
use Rattle.std.proofs.lemmas.Bool.{or_cases}
use Rattle.std.specs.List.{AllByRecursion, flat_map, list_any, range_with_len}
use Rattle.std.specs.Prelude.{nat_eq, nat_le}
use Rattle.definitions.specs.Generators.{generators_of, units, letter_units, left_unit, right_unit, new_adjoint}
use Rattle.definitions.specs.Poly.{Word, coefficient_of}
use Rattle.definitions.specs.Quiver.{Quiver, letters, source, target, star}
use Rattle.word_orders.specs.Orders.{Order}
use Rattle.confluence.proofs.Meets.{Rules}
use Rattle.confluence.proofs.Spans.{Span}
use Rattle.normal_forms.specs.Forms.{Form}
use Rattle.normal_forms.proofs.Field.{Field}
use Rattle.normal_forms.proofs.FieldLaws.{minus_one, minus_unique, int_none}
use Rattle.normal_forms.proofs.Forms.{all_front, all_back, hit, look}
use Rattle.normal_forms.proofs.Congruence.{lifted, AnyRow, Cong, cong_left, cong_after}
use Rattle.normal_forms.proofs.Sharp.{ideal_like}

-- what holds of all that a member gives
all_marked : {A : Type 0} (P : A → Type 0) (h : ℕ → List A) (marked : List ℕ) (v : ℕ) → list_any (nat_eq v) marked ≡ true
    → AllByRecursion P (flat_map h marked) → AllByRecursion P (h v)
all_marked P h [] v e a = absurd (true≢false (sym e))
all_marked P h (m ∷ marked) v e a = elim (or_cases (eqb v m) (list_any (nat_eq v) marked) e) [
  | inl i ↦ subst (λ z. AllByRecursion P (h z)) (sym (eqb-true v m i)) (all_front P (h m) (flat_map h marked) a)
  | inr j ↦ all_marked P h marked v j (all_back P (h m) (flat_map h marked) a)
]

all_range : {A : Type 0} (P : A → Type 0) (h : ℕ → List A) (n : ℕ) {b a : ℕ} → b ≤ a → a < b + n → AllByRecursion P (flat_map h (range_with_len b n))
    → AllByRecursion P (h a)
all_range P h zero p q all = absurd (omega arith)
all_range P h (suc n) {b} {a} p q all = go
    (λ e. all_range P h n (omega (arith, e)) (omega (arith, q)) (all_back P (h b) (flat_map h (range_with_len (b + 1) n)) all)) (order b a)
  where
    order : (b a : ℕ) → (b ≡ a) ⊎ (b ≢ a)
    order b a = (elim (eqb b a) as (λ t. eqb b a ≡ t → (b ≡ a) ⊎ (b ≢ a)) [
      | true ↦ λ e. inl (eqb-true b a e)
      | false ↦ λ e. inr (λ i. true≢false (sym (eq-eqb b a i) ∙ e))
    ]) refl

    go : (b ≢ a → AllByRecursion P (h a)) → (b ≡ a) ⊎ (b ≢ a) → AllByRecursion P (h a)
    go rest (inl e) = subst (λ z. AllByRecursion P (h z)) e (all_front P (h b) (flat_map h (range_with_len (b + 1) n)) all)
    go rest (inr e) = rest e

module _ (q : Quiver) (starred : Bool) (marked : List ℕ) (assumptions : List (List (ℤ × List ℕ))) (P : List (ℤ × List ℕ) → Type 0)
    (all : AllByRecursion P (generators_of q starred marked assumptions)) where
  of_mark : (v : ℕ) → list_any (nat_eq v) marked ≡ true → AllByRecursion P (units q starred v)
  of_mark v m = all_marked P (units q starred) marked v m
      (all_back P (cond starred (flat_map (new_adjoint q) assumptions) []) (flat_map (units q starred) marked)
      (all_back P assumptions (cond starred (flat_map (new_adjoint q) assumptions) [] ++ flat_map (units q starred) marked) all))

  pub unit_itself : (v : ℕ) → list_any (nat_eq v) marked ≡ true → P (left_unit v v)
  unit_itself v m = (of_mark v m).0

  of_letter : (v : ℕ) {a : ℕ} → list_any (nat_eq v) marked ≡ true → q.objects ≤ a → a < letters q → (starred || nat_le a (star q a)) ≡ true
      → AllByRecursion P (cond (eqb (target q a) v) (left_unit v a ∷ []) [] ++ cond (eqb (source q a) v) (right_unit v a ∷ []) [])
  of_letter v {a} m h i e = subst
      (λ b. AllByRecursion P (cond b (cond (eqb (target q a) v) (left_unit v a ∷ []) [] ++ cond (eqb (source q a) v) (right_unit v a ∷ []) []) [])) e
      (all_range P (letter_units q starred v) (letters q - q.objects) h (omega arith) (of_mark v m).1)

  pub unit_of_target : {v a : ℕ} → list_any (nat_eq v) marked ≡ true → q.objects ≤ a → a < letters q → (starred || nat_le a (star q a)) ≡ true
      → target q a ≡ v → P (left_unit v a)
  unit_of_target {v} {a} m h i e t = (subst (λ b. AllByRecursion P (cond b (left_unit v a ∷ []) [])) (eq-eqb (target q a) v t)
      (all_front P (cond (eqb (target q a) v) (left_unit v a ∷ []) []) (cond (eqb (source q a) v) (right_unit v a ∷ []) []) (of_letter v m h i e))).0

  pub unit_of_source : {v a : ℕ} → list_any (nat_eq v) marked ≡ true → q.objects ≤ a → a < letters q → (starred || nat_le a (star q a)) ≡ true
      → source q a ≡ v → P (right_unit v a)
  unit_of_source {v} {a} m h i e t = (subst (λ b. AllByRecursion P (cond b (right_unit v a ∷ []) [])) (eq-eqb (source q a) v t)
      (all_back P (cond (eqb (target q a) v) (left_unit v a ∷ []) []) (cond (eqb (source q a) v) (right_unit v a ∷ []) []) (of_letter v m h i e))).0

-- x - y in the ideal makes the words x and y alike
pub unit_like : {K : Type 0} (k : Field K) {o : Order} {g : Rules o} (x y : Word) → Span (AnyRow o g) (coefficient_of (((pos 1, x) ∷ (negsuc 0, y) ∷ [])))
    → Cong k o g ((k.one, x) ∷ []) ((k.one, y) ∷ [])
unit_like {K = K} k {o} {g} x y h = cong_left (record { at = same })
    (cong_after Y (ideal_like k o g (((pos 1, x) ∷ (negsuc 0, y) ∷ [])) h))
  where
    L : Form K
    L = lifted k k.one (((pos 1, x) ∷ (negsuc 0, y) ∷ []))

    Y : Form K
    Y = (k.one, y) ∷ []

    none_left : pos 1 ≡ pos 1
    none_left = refl

    minus_one_is : k.int (negsuc 0) ≡ k.minus k.one
    minus_one_is = minus_unique k k.one (k.int (negsuc 0))
        (ap (λ z. k.plus z (k.int (negsuc 0))) (sym k.int_one) ∙ sym (k.int_plus (pos 1) (negsuc 0)) ∙ int_none k)

    same : (w : Word) → look k ((k.one, x) ∷ []) w ≡ look k (L ++ Y) w
    same w = sym (ap₂ (λ a b. k.plus (k.times a (hit k x w)) b) (k.one_times (k.int (pos 1)) ∙ k.int_one)
        (ap₂ k.plus (ap (λ z. k.times z (hit k y w)) (k.one_times (k.int (negsuc 0)) ∙ minus_one_is) ∙ minus_one k (hit k y w))
        (k.plus_none (k.times k.one (hit k y w)) ∙ k.one_times (hit k y w)) ∙ k.plus_comm (k.minus (hit k y w)) (hit k y w) ∙ k.plus_minus (hit k y w)))
