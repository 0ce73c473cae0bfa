-- The test of an order says when a word is below another.
use Rattle.std.proofs.Common.{◌≡◌, ◌<◌, ℕ, true, List, [], ◌∷◌, ◌&&◌, refl, ap, IsTrue, nat_lt}
use Rattle.std.proofs.lemmas.Bool.{and_parts, and_from}
use Rattle.std.proofs.lemmas.Bool.Decides.{Decides-ltb}
use Rattle.std.proofs.lemmas.List.Elements.{All-cons, All-head, All-nil, All-tail}
use Rattle.std.specs.Ordering.{is_lt}
use Rattle.std.specs.declared.cmp.Ordering.{Ordering}
use Rattle.std.specs.declared.cmp.Ordering.TheVariants.{Less, Equal, Greater}
use Rattle.word_core.specs.Letters.{IsOver}
use Rattle.word_orders.specs.Admissible.{Compare}
use Rattle.word_orders.specs.Orders.{IsBelow}
use Rattle.ambiguities.specs.Resolved.{is_over, is_below}

pub over_from_test : (letters : ℕ) (w : List ℕ) → is_over letters w ≡ true → IsOver letters w
over_from_test letters [] e = All-nil (λ a. a < letters)
over_from_test letters (a ∷ w) e =
    let both = and_parts (nat_lt a letters) (is_over letters w) e in
    All-cons (λ b. b < letters) a w ((Decides-ltb a letters).0 both.0) (over_from_test letters w both.1)

pub test_from_over : (letters : ℕ) (w : List ℕ) → IsOver letters w → is_over letters w ≡ true
test_from_over letters [] over = refl
test_from_over letters (a ∷ w) over =
    and_from (nat_lt a letters) (is_over letters w) ((Decides-ltb a letters).1 (All-head (λ b. b < letters) a w over)) (test_from_over letters w (All-tail (λ b. b < letters) a w over))

less_from_test : (x : Ordering) → is_lt x ≡ true → x ≡ Less
less_from_test Less e = refl
less_from_test Equal e = cc
less_from_test Greater e = cc

module _ (letters : ℕ) (compare : Compare) (u v : List ℕ) where
  pub below_from_test : IsTrue (is_below letters compare u v) → IsBelow letters compare u v
  below_from_test e =
      let parts = and_parts (is_over letters u) (is_over letters v && is_lt (compare u v)) e in
      let rest = and_parts (is_over letters v) (is_lt (compare u v)) parts.1 in
      record { left = over_from_test letters u parts.0; right = over_from_test letters v rest.0; less = less_from_test (compare u v) rest.1 }

  pub test_from_below : IsBelow letters compare u v → IsTrue (is_below letters compare u v)
  test_from_below below =
      and_from (is_over letters u) (is_over letters v && is_lt (compare u v)) (test_from_over letters u below.left)
      (and_from (is_over letters v) (is_lt (compare u v)) (test_from_over letters v below.right) (ap is_lt below.less))
