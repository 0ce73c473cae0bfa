-- Two words at places of one word: apart, overlapping, or one in the other.
use Rattle.std.proofs.Common.{◌≡◌, ℕ, refl, subst, sym, ap, ◌∙◌, [], ◌∷◌, ◌++◌, append-nil, length, ◌<◌, arith}
use Rattle.definitions.specs.Poly.{Word}

-- a word with letters
pub data SomeLetters : Word → Type 0 where
  some_letters : (a : ℕ) (w : Word) → SomeLetters (a ∷ w)

pub some_length : (w : Word) → SomeLetters w → 0 < length w
some_length _ (some_letters a w) = omega arith

-- where two joins are one word, one first part is a prefix of the other
pub data Split (a b c d : Word) : Type 0 where
  longer : (t : Word) → c ≡ a ++ t → b ≡ t ++ d → Split a b c d
  shorter : (t : Word) → SomeLetters t → a ≡ c ++ t → d ≡ t ++ b → Split a b c d

pub split_append : (a b c d : Word) → a ++ b ≡ c ++ d → Split a b c d
split_append [] b c d e = longer c refl e
split_append (x ∷ a) b [] d e = shorter (x ∷ a) (some_letters x a) refl (sym e)
split_append (x ∷ a) b (y ∷ c) d e = elim (split_append a b c d tails) [
  | longer t p q ↦ longer t (cc) q
  | shorter t n p q ↦ shorter t n (cc) q
]
  where
    heads : x ≡ y
    heads = cc

    tails : a ++ b ≡ c ++ d
    tails = cc

-- how p between l1 and r1 and q between l2 and r2 lie in one word, where l1 is no longer than l2
pub data Placed (p q l1 r1 l2 r2 : Word) : Type 0 where
  apart : (m : Word) → l2 ≡ l1 ++ (p ++ m) → r1 ≡ m ++ (q ++ r2) → Placed p q l1 r1 l2 r2
  overlap : (s o t : Word) → SomeLetters s → SomeLetters o → SomeLetters t → p ≡ s ++ o → q ≡ o ++ t → l2 ≡ l1 ++ s → r1 ≡ t ++ r2 → Placed p q l1 r1 l2 r2
  inside : (s t : Word) → p ≡ s ++ (q ++ t) → l2 ≡ l1 ++ s → r2 ≡ t ++ r1 → Placed p q l1 r1 l2 r2
  outside : (t : Word) → SomeLetters t → q ≡ p ++ t → l2 ≡ l1 → r1 ≡ t ++ r2 → Placed p q l1 r1 l2 r2

pub data EitherWay (p q l1 r1 l2 r2 : Word) : Type 0 where
  first : Placed p q l1 r1 l2 r2 → EitherWay p q l1 r1 l2 r2
  second : Placed q p l2 r2 l1 r1 → EitherWay p q l1 r1 l2 r2

placed : (p q l1 r1 s r2 l2 : Word) → l2 ≡ l1 ++ s → p ++ r1 ≡ s ++ (q ++ r2) → Placed p q l1 r1 l2 r2
placed p q l1 r1 s r2 l2 at e = elim (split_append p r1 s (q ++ r2) e) [
  | longer m sm rm ↦ apart m (at ∙ ap (λ x. l1 ++ x) sm) rm
  | shorter o n po ro ↦ inner o n po (split_append q r2 o r1 ro)
]
  where
    inner : (o : Word) → SomeLetters o → p ≡ s ++ o → Split q r2 o r1 → Placed p q l1 r1 l2 r2
    inner o n po (longer t qo rt) = inside s t (po ∙ ap (λ x. s ++ x) qo) at rt
    inner o n po (shorter t m qo rt) = (elim s as (λ x. s ≡ x → Placed p q l1 r1 l2 r2) [
      | [] ↦ λ es. outside t m (qo ∙ ap (λ x. x ++ t) (sym (po ∙ ap (λ x. x ++ o) es))) (at ∙ ap (λ x. l1 ++ x) es ∙ append-nil l1) rt
      | x ∷ xs ↦ λ es. overlap s o t (subst SomeLetters (sym es) (some_letters x xs)) n m po qo at rt
    ]) refl

pub two_places : (p q l1 r1 l2 r2 : Word) → l1 ++ (p ++ r1) ≡ l2 ++ (q ++ r2) → EitherWay p q l1 r1 l2 r2
two_places p q l1 r1 l2 r2 e = elim (split_append l1 (p ++ r1) l2 (q ++ r2) e) [
  | longer s at es ↦ first (placed p q l1 r1 s r2 l2 at es)
  | shorter s n at es ↦ second (placed q p l2 r2 s r1 l1 at es)
]
