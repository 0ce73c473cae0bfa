-- Lists with exactly the items that have a property: of the items that pass a test, and what is added to one.
use Rattle.closed_checker.proofs.Prelude.{◌≡◌, ◌≢◌, ◌↔◌, ◌⊎◌, inl, inr, ℕ, ◌+◌, ◌<◌, Bool, true, false, cond, List, [], ◌∷◌, ◌++◌, length, take, get_or, filter, refl, sym, ap, ◌∙◌, subst, arith, Decides, Contains, append-nil, append_assoc, take_more, All-contains, All-contains_itself, All-filter, filter_passes, Contains-append_left, Contains-push, Contains-push_cases, AllPairs-filter, Ambiguity, ListsExactly, exactly-one, exactly-append, exactly-same, IsAdded, contains-cases, contains-first, contains-rest}

module _ {X : Type 0} (p : X → Bool) where
  kept-first : (x y : X) (xs : List X) → p y ≡ true → y ≡ x → Contains (cond (p y) (y ∷ xs) xs) x
  kept-first x y xs passes is = subst (λ b. Contains (cond b (y ∷ xs) xs) x) (sym passes) (subst (Contains (y ∷ xs)) is (contains-first y xs))

  kept-rest : (b : Bool) (x y : X) (xs : List X) → Contains xs x → Contains (cond b (y ∷ xs) xs) x
  kept-rest true x y xs at = contains-rest y xs x at
  kept-rest false x y xs at = at

  contains-filter : (x : X) (xs : List X) → p x ≡ true → Contains xs x → Contains (filter p xs) x
  contains-filter x [] passes (k, inside, is) = absurd (omega (arith, inside))
  contains-filter x (y ∷ xs) passes at = go (contains-cases y xs x at) (λ later. contains-filter x xs passes later)
    where
      go : (y ≡ x) ⊎ Contains xs x → (Contains xs x → Contains (filter p xs) x) → Contains (filter p (y ∷ xs)) x
      go (inl is) further = kept-first x y (filter p xs) (ap p is ∙ passes) is
      go (inr later) further = kept-rest (p y) x y (filter p xs) (further later)

  module _ (Before : X → X → Type 0) where
    pub exactly-filter : (P Q R : X → Type 0) (xs : List X) → ((x : X) → Decides (p x) (Q x)) → ((x : X) → R x ↔ (P x × Q x)) → ListsExactly Before P xs
        → ListsExactly Before R (filter p xs)
    exactly-filter P Q R xs tells both exact = record {
      members = λ x. (
        λ at. (both x).1 (
          (exact.members x).0 (All-contains (Contains xs) (filter p xs) x (All-filter p (Contains xs) xs (All-contains_itself xs)) at),
          (tells x).0 (All-contains (λ y. p y ≡ true) (filter p xs) x (filter_passes p xs) at),
        ),
        λ held. contains-filter x xs ((tells x).1 ((both x).0 held).1) ((exact.members x).1 ((both x).0 held).0),
      );
      ascending = AllPairs-filter Before p xs exact.ascending;
    }

-- the first items, and one more
pub contains-more : {X : Type 0} (xs : List X) (n : ℕ) (d x : X) → n < length xs → Contains (take (n + 1) xs) x ↔ (Contains (take n xs) x ⊎ (get_or xs n d ≡ x))
contains-more xs n d x inside = (
  λ at. Contains-push_cases (take n xs) (get_or xs n d) x (subst (λ ys. Contains ys x) (take_more xs n d inside) at),
  λ at. subst (λ ys. Contains ys x) (sym (take_more xs n d inside)) (into at),
)
  where
    into : Contains (take n xs) x ⊎ (get_or xs n d ≡ x) → Contains (take n xs ++ get_or xs n d ∷ []) x
    into (inl at) = Contains-append_left (take n xs) (get_or xs n d ∷ []) x at
    into (inr is) = subst (Contains (take n xs ++ get_or xs n d ∷ [])) is (Contains-push (take n xs) (get_or xs n d))

-- what is added
pub added-append : (P Q R : Ambiguity → Type 0) (old mid new : List Ambiguity) → IsAdded P old mid → IsAdded Q mid new
    → ((a b : Ambiguity) → P a → Q b → a ≢ b) → ((a : Ambiguity) → R a ↔ (P a ⊎ Q a))
    → IsAdded R old new
added-append P Q R old mid new first second across both = record {
  more = first.more ++ second.more;
  appended = second.appended ∙ ap (λ xs. xs ++ second.more) first.appended ∙ append_assoc old first.more second.more;
  exact = exactly-append (λ a b. a ≢ b) P Q R first.more second.more first.exact second.exact across both;
}

pub added-same : (P Q : Ambiguity → Type 0) (old new : List Ambiguity) → ((a : Ambiguity) → Q a ↔ P a) → IsAdded P old new → IsAdded Q old new
added-same P Q old new same added = record { more = added.more; appended = added.appended; exact = exactly-same (λ a b. a ≢ b) P Q added.more same added.exact }

pub added-none : (P : Ambiguity → Type 0) (old : List Ambiguity) → ((a : Ambiguity) → P a → ⊥) → IsAdded P old old
added-none P old none = record {
  more = [];
  appended = sym (append-nil old);
  exact =
      record { members = λ a. (λ at. absurd (omega (arith, at.1)), λ held. absurd (none a held)); ascending = λ i j d before inside. absurd (omega (arith, inside)) };
}

pub added-one : (a : Ambiguity) (old : List Ambiguity) → IsAdded (λ b. a ≡ b) old (old ++ a ∷ [])
added-one a old = record { more = a ∷ []; appended = refl; exact = exactly-one (λ b c. b ≢ c) a }
