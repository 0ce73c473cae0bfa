-- Lists with exactly the items that have a property, each before all later ones.
use Rattle.ambiguities.proofs.Prelude.{◌≡◌, ◌↔◌, ◌⊎◌, inl, inr, ℕ, ◌+◌, ◌-◌, ◌<◌, ◌≤◌, List, [], ◌∷◌, ◌++◌, length, get_or, refl, sym, ap, ◌∙◌, subst, arith, All, AllPairs, Contains, cases_lt, append-nil, append_assoc, length-append, get_or_append_left, get_or-append_right, Contains-append_left, Contains-append_right, Contains-append_cases, Contains-get_or, All-weaker, All-contains_itself, Ambiguity, IsBefore, ListsExactly, IsGrown}

contains-one : {X : Type 0} (y x : X) → Contains (y ∷ []) x → y ≡ x
contains-one y x at = sym (here at.0 at.1) ∙ at.2
  where
    here : (k : ℕ) → k < 1 → get_or (y ∷ []) k x ≡ y
    here k inside = let first : k ≡ 0 = omega arith in ap (λ n. get_or (y ∷ []) n x) first

module _ {X : Type 0} (Before : X → X → Type 0) where
  all_pairs-append : (xs ys : List X) → AllPairs Before xs → AllPairs Before ys → ((x y : X) → Contains xs x → Contains ys y → Before x y) → AllPairs Before (xs ++ ys)
  all_pairs-append xs ys left right across i j d before inside = go (cases_lt i (length xs)) (cases_lt j (length xs))
    where
      all : length (xs ++ ys) ≡ length xs + length ys
      all = length-append xs ys

      at_left : (k : ℕ) → k < length xs → get_or (xs ++ ys) k d ≡ get_or xs k d
      at_left k here = get_or_append_left xs ys d k here

      at_right : (k : ℕ) → length xs ≤ k → get_or (xs ++ ys) k d ≡ get_or ys (k - length xs) d
      at_right k past = get_or-append_right xs ys (length xs) k d refl past

      go : (i < length xs) ⊎ (length xs ≤ i) → (j < length xs) ⊎ (length xs ≤ j) → Before (get_or (xs ++ ys) i d) (get_or (xs ++ ys) j d)
      go (inl i_left) (inl j_left) = subst (λ (p : X × X). Before p.0 p.1) (λ n. (sym (at_left i i_left) n, sym (at_left j j_left) n)) (left i j d before j_left)
      go (inl i_left) (inr j_right) =
          let j_in : j - length xs < length ys = omega (arith, all, inside) in
          subst (λ (p : X × X). Before p.0 p.1) (λ n. (sym (at_left i i_left) n, sym (at_right j j_right) n))
          (across (get_or xs i d) (get_or ys (j - length xs) d) (Contains-get_or xs i d i_left) (Contains-get_or ys (j - length xs) d j_in))
      go (inr i_right) (inl j_left) = absurd (omega arith)
      go (inr i_right) (inr j_right) =
          subst (λ (p : X × X). Before p.0 p.1) (λ n. (sym (at_right i i_right) n, sym (at_right j j_right) n))
          (right (i - length xs) (j - length xs) d (omega arith) (omega (arith, all, inside)))

  pub exactly-one : (y : X) → ListsExactly Before (λ x. y ≡ x) (y ∷ [])
  exactly-one y = record {
    members = λ x. (contains-one y x, λ same. (0, omega arith, same));
    ascending = λ i j d before inside. absurd (omega arith);
  }

  pub exactly-append : (P Q R : X → Type 0) (xs ys : List X) → ListsExactly Before P xs → ListsExactly Before Q ys → ((x y : X) → P x → Q y → Before x y) → ((x : X) → R x ↔ (P x ⊎ Q x))
      → ListsExactly Before R (xs ++ ys)
  exactly-append P Q R xs ys left right across both = record {
    members = λ x. (λ at. (both x).1 (from_list x (Contains-append_cases xs ys x at)), λ held. to_list x ((both x).0 held));
    ascending = all_pairs-append xs ys left.ascending right.ascending (λ x y x_in y_in. across x y ((left.members x).0 x_in) ((right.members y).0 y_in));
  }
    where
      from_list : (x : X) → Contains xs x ⊎ Contains ys x → P x ⊎ Q x
      from_list x (inl at) = inl ((left.members x).0 at)
      from_list x (inr at) = inr ((right.members x).0 at)

      to_list : (x : X) → P x ⊎ Q x → Contains (xs ++ ys) x
      to_list x (inl held) = Contains-append_left xs ys x ((left.members x).1 held)
      to_list x (inr held) = Contains-append_right xs ys x ((right.members x).1 held)

  pub exactly-same : (P Q : X → Type 0) (xs : List X) → ((x : X) → Q x ↔ P x) → ListsExactly Before P xs → ListsExactly Before Q xs
  exactly-same P Q xs same exact = record {
    members = λ x. (λ at. (same x).1 ((exact.members x).0 at), λ held. (exact.members x).1 ((same x).0 held));
    ascending = exact.ascending;
  }

  -- each item has what follows from the property
  pub exactly-all : (P Q : X → Type 0) (xs : List X) → ListsExactly Before P xs → ((x : X) → P x → Q x) → All Q xs
  exactly-all P Q xs exact follows = All-weaker (Contains xs) Q (λ x at. follows x ((exact.members x).0 at)) xs (All-contains_itself xs)

-- lists that grow
pub grown-append : (P Q R : Ambiguity → Type 0) (old mid new : List Ambiguity) → IsGrown P old mid → IsGrown Q mid new → ((a b : Ambiguity) → P a → Q b → IsBefore a b) → ((a : Ambiguity) → R a ↔ (P a ⊎ Q a))
    → IsGrown R old new
grown-append P Q R old mid new first second across both = record {
  more = first.more ++ second.more;
  appended = second.appended ∙ ap (λ xs. xs ++ second.more) first.appended ∙ append_assoc old first.more second.more;
  exact = exactly-append IsBefore P Q R first.more second.more first.exact second.exact across both;
}

pub grown-same : (P Q : Ambiguity → Type 0) (old new : List Ambiguity) → ((a : Ambiguity) → Q a ↔ P a) → IsGrown P old new → IsGrown Q old new
grown-same P Q old new same grown = record { more = grown.more; appended = grown.appended; exact = exactly-same IsBefore P Q grown.more same grown.exact }

-- where nothing has the property, nothing is appended
pub grown-none : (P : Ambiguity → Type 0) (old : List Ambiguity) → ((a : Ambiguity) → P a → ⊥) → IsGrown P old old
grown-none P old none = record {
  more = [];
  appended = sym (append-nil old);
  exact = record {
    members = λ a. (λ at. absurd (omega (arith, at.1)), λ held. absurd (none a held));
    ascending = λ m n d before inside. absurd (omega (arith, inside));
  };
}

-- what grew from nothing is what was appended
pub grown-whole : (P : Ambiguity → Type 0) (new : List Ambiguity) → IsGrown P [] new → ListsExactly IsBefore P new
grown-whole P new grown = subst (ListsExactly IsBefore P) (sym grown.appended) grown.exact
