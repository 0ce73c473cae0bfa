-- Lists of the items that have a property, each before all later ones.
use Rattle.ambiguities.proofs.Prelude.{◌≡◌, ◌⊎◌, inl, inr, List, [], ◌∷◌, sym, ◌∙◌, subst, arith, AllPairs, Contains, AllPairs-cons, All-weaker, All-contains_itself, ListsExactly}
use Rattle.ambiguities.proofs.Ascending.{contains-none, contains-cases, contains-first, contains-rest, first-before, rest-pairs}

-- what is decided
abbrev pub Decided : Type 0 → Type 0
Decided P = P ⊎ (P → ⊥)

module _ {X : Type 0} where
  -- the items of a list that have a property
  module _ (P : X → Type 0) (decided : (x : X) → Decided (P x)) where
    record Passed (xs : List X) : Type 0 where
      list : List X
      into : (x : X) → Contains xs x → P x → Contains list x
      back : (x : X) → Contains list x → P x

    passed : (xs : List X) → Passed xs
    passed [] = record { list = []; into = λ x at held. at; back = λ x at. absurd (contains-none x at) }
    passed (y ∷ xs) = go (decided y) (passed xs)
      where
        go : Decided (P y) → Passed xs → Passed (y ∷ xs)
        go (inl held) rest = record {
          list = y ∷ rest.list;
          into = λ x at x_held. into x x_held (contains-cases y xs x at);
          back = λ x at. back x (contains-cases y rest.list x at);
        }
          where
            into : (x : X) → P x → (y ≡ x) ⊎ Contains xs x → Contains (y ∷ rest.list) x
            into x x_held (inl is) = subst (Contains (y ∷ rest.list)) is (contains-first y rest.list)
            into x x_held (inr at) = contains-rest y rest.list x (rest.into x at x_held)

            back : (x : X) → (y ≡ x) ⊎ Contains rest.list x → P x
            back x (inl is) = subst P is held
            back x (inr at) = rest.back x at
        go (inr not_held) rest = record {
          list = rest.list;
          into = λ x at x_held. into x x_held (contains-cases y xs x at);
          back = rest.back;
        }
          where
            into : (x : X) → P x → (y ≡ x) ⊎ Contains xs x → Contains rest.list x
            into x x_held (inl is) = absurd (not_held (subst P (sym is) x_held))
            into x x_held (inr at) = rest.into x at x_held

  -- sorted
  module _ (Before : X → X → Type 0) (trans : (x y z : X) → Before x y → Before y z → Before x z) (compared : (x y : X) → (x ≡ y) ⊎ (Before x y ⊎ Before y x)) where
    -- the items of a list, each before all later ones
    record Arranged (xs : List X) : Type 0 where
      list : List X
      into : (x : X) → Contains xs x → Contains list x
      back : (x : X) → Contains list x → Contains xs x
      ascending : AllPairs Before list

    -- what is before the first one is before all
    before_all : (y z : X) (xs : List X) → Before y z → AllPairs Before (z ∷ xs) → (x : X) → (z ≡ x) ⊎ Contains xs x → Before y x
    before_all y z xs before pairs x (inl is) = subst (Before y) is before
    before_all y z xs before pairs x (inr at) = trans y z x before (first-before Before z xs pairs x at)

    inserted : (y : X) (xs : List X) → AllPairs Before xs → Arranged (y ∷ xs)
    inserted y [] pairs = record { list = y ∷ []; into = λ x at. at; back = λ x at. at; ascending = λ i j d before inside. absurd (omega (arith, before, inside)) }
    inserted y (z ∷ xs) pairs = go (compared y z) (inserted y xs (rest-pairs Before z xs pairs))
      where
        go : (y ≡ z) ⊎ (Before y z ⊎ Before z y) → Arranged (y ∷ xs) → Arranged (y ∷ (z ∷ xs))
        go (inl same) rest = record {
          list = z ∷ xs;
          into = λ x at. into x (contains-cases y (z ∷ xs) x at);
          back = λ x at. contains-rest y (z ∷ xs) x at;
          ascending = pairs;
        }
          where
            into : (x : X) → (y ≡ x) ⊎ Contains (z ∷ xs) x → Contains (z ∷ xs) x
            into x (inl is) = subst (Contains (z ∷ xs)) (sym same ∙ is) (contains-first z xs)
            into x (inr at) = at
        go (inr (inl before)) rest = record {
          list = y ∷ (z ∷ xs);
          into = λ x at. at;
          back = λ x at. at;
          ascending = AllPairs-cons Before y (z ∷ xs)
              (All-weaker (Contains (z ∷ xs)) (Before y) (λ x at. before_all y z xs before pairs x (contains-cases z xs x at)) (z ∷ xs) (All-contains_itself (z ∷ xs))) pairs;
        }
        go (inr (inr after)) rest = record {
          list = z ∷ rest.list;
          into = λ x at. into x (contains-cases y (z ∷ xs) x at);
          back = λ x at. back x (contains-cases z rest.list x at);
          ascending = AllPairs-cons Before z rest.list
              (All-weaker (Contains rest.list) (Before z) (λ x at. later x (contains-cases y xs x (rest.back x at))) rest.list (All-contains_itself rest.list)) rest.ascending;
        }
          where
            into : (x : X) → (y ≡ x) ⊎ Contains (z ∷ xs) x → Contains (z ∷ rest.list) x
            into x (inl is) = contains-rest z rest.list x (rest.into x (subst (Contains (y ∷ xs)) is (contains-first y xs)))
            into x (inr at) = further (contains-cases z xs x at)
              where
                further : (z ≡ x) ⊎ Contains xs x → Contains (z ∷ rest.list) x
                further (inl is) = subst (Contains (z ∷ rest.list)) is (contains-first z rest.list)
                further (inr in_xs) = contains-rest z rest.list x (rest.into x (contains-rest y xs x in_xs))

            back : (x : X) → (z ≡ x) ⊎ Contains rest.list x → Contains (y ∷ (z ∷ xs)) x
            back x (inl is) = contains-rest y (z ∷ xs) x (subst (Contains (z ∷ xs)) is (contains-first z xs))
            back x (inr at) = further (contains-cases y xs x (rest.back x at))
              where
                further : (y ≡ x) ⊎ Contains xs x → Contains (y ∷ (z ∷ xs)) x
                further (inl is) = subst (Contains (y ∷ (z ∷ xs))) is (contains-first y (z ∷ xs))
                further (inr in_xs) = contains-rest y (z ∷ xs) x (contains-rest z xs x in_xs)

            later : (x : X) → (y ≡ x) ⊎ Contains xs x → Before z x
            later x (inl is) = subst (Before z) is after
            later x (inr at) = first-before Before z xs pairs x at

    arranged : (xs : List X) → Arranged xs
    arranged [] = record { list = []; into = λ x at. at; back = λ x at. at; ascending = λ i j d before inside. absurd (omega (arith, inside)) }
    arranged (y ∷ xs) = go (arranged xs)
      where
        go : Arranged xs → Arranged (y ∷ xs)
        go rest = record {
          list = more.list;
          into = λ x at. more.into x (into x (contains-cases y xs x at));
          back = λ x at. back x (contains-cases y rest.list x (more.back x at));
          ascending = more.ascending;
        }
          where
            more : Arranged (y ∷ rest.list)
            more = inserted y rest.list rest.ascending

            into : (x : X) → (y ≡ x) ⊎ Contains xs x → Contains (y ∷ rest.list) x
            into x (inl is) = subst (Contains (y ∷ rest.list)) is (contains-first y rest.list)
            into x (inr at) = contains-rest y rest.list x (rest.into x at)

            back : (x : X) → (y ≡ x) ⊎ Contains rest.list x → Contains (y ∷ xs) x
            back x (inl is) = subst (Contains (y ∷ xs)) is (contains-first y xs)
            back x (inr at) = contains-rest y xs x (rest.back x at)

    -- a list with exactly the items that have a property
    pub record Listing (P : X → Type 0) : Type 0 where
      pub list : List X
      pub exact : ListsExactly Before P list

    -- There is one, where the property is decided and all items with it are in some list.
    pub listing : (P : X → Type 0) → ((x : X) → Decided (P x)) → (xs : List X) → ((x : X) → P x → Contains xs x) → Listing P
    listing P decided xs each =
        let some = passed P decided xs in
        let in_order = arranged some.list in
        record {
          list = in_order.list;
          exact = record {
            members = λ x. (λ at. some.back x (in_order.back x at), λ held. in_order.into x (some.into x (each x held) held));
            ascending = in_order.ascending;
          };
        }
