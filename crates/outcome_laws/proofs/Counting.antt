-- Of what rounds take, one each is listed that is new and as asked.
use Rattle.outcome_laws.proofs.Prelude.{◌≡◌, ◌≢◌, get_or, ◌*◌, ◌≤◌, ◌⊎◌, inl, inr, arith, subst, sym, List, [], ◌∷◌, ◌++◌, length, length-append, Contains-get_or, Contains-append_left, Contains-append_right, AllPairs, Contains, round_limit, AllPairs-cons, contains-none, contains-cases}

module _ {A : Type 0} where
  -- distinct ones that were taken, each as asked, of no more than the limit of a round each time one
  pub record HasFirsts (Asked : A → Type 0) (taken : List A) : Type 0 where
    pub firsts : List A
    pub distinct : AllPairs (λ x y. x ≢ y) firsts
    pub members : (x : A) → Contains firsts x → Contains taken x
    pub asked : (x : A) → Contains firsts x → Asked x
    pub many : length taken ≤ round_limit * length firsts

  pub none_taken : (Asked : A → Type 0) → HasFirsts Asked []
  none_taken Asked =
      record { firsts = []; distinct = λ i j d before inside. absurd (omega (arith, inside)); members = λ x m. absurd (contains-none x m); asked = λ x m. absurd (contains-none x m); many = omega arith }

  pub firsts_weaker : (P Q : A → Type 0) → ((x : A) → P x → Q x) → (taken : List A) → HasFirsts P taken → HasFirsts Q taken
  firsts_weaker P Q weaker taken f = record { firsts = f.firsts; distinct = f.distinct; members = f.members; asked = λ x m. weaker x (f.asked x m); many = f.many }

  -- one more that was not taken before
  module _ (Asked : A → Type 0) (before : List A) (f : HasFirsts Asked before) (x : A) (is : Asked x) (new : Contains before x → ⊥) where
    pub distinct_more : AllPairs (λ y z. y ≢ z) (x ∷ f.firsts)
    distinct_more =
        AllPairs-cons (λ y z. y ≢ z) x f.firsts (λ k d inside e. new (subst (Contains before) (sym e) (f.members (get_or f.firsts k d) (Contains-get_or f.firsts k d inside)))) f.distinct

    pub asked_more : (y : A) → Contains (x ∷ f.firsts) y → Asked y
    asked_more y m = go (contains-cases x f.firsts y m)
      where
        go : (x ≡ y) ⊎ Contains f.firsts y → Asked y
        go (inl e) = subst Asked e is
        go (inr k) = f.asked y k

    pub firsts_more : (taken : List A) → Contains taken x → length taken ≤ round_limit → HasFirsts Asked (before ++ taken)
    firsts_more taken among few = record {
      firsts = x ∷ f.firsts;
      distinct = distinct_more;
      members = λ y m. at y (contains-cases x f.firsts y m);
      asked = asked_more;
      many = omega (arith, length-append before taken, f.many, few);
    }
      where
        at : (y : A) → (x ≡ y) ⊎ Contains f.firsts y → Contains (before ++ taken) y
        at y (inl e) = subst (Contains (before ++ taken)) e (Contains-append_right before taken x among)
        at y (inr k) = Contains-append_left before taken y (f.members y k)
