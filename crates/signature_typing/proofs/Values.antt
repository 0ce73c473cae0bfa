-- Results of which none is a fault, and their values.
use Rattle.signature_typing.proofs.Prelude.{◌≡◌, List, [], ◌∷◌, ◌++◌, length, map, suc, None, Result, Ok, Err, refl, sym, ap, subst, ◌∙◌, All, AllByRecursion, AllZip, flat_map, All-nil, All-cons, All-head, All-tail, TypeFault, first_among, fault_in, value_in, both_none, Each-left, Each-right, Each-append}

-- the result is no fault
abbrev pub IsValue : {X E : Type 0} → Result X E → Type 0
IsValue (Ok x) = Unit {0}
IsValue (Err e) = ⊥

value_of : {X E : Type 0} (r : Result X E) → IsValue r → (x : X) × (r ≡ Ok x)
value_of (Ok x) is = (x, refl)
value_of (Err e) is = absurd is

is_value : {X E : Type 0} (told : E → TypeFault) (r : Result X E) → fault_in told r ≡ None → IsValue r
is_value told (Ok x) none = tt
is_value told (Err e) none = cc

module _ {A X E : Type 0} (f : A → Result X E) where
  -- none of them is a fault
  abbrev pub AreValues : List A → Type 0
  AreValues es = AllByRecursion (λ e. IsValue (f e)) es

  -- their values
  abbrev pub values : List A → List X
  values es = flat_map (λ e. value_in (f e)) es

  are_values : (told : E → TypeFault) (es : List A) → first_among (λ e. fault_in told (f e)) es ≡ None → AreValues es
  are_values told [] none = tt
  are_values told (e ∷ es) none =
      let both = both_none (fault_in told (f e)) (first_among (λ x. fault_in told (f x)) es) none in
      (is_value told (f e) both.0, are_values told es both.1)

  -- of all elements in two lists for each element of another, where no fault is found in these
  pub all_values : {S : Type 0} (told : S → E → TypeFault) (front back : S → List A) (xs : List S)
      → first_among (λ s. first_among (λ e. fault_in (told s) (f e)) (front s ++ back s)) xs ≡ None → AreValues (flat_map front xs) × AreValues (flat_map back xs)
  all_values told front back [] none = (tt, tt)
  all_values told front back (x ∷ xs) none =
      let both = both_none (first_among (λ e. fault_in (told x) (f e)) (front x ++ back x)) (first_among (λ s. first_among (λ e. fault_in (told s) (f e)) (front s ++ back s)) xs) none in
      let here = are_values (told x) (front x ++ back x) both.0 in
      let there = all_values told front back xs both.1 in
      let fine = λ (e : A). IsValue (f e) in (
        Each-append fine (front x) (flat_map front xs) (Each-left fine (front x) (back x) here) there.0,
        Each-append fine (back x) (flat_map back xs) (Each-right fine (front x) (back x) here) there.1,
      )

  first_value : (e : A) (es : List A) (x : X) → f e ≡ Ok x → values (e ∷ es) ≡ x ∷ values es
  first_value e es x is = ap (λ r. value_in r ++ values es) is

  pub length-values : (es : List A) → AreValues es → length (values es) ≡ length es
  length-values [] fine = refl
  length-values (e ∷ es) fine =
      let found = value_of (f e) fine.0 in
      ap length (first_value e es found.0 found.1) ∙ ap (λ n. suc n) (length-values es fine.1)

  -- what holds of each value, where something holds of each element
  pub each_value : (H : A → Type 0) (Q : X → Type 0) → ((e : A) (x : X) → H e → f e ≡ Ok x → Q x) → (es : List A) → All H es → AreValues es → All Q (values es)
  each_value H Q gives [] each fine = All-nil Q
  each_value H Q gives (e ∷ es) each fine =
      let found = value_of (f e) fine.0 in
      subst (All Q) (sym (first_value e es found.0 found.1))
      (All-cons Q found.0 (values es) (gives e found.0 (All-head H e es each) found.1) (each_value H Q gives es (All-tail H e es each) fine.1))

-- what holds of the values of two functions at each element, where the first ones are those of other things
module _ {A P X Y E F : Type 0} (f : A → Result X E) (g : A → Result Y F) (view : P → X) (H : A → Type 0) (R : P → Y → Type 0)
    (gives : (e : A) (p : P) (y : Y) → H e → f e ≡ Ok (view p) → g e ≡ Ok y → R p y) where
  pub zipped : (es : List A) (ps : List P) → All H es → AreValues f es → AreValues g es → map view ps ≡ values f es → AllZip R ps (values g es)
  zipped [] [] each fine_f fine_g are = tt
  zipped [] (p ∷ ps) each fine_f fine_g are = absurd cc
  zipped (e ∷ es) ps each fine_f fine_g are =
      let found = value_of (f e) fine_f.0 in
      let other = value_of (g e) fine_g.0 in
      subst (AllZip R ps) (sym (first_value g e es other.0 other.1))
      (go found.0 other.0 found.1 other.1 (λ qs is. zipped es qs (All-tail H e es each) fine_f.1 fine_g.1 is) ps (are ∙ first_value f e es found.0 found.1))
    where
      go : (x : X) (y : Y) → f e ≡ Ok x → g e ≡ Ok y → ((qs : List P) → map view qs ≡ values f es → AllZip R qs (values g es))
          → (qs : List P) → map view qs ≡ x ∷ values f es → AllZip R qs (y ∷ values g es)
      go x y is_x is_y rest [] is = absurd cc
      go x y is_x is_y rest (q ∷ qs) is = let same : x ≡ view q = cc in (gives e q y (All-head H e es each) (is_x ∙ ap Ok same) is_y, rest qs cc)
