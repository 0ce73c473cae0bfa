-- Letters that lead one after the other.
use Rattle.equation_chain.proofs.Prelude.{◌≡◌, ◌≢◌, ℕ, suc, ◌+◌, ◌<◌, ◌≤◌, Bool, true, false, ◌&&◌, List, [], ◌∷◌, ◌++◌, drop, length, get_or, refl, sym, ap, ◌∙◌, arith, ltb, ltb-true, lt-ltb, eqb, eqb-true, eq-eqb, Option, Some, None, IfSome, IfNone, nat_eq, drop-cons, append-nil, false_from_ne_true, Object, Quiver, letters, source, target, leads}

stops : (b : Bool) → (b && false) ≡ false
stops true = refl
stops false = refl

module _ (q : Quiver) (word : List ℕ) (place : ℕ) (below : place < length word) where
  abbrev letter : ℕ
  letter = get_or word place 0

  split : drop place word ≡ letter ∷ drop (place + 1) word
  split = drop-cons word place 0 below ∙ ap (λ n. letter ∷ drop n word) one_more
    where
      one_more : suc place ≡ place + 1
      one_more = omega arith

  -- the next letter leads to the object, and the letters after it lead on
  pub meets : (u v : ℕ) (rest : List ℕ) → letter < letters q → target q letter ≡ v → leads q u v (drop place word ++ rest) ≡ leads q u (source q letter) (drop (place + 1) word ++ rest)
  meets u v rest in_range here =
      ap (λ w. leads q u v (w ++ rest)) split
      ∙ ap (λ b. b && (eqb (target q letter) v && leads q u (source q letter) (drop (place + 1) word ++ rest))) (lt-ltb letter (letters q) in_range)
      ∙ ap (λ b. b && leads q u (source q letter) (drop (place + 1) word ++ rest)) (eq-eqb (target q letter) v here)

  -- it is none of the quiver
  pub strange : (u v : ℕ) (rest : List ℕ) → letters q ≤ letter → leads q u v (drop place word ++ rest) ≡ false
  strange u v rest past =
      let none : ltb letter (letters q) ≡ false = false_from_ne_true (ltb letter (letters q)) (λ is. let within = ltb-true letter (letters q) is in omega (arith, within, past)) in
      ap (λ w. leads q u v (w ++ rest)) split
      ∙ ap (λ b. b && (eqb (target q letter) v && leads q u (source q letter) (drop (place + 1) word ++ rest))) none

  -- it leads elsewhere
  pub apart : (u v : ℕ) (rest : List ℕ) → target q letter ≢ v → leads q u v (drop place word ++ rest) ≡ false
  apart u v rest elsewhere =
      let none : eqb (target q letter) v ≡ false = false_from_ne_true (eqb (target q letter) v) (λ is. elsewhere (eqb-true (target q letter) v is)) in
      ap (λ w. leads q u v (w ++ rest)) split
      ∙ ap (λ b. ltb letter (letters q) && (b && leads q u (source q letter) (drop (place + 1) word ++ rest))) none
      ∙ stops (ltb letter (letters q))

-- three words, one after the other
module _ (q : Quiver) (target middle inner : ℕ) (left word right : List ℕ)
    (first : (u : ℕ) (rest : List ℕ) → leads q u target (left ++ rest) ≡ leads q u middle rest) (second : (u : ℕ) (rest : List ℕ) → leads q u middle (word ++ rest) ≡ leads q u inner rest) where
  pub three_lead : (o : Option Object) → IfSome o (λ start. (u : ℕ) (rest : List ℕ) → leads q u inner (right ++ rest) ≡ leads q u start.0 rest)
      → IfSome o (λ start. (u : ℕ) → leads q u target (left ++ (word ++ right)) ≡ nat_eq u start.0)
  three_lead (Some s) third = λ u. first u (word ++ right) ∙ second u right ∙ ap (λ r. leads q u inner r) (sym (append-nil right)) ∙ third u []
  three_lead None third = tt

  pub three_misfit : (o : Option Object) → IfNone o ((u : ℕ) (rest : List ℕ) → leads q u inner (right ++ rest) ≡ false) → IfNone o ((u : ℕ) → leads q u target (left ++ (word ++ right)) ≡ false)
  three_misfit (Some s) third = tt
  three_misfit None third = λ u. first u (word ++ right) ∙ second u right ∙ ap (λ r. leads q u inner r) (sym (append-nil right)) ∙ third u []
