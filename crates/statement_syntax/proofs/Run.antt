-- Items read one after another, whatever a step does.
use Rattle.statement_syntax.proofs.Prelude.{◌≡◌, List, [], ◌∷◌, ◌++◌, ◌⊎◌, inl, inr, Result, Ok, Err, refl, sym, ap, ◌∙◌, Token, Fault, Expected, TooDeep, ◌>>=◌, run}

pub bind_ok : {A B : Type 0} (r : Result A Fault) (f : A → Result B Fault) (y : B) → (r >>= f) ≡ Ok y → (x : A) × (r ≡ Ok x) × (f x ≡ Ok y)
bind_ok (Ok x) f y e = (x, refl, e)
bind_ok (Err d) f y e = absurd cc

pub ok_is : {A : Type 0} (x y : A) → (let r : Result A Fault = Ok x in r) ≡ Ok y → x ≡ y
ok_is x y p = cc

-- runs
module _ {S : Type 0} (step : S → Token → Result S Fault) where
  pub one_step : (st next : S) (t : Token) (rest : List Token) → step st t ≡ Ok next → run step st (t ∷ rest) ≡ run step next rest
  unfolding run
  one_step st next t rest goes = ap (λ (r : Result S Fault). r >>= λ s. run step s rest) goes

  pub failing : (st : S) (t : Token) (more : List Token) (f : Fault) → step st t ≡ Err f → run step st (t ∷ more) ≡ Err f
  unfolding run
  failing st t more f fails = ap (λ (r : Result S Fault). r >>= λ s. run step s more) fails

  -- one run after another
  pub run-append : (st : S) (front rest : List Token) → run step st (front ++ rest) ≡ (run step st front >>= λ next. run step next rest)
  unfolding run
  run-append st [] rest = refl
  run-append st (t ∷ front) rest = by (step st t) (λ next. run-append next front rest)
    where
      by : (r : Result S Fault) → ((s : S) → run step s (front ++ rest) ≡ (run step s front >>= λ next. run step next rest))
          → (r >>= λ s. run step s (front ++ rest)) ≡ ((r >>= λ s. run step s front) >>= λ next. run step next rest)
      by (Ok s) goes = goes s
      by (Err f) goes = refl

  pub run_front : (st : S) (front : List Token) (next : S) (rest : List Token) → run step st front ≡ Ok next → run step st (front ++ rest) ≡ run step next rest
  run_front st front next rest ran = run-append st front rest ∙ ap (λ (r : Result S Fault). r >>= λ s. run step s rest) ran

  run_fails : (st : S) (front : List Token) (f : Fault) (rest : List Token) → run step st front ≡ Err f → run step st (front ++ rest) ≡ Err f
  run_fails st front f rest ran = run-append st front rest ∙ ap (λ (r : Result S Fault). r >>= λ s. run step s rest) ran

-- what holds where a step fails: more is expected, or a bracket is too deep and then this holds
abbrev pub IfDeep : Type 0 → Fault → Type 0
IfDeep P Expected = Unit {0}
IfDeep P TooDeep = P
IfDeep P f = ⊥

pub if_deep : {P Q : Type 0} (f : Fault) → IfDeep P f → (P → Q) → IfDeep Q f
if_deep Expected is goes = tt
if_deep TooDeep is goes = goes is
if_deep f is goes = absurd is

-- it is within the limit and goes on as this, or it is not and stops at a bracket that is too deep
abbrev pub Upto : {S : Type 0} → Type 0 → Result S Fault → Result S Fault → Type 0
Upto F r s = (F × (r ≡ s)) ⊎ ((F → ⊥) × (r ≡ Err TooDeep))

pub then_on : {S : Type 0} {F G : Type 0} {r s u : Result S Fault} → Upto F r s → Upto G s u → Upto (F × G) r u
then_on (inl (f, p)) (inl (g, q)) = inl ((f, g), p ∙ q)
then_on (inl (f, p)) (inr (g, q)) = inr (λ x. g x.1, p ∙ q)
then_on (inr (f, p)) k = inr (λ x. f x.0, p)

pub before_it : {S : Type 0} {F : Type 0} {r s u : Result S Fault} → r ≡ s → Upto F s u → Upto F r u
before_it p (inl (f, q)) = inl (f, p ∙ q)
before_it p (inr (f, q)) = inr (f, p ∙ q)

pub after_it : {S : Type 0} {F : Type 0} {r s u : Result S Fault} → Upto F r s → s ≡ u → Upto F r u
after_it (inl (f, p)) q = inl (f, p ∙ q)
after_it (inr (f, p)) q = inr (f, p)

pub run_upto : {S : Type 0} {F : Type 0} (step : S → Token → Result S Fault) (st : S) (front : List Token) (next : S) (rest : List Token)
    → Upto F (run step st front) (Ok next) → Upto F (run step st (front ++ rest)) (run step next rest)
run_upto step st front next rest (inl (f, p)) = inl (f, run_front step st front next rest p)
run_upto step st front next rest (inr (f, p)) = inr (f, run_fails step st front TooDeep rest p)

-- the result of a run is the one that was meant, if it is Ok
pub upto_ok : {S : Type 0} {F : Type 0} (r : Result S Fault) (meant next : S) → Upto F r (Ok meant) → r ≡ Ok next → F × (meant ≡ next)
upto_ok r meant next (inl (f, p)) given = (f, ok_is _ _ (sym p ∙ given))
upto_ok r meant next (inr (f, p)) given = absurd cc

-- one run inside another, whose steps do the same wherever the token is one that is expected
module _ {S T : Type 0} (inner : S → Token → Result S Fault) (outer : T → Token → Result T Fault) (wrap : S → T)
    (alike : (s : S) (t : Token) (read : Result S Fault) → inner s t ≡ read → (read ≡ Err Expected → ⊥) → outer (wrap s) t ≡ (read >>= λ x. Ok (wrap x))) where
  inside : (ts : List Token) (s : S) (read : Result S Fault) → run inner s ts ≡ read → (read ≡ Err Expected → ⊥)
      → run outer (wrap s) ts ≡ (read >>= λ x. Ok (wrap x))
  unfolding run
  inside [] s read ran fits = ap (λ (r : Result S Fault). r >>= λ x. Ok (wrap x)) ran
  inside (t ∷ ts) s read ran fits = by (inner s t) refl ran (λ next. inside ts next read)
    where
      by : (r : Result S Fault) → inner s t ≡ r → (r >>= λ x. run inner x ts) ≡ read
          → ((x : S) → run inner x ts ≡ read → (read ≡ Err Expected → ⊥) → run outer (wrap x) ts ≡ (read >>= λ x. Ok (wrap x)))
          → run outer (wrap s) (t ∷ ts) ≡ (read >>= λ x. Ok (wrap x))
      by (Ok x) is runs go = one_step outer (wrap s) (wrap x) t ts (alike s t (Ok x) is (λ e. absurd cc)) ∙ go x runs fits
      by (Err f) is runs go = failing outer (wrap s) t ts f (alike s t (Err f) is (λ e. fits (sym runs ∙ e))) ∙ ap (λ r. r >>= λ x. Ok (wrap x)) runs

  pub inside_upto : {F : Type 0} (ts : List Token) (s end : S) → Upto F (run inner s ts) (Ok end) → Upto F (run outer (wrap s) ts) (Ok (wrap end))
  inside_upto ts s end (inl (f, p)) = inl (f, inside ts s (Ok end) p (λ e. absurd cc))
  inside_upto ts s end (inr (f, p)) = inr (f, inside ts s (Err TooDeep) p (λ e. absurd cc))
