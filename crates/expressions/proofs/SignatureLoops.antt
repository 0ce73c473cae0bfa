-- The loops over the terms of a sum and the factors of a term compute their signature.
use Rattle.expressions.proofs.Prelude.{◌≡◌, ◌≢◌, ◌<◌, ◌≤◌, ◌+◌, ℕ, List, [], ◌∷◌, length, drop, get_or, Option, None, Result, Ok, Err, refl, sym, ap, ◌∙◌, arith, Sig, Declaration, Spot, Factor, out-Term, Sum, out-Sum, SignatureFault, ◌>>=◌, Part, product_signature, sum_from, sum_step, sum_signature, term_signature, term_at, factor_signature}
use Rattle.statement_syntax.specs.declared.tree.Term.{Term}
use Rattle.expressions.specs.Signatures.{product_from, product_step}
use Rattle.expressions.proofs.Trees.{each, factor_part, term_part, signature-sum, signature-term, place-term}
use Rattle.expressions.proofs.Sequences.{loop-next, loop-fault, loop-end}

-- a part at this place
abbrev placed : Spot → Option Sig → Result Part SignatureFault
placed at s = Ok (at, s)

-- a sum
module _ (ds : List Declaration) (s : Sum) (terms : List Term) (whole : terms ≡ (out-Sum s).terms) (i : ℕ) (so_far : Result (Option Sig) SignatureFault)
    (rest : (each (term_part ds) (drop i terms) >>= sum_from so_far) ≡ (each (term_part ds) terms >>= sum_from (Ok None))) where
  sum_is : sum_signature ds s ≡ (each (term_part ds) (drop i terms) >>= sum_from so_far)
  sum_is = signature-sum ds s ∙ ap (λ ts. each (term_part ds) ts >>= sum_from (Ok None)) (sym whole) ∙ sym rest

  pub sum-end : length terms ≤ i → so_far ≡ sum_signature ds s
  sum-end past = sym (sum_is ∙ loop-end (term_part ds) (sum_from so_far) terms i past)

  module _ (t : Term) (inside : i < length terms) (item : t ≡ get_or terms i t) where
    pub sum-fault : (e : SignatureFault) → term_signature ds t ≡ Err e → Err e ≡ sum_signature ds s
    sum-fault e fault = sym (sum_is ∙ loop-fault (term_part ds) (sum_from so_far) terms i t inside item e (ap (λ r. r >>= placed (term_at t)) fault))

    pub sum-next : (u : Option Sig) → term_signature ds t ≡ Ok u → (each (term_part ds) (drop (i + 1) terms) >>= sum_from (sum_step so_far (out-Term t).at u)) ≡ (each (term_part ds) terms >>= sum_from (Ok None))
    sum-next u ok =
        ap (λ at. each (term_part ds) (drop (i + 1) terms) >>= sum_from (sum_step so_far at u)) (sym (place-term t))
        ∙ loop-next (term_part ds) (sum_from so_far) terms i t inside item (term_at t, u) (ap (λ r. r >>= placed (term_at t)) ok)
        ∙ rest

-- of several factors none may be open
several-factors : {A : Type 0} (f : A → Result Part SignatureFault) (xs : List A) → length xs ≢ 1 → (each f xs >>= product_signature) ≡ (each f xs >>= product_from (Ok None))
several-factors f [] several = refl
several-factors f (x ∷ []) several = absurd (several refl)
several-factors f (x ∷ y ∷ xs) several = go (f x) (f y) (each f xs)
  where
    go : (p q : Result Part SignatureFault) (r : Result (List Part) SignatureFault)
        → ((p >>= λ a. (q >>= λ b. r >>= λ bs. Ok (b ∷ bs)) >>= λ bs. Ok (a ∷ bs)) >>= product_signature) ≡ ((p >>= λ a. (q >>= λ b. r >>= λ bs. Ok (b ∷ bs)) >>= λ bs. Ok (a ∷ bs)) >>= product_from (Ok None))
    go (Ok a) (Ok b) (Ok bs) = refl
    go (Ok a) (Ok b) (Err e) = refl
    go (Ok a) (Err e) r = refl
    go (Err e) q r = refl

-- a factor alone
pub only-factor : (ds : List Declaration) (t : Term) (factors : List Factor) → factors ≡ (out-Term t).factors → length factors ≡ 1 → (f : Factor) → f ≡ get_or factors 0 f → factor_signature ds f ≡ term_signature ds t
only-factor ds t factors whole one f item = sym (signature-term ds t ∙ ap (λ fs. each (factor_part ds) fs >>= product_signature) (sym whole) ∙ go factors one item)
  where
    alone : (r : Result (Option Sig) SignatureFault) → (((r >>= placed f.at) >>= λ p. Ok (p ∷ [])) >>= product_signature) ≡ r
    alone (Ok s) = refl
    alone (Err e) = refl

    go : (fs : List Factor) → length fs ≡ 1 → f ≡ get_or fs 0 f → (each (factor_part ds) fs >>= product_signature) ≡ factor_signature ds f
    go [] n e = absurd (omega arith)
    go (g ∷ []) n e =
        ap (λ h. (factor_part ds h >>= λ p. Ok (p ∷ [])) >>= product_signature) (sym e) ∙ alone (factor_signature ds f)
    go (g ∷ h ∷ fs) n e = absurd (omega arith)

module _ (ds : List Declaration) (t : Term) (factors : List Factor) (whole : factors ≡ (out-Term t).factors) (several : length factors ≢ 1) (i : ℕ) (so_far : Result (Option Sig) SignatureFault)
    (rest : (each (factor_part ds) (drop i factors) >>= product_from so_far) ≡ (each (factor_part ds) factors >>= product_from (Ok None))) where
  product_is : term_signature ds t ≡ (each (factor_part ds) (drop i factors) >>= product_from so_far)
  product_is = signature-term ds t ∙ ap (λ fs. each (factor_part ds) fs >>= product_signature) (sym whole) ∙ several-factors (factor_part ds) factors several ∙ sym rest

  pub product-end : length factors ≤ i → so_far ≡ term_signature ds t
  product-end past = sym (product_is ∙ loop-end (factor_part ds) (product_from so_far) factors i past)

  module _ (f : Factor) (inside : i < length factors) (item : f ≡ get_or factors i f) where
    pub product-fault : (e : SignatureFault) → factor_signature ds f ≡ Err e → Err e ≡ term_signature ds t
    product-fault e fault = sym (product_is ∙ loop-fault (factor_part ds) (product_from so_far) factors i f inside item e (ap (λ r. r >>= placed f.at) fault))

    pub product-next : (s : Option Sig) → factor_signature ds f ≡ Ok s → (each (factor_part ds) (drop (i + 1) factors) >>= product_from (product_step so_far f.at s)) ≡ (each (factor_part ds) factors >>= product_from (Ok None))
    product-next s ok =
        loop-next (factor_part ds) (product_from so_far) factors i f inside item (f.at, s) (ap (λ r. r >>= placed f.at) ok)
        ∙ rest
