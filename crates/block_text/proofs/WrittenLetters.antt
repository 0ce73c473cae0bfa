-- A letter is written as it is spelled, but for a ' after one that is its own adjoint.
use Rattle.block_text.proofs.Prelude.{◌≡◌, ◌-◌, ℕ, Bool, true, false, not, cond, ◌&&◌, List, [], ◌∷◌, Option, Some, None, arith, refl, ap, ◌∙◌, subst, length, take, drop, codes, nat_eq, eq-eqb, ⊤, starts_with, ends_with, option_and_then, option_map, false_from_ne_true, length-take-le, cond_some, star, Named, Object, Map, Declaration, named_in, letter_name, identity_in, quiver_of, Spelled, is_name, name_in, spelled_by, letter_named, starred, is, is_bracketed, is_adjoint, is_spelling, is_written_as, written_letter, marked, written_by}
use Rattle.quiver.proofs.Found.{is_named}
use Rattle.block_text.specs.Letters.{named_by}
use Rattle.block_text.specs.PolynomialLines.{is_plain}
use Rattle.block_text.proofs.LetterNames.{star_name, identity_name}
use Rattle.block_text.proofs.LineTrees.{is_word}
use Rattle.block_text.proofs.PolynomialBounds.{is_same}
use Rattle.block_text.proofs.Results.{by_test, option_map_some}

-- the form of a token that is spelled so
abbrev FormBy : List ℕ → List ℕ → Bool → Bool → Type 0
FormBy token name true true = ⊤
FormBy token name true false = is_bracketed name token ≡ true
FormBy token name false true = (is_adjoint name token ≡ true) × (is name token ≡ false)
FormBy token name false false = is name token ≡ true

abbrev HasForm : List ℕ → Spelled → Type 0
HasForm token s = FormBy token s.name s.identity s.adjoint

named_read : (P : Spelled → Type 0) (identity adjoint : Bool) (text : List ℕ) (s : Spelled) → named_by identity adjoint text ≡ Some s
    → P (record { name = text; identity = identity; adjoint = adjoint }) → P s
named_read P identity adjoint text s read holds =
    option_map_some (λ name. record { name = name; identity = identity; adjoint = adjoint }) (name_in text) s read (λ name found same.
    let known = cond_some (is_name text) text name found in
    subst P same (subst (λ (n : List ℕ). P (record { name = n; identity = identity; adjoint = adjoint })) known.1 holds))

-- a token isn't its own part before the '
no_front : (token : List ℕ) → ends_with nat_eq token (codes "'") ≡ true → is (take (length token - 1) token) token ≡ false
no_front [] ends = absurd (cc)
no_front (x ∷ xs) ends =
    let front = take (length (x ∷ xs) - 1) (x ∷ xs) in
    false_from_ne_true (is front (x ∷ xs)) (λ same.
    let count : length front ≡ length (x ∷ xs) - 1 = length-take-le (length (x ∷ xs) - 1) (x ∷ xs) (omega arith) in
    omega (arith, count, ap length (is_word front (x ∷ xs) same)))

has_form : (token : List ℕ) (s : Spelled) → spelled_by token ≡ Some s → HasForm token s
has_form token s read =
    let front = take (length token - 1) token in
    by_test (ends_with nat_eq token (codes "'")) _ _ (Some s) read
    (λ ends inside. by_test (starts_with nat_eq front (codes "[") && ends_with nat_eq front (codes "]")) _ _ (Some s) inside
    (λ marks named. named_read (HasForm token) true true (take (length front - 2) (drop 1 front)) s named tt)
    (λ marks named. named_read (HasForm token) false true front s named (rw (ends, is_same front) refl, no_front token ends)))
    (λ ends inside. by_test (starts_with nat_eq token (codes "[") && ends_with nat_eq token (codes "]")) _ _ (Some s) inside
    (λ marks named. let inner = take (length token - 2) (drop 1 token) in named_read (HasForm token) true false inner s named (rw (marks, is_same inner) refl))
    (λ marks named. named_read (HasForm token) false false token s named (is_same token)))

-- the letter
module _ (ds : List Declaration) (token : List ℕ) where
  -- the letter, if it is written as the token
  abbrev kept : ℕ → Option ℕ
  kept a = cond (is_written_as ds a token) (Some a) None

  -- it is written so by its name
  kept_by : (name : List ℕ) (named : Named) (a : ℕ) (b : Bool) → letter_name ds a ≡ name → named_in ds name ≡ Some named → is_spelling name a (Some named) token ≡ b → kept a ≡ cond b (Some a) None
  kept_by name named a b its_name found test = rw (its_name, found, test) refl

  star_kept : (name : List ℕ) (b : ℕ) (own : Bool) → nat_eq (star (quiver_of ds) b) b ≡ own → is_adjoint name token ≡ true → is name token ≡ false
      → cond (nat_eq (star (quiver_of ds) b) b) (is name token) (is_adjoint name token) ≡ not own
  star_kept name b true own adjoint other = rw (own, other) refl
  star_kept name b false own adjoint other = rw (own, adjoint) refl

  turned : (a b : ℕ) (own : Bool) → nat_eq a b ≡ own → cond (not own) (Some a) None ≡ cond (nat_eq a b) None (Some a)
  turned a b true own = rw own refl
  turned a b false own = rw own refl

  by_named : (name : List ℕ) (identity adjoint : Bool) (found : Option Named) → named_in ds name ≡ found → FormBy token name identity adjoint
      → cond (not (identity && adjoint)) (option_and_then kept (option_map (starred ds adjoint) (option_and_then (letter_named ds identity) found))) None
      ≡ cond (identity && adjoint) None (option_and_then (marked ds adjoint) (option_and_then (letter_named ds identity) found))
  by_named name true true found at form = refl
  by_named name true false None at form = refl
  by_named name false adjoint None at form = refl
  by_named name true false (Some (Map b)) at form = refl
  by_named name false adjoint (Some (Object v)) at form = refl
  by_named name true false (Some (Object v)) at form =
      let there = is_named ds name (Object v) at in
      kept_by name (Object v) (identity_in ds v.0) true (identity_name ds v.0 there.0 ∙ there.1) at form
  by_named name false false (Some (Map b)) at form =
      let there = is_named ds name (Map b) at in
      let own : nat_eq b.0 b.0 ≡ true = eq-eqb b.0 b.0 refl in
      kept_by name (Map b) b.0 true there.1 at (rw own form)
  by_named name false true (Some (Map b)) at form =
      let there = is_named ds name (Map b) at in
      let own = nat_eq (star (quiver_of ds) b.0) b.0 in
      kept_by name (Map b) (star (quiver_of ds) b.0) (not own) (star_name ds b.0 there.0 ∙ there.1) at (star_kept name b.0 own refl form.0 form.1)
      ∙ turned (star (quiver_of ds) b.0) b.0 own refl

  by_spelled : (o : Option Spelled) → spelled_by token ≡ o
      → cond (is_plain o) (option_and_then kept (option_and_then (λ s. option_map (starred ds s.adjoint) (option_and_then (letter_named ds s.identity) (named_in ds s.name))) o)) None
      ≡ option_and_then (written_by ds) o
  by_spelled None read = refl
  by_spelled (Some s) read = by_named s.name s.identity s.adjoint (named_in ds s.name) refl (has_form token s read)

  pub written_by_spelling : written_letter ds token ≡ option_and_then (written_by ds) (spelled_by token)
  written_by_spelling = by_spelled (spelled_by token) refl
