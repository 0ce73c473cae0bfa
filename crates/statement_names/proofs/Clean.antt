-- What holds of occurrences none of which has a fault.
use Rattle.statement_names.proofs.Prelude.{◌≡◌, ℕ, Bool, true, false, ◌&&◌, is_some, List, [], ◌∷◌, ◌++◌, Option, Some, None, ap, sym, subst, ◌∙◌, arith, append_assoc, if◌then◌else◌, flat_map-append, append-nil, is_field_modulus, Statement, Placed, Kind, Object, Map, Occurrence, declares_object, declares_map, uses, lists, counts, modulus, declared_by, declared_in, is_kind, are_two_objects, is_among, is_between, value_of, or_else, fault_of, known_behind, first_fault, kind_within}
use Rattle.statement_names.proofs.Apart.{Apart, Apart-push, both_none}
use Rattle.statement_names.proofs.Each.{Each}

-- tests that let an occurrence through
passed : (b : Bool) (fault : Placed) → (if b then None else Some fault) ≡ None → b ≡ true
passed b fault e = grind arith

pub or_else_none : (found : Option Placed) (wrong : Bool) (later : Placed) → or_else found wrong later ≡ None → found ≡ None
or_else_none found wrong later e = grind arith

not_wrong : (found : Option Placed) (wrong : Bool) (later : Placed) → or_else found wrong later ≡ None → wrong ≡ false
not_wrong found wrong later e = grind arith

pub new_name : (found : Option Kind) (fault : Placed) (rest : Option Placed) → (if is_some found then Some fault else rest) ≡ None → found ≡ None
new_name found fault rest e = grind arith

pub absent_from : (found : Option Kind) → is_some found ≡ false → found ≡ None
absent_from found e = grind arith

-- what holds of each occurrence, whatever is before it
abbrev pub IsGood : (List ℕ → Option Kind) → Occurrence → Type 0
IsGood kind (declares_map n u v selfmade) = (selfmade && are_two_objects kind u v) ≡ false
IsGood kind (uses u) = is_kind (kind u.name.text) u.kind ≡ true
IsGood kind (lists front u) = (is_kind (kind u.name.text) u.kind ≡ true) × (is_among front u.name.text ≡ false)
IsGood kind (counts most n) = is_between 1 most (value_of n.value) ≡ true
IsGood kind (modulus n) = is_field_modulus (value_of n.value) ≡ true
IsGood kind o = Unit {0}

-- so do all of a list, in a file
abbrev pub AreGood : List Statement → List Occurrence → Type 0
AreGood statements os = Each (IsGood (kind_within statements)) os

pub declared_push : (before : List Occurrence) (o : Occurrence) → declared_in before ++ declared_by o ≡ declared_in (before ++ o ∷ [])
declared_push before o = sym (flat_map-append declared_by before (o ∷ []) ∙ ap (λ ds. declared_in before ++ ds) (append-nil (declared_by o)))

module _ (most_maps : ℕ) (kind : List ℕ → Option Kind) where
  pub head_clean : (before : List Occurrence) (o : Occurrence) (os : List Occurrence) → first_fault most_maps kind before (o ∷ os) ≡ None
      → fault_of (known_behind most_maps kind before) o ≡ None
  head_clean before o os clean = (both_none (fault_of (known_behind most_maps kind before) o) (first_fault most_maps kind (before ++ o ∷ []) os) clean).0

  pub tail_clean : (before : List Occurrence) (o : Occurrence) (os : List Occurrence) → first_fault most_maps kind before (o ∷ os) ≡ None → first_fault most_maps kind (before ++ o ∷ []) os ≡ None
  tail_clean before o os clean = (both_none (fault_of (known_behind most_maps kind before) o) (first_fault most_maps kind (before ++ o ∷ []) os) clean).1

  good : (before : List Occurrence) (o : Occurrence) → fault_of (known_behind most_maps kind before) o ≡ None → IsGood kind o
  good before (declares_map n u v selfmade) clean = not_wrong _ _ _ clean
  good before (uses u) clean = passed _ _ clean
  good before (lists front u) clean = (passed _ _ (or_else_none _ _ _ clean), not_wrong _ _ _ clean)
  good before (counts most n) clean = passed _ _ clean
  good before (modulus n) clean = passed _ _ clean
  good before o clean = tt

  pub each_good : (before os : List Occurrence) → first_fault most_maps kind before os ≡ None → Each (IsGood kind) os
  each_good before [] clean = tt
  each_good before (o ∷ os) clean = (good before o (head_clean before o os clean), each_good (before ++ o ∷ []) os (tail_clean before o os clean))

  -- different names
  apart_next : (before : List Occurrence) (o : Occurrence) → fault_of (known_behind most_maps kind before) o ≡ None → Apart (declared_in before)
      → Apart (declared_in before ++ declared_by o)
  apart_next before (declares_object n) clean apart =
      Apart-push (declared_in before) (n.text, Object) apart (new_name _ _ _ clean)
  apart_next before (declares_map n u v selfmade) clean apart =
      Apart-push (declared_in before) (n.text, Map) apart (new_name _ _ _ (or_else_none _ _ _ clean))
  apart_next before o clean apart = subst Apart (sym (append-nil (declared_in before))) apart

  pub apart_declared : (before os : List Occurrence) → Apart (declared_in before) → first_fault most_maps kind before os ≡ None → Apart (declared_in (before ++ os))
  apart_declared before [] apart clean = subst (λ xs. Apart (declared_in xs)) (sym (append-nil before)) apart
  apart_declared before (o ∷ os) apart clean =
      subst (λ xs. Apart (declared_in xs)) (append_assoc before (o ∷ []) os)
      (apart_declared (before ++ o ∷ []) os
      (subst Apart (declared_push before o) (apart_next before o (head_clean before o os clean) apart))
      (tail_clean before o os clean))
