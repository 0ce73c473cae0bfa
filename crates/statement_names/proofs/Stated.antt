-- What the names and literals of a statement are, in a file in whose names nothing is wrong.
use Rattle.statement_names.proofs.Prelude.{◌≡◌, ℕ, ◌<◌, ◌≤◌, true, nat_eq, nat_le, IsTrue, List, [], ◌∷◌, ◌++◌, map, length, get_or, Option, None, All, refl, sym, subst, arith, append_assoc, IsDistinct, bytes_eq, and_parts, leb-true, Decides-eqb, Any-from_list_any, AllPass-from_list_all, append-nil, IsDistinct-push, map-map, field_moduli, is_field_modulus, Declaration, named_in, is_map, is_object, Spot, Name, Number, Statement, StatementKind, statement, Kind, Object, Map, shape_side_limit, weight_limit, is_kind, value_of, kind_within, name_fault_of, names_behind, pairs_behind, kind_occurrences, statement_occurrences, declarations_of}
use Rattle.statement_names.proofs.Apart.{Apart-none, bytes_equivalence}
use Rattle.statement_names.proofs.Clean.{IsGood, AreGood}
use Rattle.statement_names.proofs.Each.{Each, Each-at, Each-unmap, Each-weaker, Each-item}
use Rattle.statement_names.proofs.FileDeclared.{statements_good}
use Rattle.statement_names.proofs.NamedKinds.{map_named, object_named}

-- numbers
abbrev pub IsBetween : ℕ → ℕ → Type 0
IsBetween most n = (1 ≤ n) × (n ≤ most)

pub modulus_small : (n : ℕ) → is_field_modulus n ≡ true → n ≤ 65537
modulus_small n is =
    let found = Any-from_list_any (nat_eq n) field_moduli is in
    let same : n ≡ found.1 = (Decides-eqb n found.1).0 found.4 in
    let small = AllPass-from_list_all (λ m. nat_le m 65537) field_moduli refl found.0 found.1 found.2 in
    omega (arith, same, leb-true (get_or field_moduli found.0 found.1) 65537 small, found.3)

-- each name once
abbrev pub Once : List Name → Type 0
Once names = IsDistinct bytes_eq (map (λ n. n.text) names)

-- the names of a list with literals
abbrev pub named_by : List (Name × Number) → List Name
named_by pairs = map (λ p. p.0) pairs

-- the literals from 1 to so much
abbrev pub AreBetween : ℕ → List (Name × Number) → Type 0
AreBetween most pairs = Each (λ p. IsBetween most (value_of p.1.value)) pairs

-- a list of names: each stands for what it has to, and none is listed twice
pub record AreListed (IsOne : List ℕ → Type 0) (names : List Name) : Type 0 where
  pub named : Each (λ n. IsOne n.text) names
  pub once : Once names

-- the same of pairs, place by place
pub pairs_named : (IsOne : List ℕ → Type 0) (pairs : List (Name × Number)) → AreListed IsOne (named_by pairs) → All (λ p. IsOne p.0.text) pairs
pairs_named IsOne pairs listed = Each-at (λ p. IsOne p.0.text) pairs (Each-unmap (λ n. IsOne n.text) (λ p. p.0) pairs listed.named)

pub pairs_small : (most : ℕ) (pairs : List (Name × Number)) → AreBetween most pairs → All (λ p. value_of p.1.value ≤ most) pairs
pairs_small most pairs between = λ i d below. (Each-at (λ p. IsBetween most (value_of p.1.value)) pairs between i d below).1

pub pairs_once : (pairs : List (Name × Number)) → Once (named_by pairs) → IsDistinct bytes_eq (map (λ p. p.0.text) pairs)
pairs_once pairs once = subst (IsDistinct bytes_eq) (map-map (λ n. n.text) (λ p. p.0) pairs) once

-- what is known of the names of a list and of their literals
module _ (kind : List ℕ → Option Kind) (k : Kind) (IsOne : List ℕ → Type 0) (stands : (q : List ℕ) → is_kind (kind q) k ≡ true → IsOne q) where
  names_stand : (front : List (List ℕ)) (names : List Name) → Each (IsGood kind) (names_behind k front names) → Each (λ n. IsOne n.text) names
  names_stand front [] good = tt
  names_stand front (n ∷ names) good = (stands n.text good.0.0, names_stand (front ++ n.text ∷ []) names good.1)

  distinct_behind : (front : List (List ℕ)) (names : List Name) → IsDistinct bytes_eq front → Each (IsGood kind) (names_behind k front names)
      → IsDistinct bytes_eq (front ++ map (λ n. n.text) names)
  distinct_behind front [] once good = subst (IsDistinct bytes_eq) (sym (append-nil front)) once
  distinct_behind front (n ∷ names) once good =
      subst (IsDistinct bytes_eq) (append_assoc front (n.text ∷ []) (map (λ m. m.text) names))
      (distinct_behind (front ++ n.text ∷ []) names (IsDistinct-push bytes_equivalence front n.text once good.0.1) good.1)

  names_listed : (names : List Name) → Each (IsGood kind) (names_behind k [] names) → AreListed IsOne names
  names_listed names good = record { named = names_stand [] names good; once = distinct_behind [] names Apart-none good }

  module _ (most : ℕ) where
    literals_between : (front : List (List ℕ)) (pairs : List (Name × Number)) → Each (IsGood kind) (pairs_behind k most front pairs) → AreBetween most pairs
    literals_between front [] good = tt
    literals_between front (p ∷ pairs) good =
        let parts = and_parts (nat_le 1 (value_of p.1.value)) (nat_le (value_of p.1.value) most) good.1.0 in
        ((leb-true 1 (value_of p.1.value) parts.0, leb-true (value_of p.1.value) most parts.1), literals_between (front ++ p.0.text ∷ []) pairs good.1.1)

    names_good : (front : List (List ℕ)) (pairs : List (Name × Number)) → Each (IsGood kind) (pairs_behind k most front pairs)
        → Each (IsGood kind) (names_behind k front (named_by pairs))
    names_good front [] good = tt
    names_good front (p ∷ pairs) good = (good.0, names_good (front ++ p.0.text ∷ []) pairs good.1.1)

    pairs_listed : (pairs : List (Name × Number)) → Each (IsGood kind) (pairs_behind k most [] pairs) → AreListed IsOne (named_by pairs) × AreBetween most pairs
    pairs_listed pairs good = (names_listed (named_by pairs) (names_good [] pairs good), literals_between [] pairs good)

-- what holds of the lists of a statement where these are declared
abbrev pub IsMapIn : List Declaration → List ℕ → Type 0
IsMapIn ds q = IsTrue (is_map (named_in ds q))

abbrev pub IsObjectIn : List Declaration → List ℕ → Type 0
IsObjectIn ds q = IsTrue (is_object (named_in ds q))

abbrev pub IsStated : List Declaration → StatementKind → Type 0
IsStated ds (statement.Weight pairs) = AreListed (IsMapIn ds) (named_by pairs) × AreBetween weight_limit pairs
IsStated ds (statement.Eliminate names) = AreListed (IsMapIn ds) names
IsStated ds (statement.Shape m sides) =
    (is_field_modulus (value_of m.value) ≡ true) × (AreListed (IsObjectIn ds) (named_by sides) × AreBetween shape_side_limit sides)
IsStated ds k = Unit {0}

-- in a file in whose names nothing is wrong
module _ (statements : List Statement) (clean : name_fault_of statements ≡ None) where
  is_stated : (at : Spot) (k : StatementKind) → AreGood statements (kind_occurrences at k) → IsStated (declarations_of statements) k
  is_stated at (statement.Weight pairs) good =
      pairs_listed (kind_within statements) Map (IsMapIn (declarations_of statements)) (map_named statements clean) weight_limit pairs good.1
  is_stated at (statement.Eliminate names) good =
      names_listed (kind_within statements) Map (IsMapIn (declarations_of statements)) (map_named statements clean) names good.1
  is_stated at (statement.Shape m sides) good = (
    good.1.0,
    pairs_listed (kind_within statements) Object (IsObjectIn (declarations_of statements))
        (object_named statements clean) shape_side_limit sides good.1.1,
  )
  is_stated at k good = tt

  pub all_stated : Each (λ s. IsStated (declarations_of statements) s.kind) statements
  all_stated =
      Each-weaker (λ s. AreGood statements (statement_occurrences s)) (λ s. IsStated (declarations_of statements) s.kind) statements
      (λ s good. is_stated s.at s.kind good) (statements_good statements clean)

  pub stated_at : (ds : List Declaration) → ds ≡ declarations_of statements → (i : ℕ) (s : Statement) → i < length statements → s ≡ get_or statements i s
      → (k : StatementKind) → s.kind ≡ k → IsStated ds k
  stated_at ds declared i s below at k is =
      subst (IsStated ds) is (subst (λ es. IsStated es s.kind) (sym declared)
      (Each-item (λ t. IsStated (declarations_of statements) t.kind) statements all_stated i s below at))
