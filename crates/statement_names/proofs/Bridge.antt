-- The search by the room that is left finds the fault that is defined by the occurrences before.
use Rattle.statement_names.proofs.Prelude.{◌≡◌, ℕ, ◌+◌, ◌-◌, ◌≤◌, Bool, if◌then◌else◌, is_some, List, [], ◌∷◌, ◌++◌, length, take, Option, Some, None, refl, ap, ap₂, sym, subst, ◌∙◌, arith, append_assoc, result_err, sum_by, option_or, nat_tests, append-nil, length-append, fold-append, sum_by-cons, sum_by_push, object_limit, Statement, Placed, Kind, Object, Map, Survey, assumption_limit, claim_limit, shape_limit, map_limit_of, occurrences_of, Occurrence, declares_object, declares_map, begins_order, begins_assumptions, begins_claim, begins_shape, declared_by, Counted, Objects, Maps, Orders, Assumptions, Claims, Shapes, limit_of, amount, declared_in, kind_in, short_of, fault_of, known_behind, first_fault, name_fault_of, with_kind, with_kinds, declared_count, declared_before, room_of, fault_at, behind, goes_on, run}
use Rattle.statement_names.proofs.KindsFound.{kind_in-with_kinds, take-with_kinds}
use Rattle.statement_names.proofs.Clean.{head_clean, tail_clean, declared_push, new_name, or_else_none}

-- there is room where no fault is
enough : (room more : ℕ) (fault : Placed) → short_of room more fault ≡ None → room - more + more ≡ room
enough room more fault good = grind (arith, nat_tests)

enough_behind : (there : Bool) (room : ℕ) (first fault : Placed) → (if there then Some first else short_of room 1 fault) ≡ None → room - 1 + 1 ≡ room
enough_behind there room first fault good = grind (arith, nat_tests)

taken : (s : Survey) (c : Counted) (o : Occurrence) → fault_at s o ≡ None → room_of (behind s o) c + amount c o ≡ room_of s c
taken s Objects (declares_object n) good = enough_behind (is_some (kind_in (declared_before s) n.text)) s.objects _ _ good
taken s Maps (declares_map n u v selfmade) good = enough_behind (is_some (kind_in (declared_before s) n.text)) s.maps _ _ (or_else_none _ _ _ good)
taken s Orders (begins_order at) good = enough s.orders 1 _ good
taken s Assumptions (begins_assumptions count at) good = enough s.assumptions count _ good
taken s Claims (begins_claim at) good = enough s.claims 1 _ good
taken s Shapes (begins_shape at) good = enough s.shapes 1 _ good
taken s c o good = omega arith

-- how many names are declared
number_by : (o : Occurrence) → length (declared_by o) ≡ amount Objects o + amount Maps o
number_by (declares_object n) = refl
number_by o = refl

number_declared : (os : List Occurrence) → length (declared_in os) ≡ sum_by (amount Objects) os + sum_by (amount Maps) os
number_declared [] = refl
number_declared (o ∷ os) =
    omega (
      arith,
      length-append (declared_by o) (declared_in os),
      number_by o,
      number_declared os,
      sum_by-cons (amount Objects) o os,
      sum_by-cons (amount Maps) o os,
    )

-- a survey of the occurrences before, and those that are left
pub record Agrees (most_maps : ℕ) (kind : List ℕ → Option Kind) (before after : List Occurrence) (s : Survey) : Type 0 where
  pub kinds : (name : List ℕ) → kind_in s.kinds name ≡ kind name
  pub declared : s.kinds ≡ with_kinds (declared_in before) (declared_in after)
  pub map_limit : s.map_limit ≡ most_maps
  pub room : (c : Counted) → room_of s c + sum_by (amount c) before ≡ limit_of most_maps c

module _ (most_maps : ℕ) (kind : List ℕ → Option Kind) (before after : List Occurrence) (s : Survey) (agrees : Agrees most_maps kind before after s) where
  declared_same : declared_before s ≡ declared_in before
  declared_same =
      let counted : declared_count s ≡ length (declared_in before) =
      omega (arith, agrees.room Objects, agrees.room Maps, agrees.map_limit, number_declared before) in
      ap₂ take counted agrees.declared ∙ take-with_kinds (declared_in before) (declared_in after)

  fault_same : (o : Occurrence) → fault_at s o ≡ fault_of (known_behind most_maps kind before) o
  fault_same o =
      let room : (c : Counted) → room_of s c ≡ limit_of most_maps c - sum_by (amount c) before = λ c. omega (arith, agrees.room c) in
      λ j. fault_of (record { most_maps = agrees.map_limit j; kind = λ name. agrees.kinds name j; declared = declared_same j; room = λ c. room c j }) o

  -- what the occurrence declares is new, so it follows what is declared before it
  declared_next : (o : Occurrence) (os : List Occurrence) → after ≡ o ∷ os → with_kinds (declared_in before) (declared_by o) ≡ declared_in before ++ declared_by o
      → s.kinds ≡ with_kinds (declared_in (before ++ o ∷ [])) (declared_in os)
  declared_next o os next new =
      agrees.declared ∙ ap (λ os. with_kinds (declared_in before) (declared_in os)) next
      ∙ fold-append (λ ks d. with_kind ks d.0 d.1) (declared_in before) (declared_by o) (declared_in os)
      ∙ ap (λ ks. with_kinds ks (declared_in os)) (new ∙ declared_push before o)

  declared_new : (name : List ℕ) (k : Kind) → kind_in (declared_before s) name ≡ None
      → with_kinds (declared_in before) ((name, k) ∷ []) ≡ declared_in before ++ (name, k) ∷ []
  declared_new name k new =
      ap (λ found. if is_some found then declared_in before else declared_in before ++ (name, k) ∷ []) (ap (λ ds. kind_in ds name) (sym declared_same) ∙ new)

  declared_behind : (o : Occurrence) (os : List Occurrence) → after ≡ o ∷ os → fault_at s o ≡ None
      → s.kinds ≡ with_kinds (declared_in (before ++ o ∷ [])) (declared_in os)
  declared_behind (declares_object n) os next good = declared_next (declares_object n) os next (declared_new n.text Object (new_name _ _ _ good))
  declared_behind (declares_map n u v selfmade) os next good =
      declared_next (declares_map n u v selfmade) os next (declared_new n.text Map (new_name _ _ _ (or_else_none _ _ _ good)))
  declared_behind o os next good = declared_next o os next (sym (append-nil (declared_in before)))

  same_behind : (o : Occurrence) → ((behind s o).kinds ≡ s.kinds) × ((behind s o).map_limit ≡ s.map_limit)
  same_behind (declares_object n) = (refl, refl)
  same_behind o = (refl, refl)

  -- one occurrence further
  behind_agrees : (o : Occurrence) (os : List Occurrence) → after ≡ o ∷ os → fault_at s o ≡ None
      → Agrees most_maps kind (before ++ o ∷ []) os (behind s o)
  behind_agrees o os next good = record {
    kinds = λ name. ap (λ kinds. kind_in kinds name) (same_behind o).0 ∙ agrees.kinds name;
    declared = (same_behind o).0 ∙ declared_behind o os next good;
    map_limit = (same_behind o).1 ∙ agrees.map_limit;
    room = λ c. omega (arith, agrees.room c, sum_by_push (amount c) before o, taken s c o good);
  }

-- the first fault is the one that the search finds
pub first_same : (most_maps : ℕ) (kind : List ℕ → Option Kind) (before : List Occurrence) (s : Survey) (os : List Occurrence) → Agrees most_maps kind before os s
    → first_fault most_maps kind before os ≡ result_err (run s os)
first_same most_maps kind before s [] agrees = refl
first_same most_maps kind before s (o ∷ os) agrees =
    ap (λ found. option_or found (first_fault most_maps kind (before ++ o ∷ []) os)) (sym (fault_same most_maps kind before (o ∷ os) s agrees o))
    ∙ go (fault_at s o) refl (λ good. first_same most_maps kind (before ++ o ∷ []) (behind s o) os (behind_agrees most_maps kind before (o ∷ os) s agrees o os refl good))
  where
    go : (found : Option Placed) → fault_at s o ≡ found → (fault_at s o ≡ None → first_fault most_maps kind (before ++ o ∷ []) os ≡ result_err (run (behind s o) os))
        → option_or found (first_fault most_maps kind (before ++ o ∷ []) os) ≡ result_err (goes_on found (run (behind s o) os))
    go (Some fault) is rest = refl
    go None is rest = rest is

-- the survey before the first statement
abbrev pub begun : ℕ → List (List ℕ × Kind) → Survey
begun most_maps kinds = record {
  kinds = kinds;
  map_limit = most_maps;
  objects = object_limit;
  maps = most_maps;
  orders = 1;
  assumptions = assumption_limit;
  claims = claim_limit;
  shapes = shape_limit;
}

pub begun_agrees : (limit most_maps : ℕ) (os : List Occurrence) (kinds : List (List ℕ × Kind)) → limit ≡ most_maps → kinds ≡ with_kinds [] (declared_in os)
    → Agrees most_maps (kind_in (declared_in os)) [] os (begun limit kinds)
begun_agrees limit most_maps os kinds limit_is kinds_are = record {
  kinds = λ name. ap (λ ks. kind_in ks name) kinds_are ∙ kind_in-with_kinds [] (declared_in os) name;
  declared = kinds_are;
  map_limit = limit_is;
  room = begun_room;
}
  where
    begun_room : (c : Counted) → room_of (begun limit kinds) c + 0 ≡ limit_of most_maps c
    begun_room Maps = omega (arith, limit_is)
    begun_room c = refl

-- the survey after occurrences none of which has a fault
agrees_behind : (most_maps : ℕ) (kind : List ℕ → Option Kind) (before : List Occurrence) (s : Survey) (os : List Occurrence) → Agrees most_maps kind before os s
    → first_fault most_maps kind before os ≡ None → (e : Survey) × Agrees most_maps kind (before ++ os) [] e
agrees_behind most_maps kind before s [] agrees clean = (s, subst (λ os. Agrees most_maps kind os [] s) (sym (append-nil before)) agrees)
agrees_behind most_maps kind before s (o ∷ os) agrees clean =
    let good = fault_same most_maps kind before (o ∷ os) s agrees o ∙ head_clean most_maps kind before o os clean in
    let next = behind_agrees most_maps kind before (o ∷ os) s agrees o os refl good in
    subst (λ all. (e : Survey) × Agrees most_maps kind all [] e) (append_assoc before (o ∷ []) os)
    (agrees_behind most_maps kind (before ++ o ∷ []) (behind s o) os next (tail_clean most_maps kind before o os clean))

-- a file in whose names nothing is wrong keeps to the limits
pub within_limits : (statements : List Statement) → name_fault_of statements ≡ None → (c : Counted)
    → sum_by (amount c) (occurrences_of statements) ≤ limit_of (map_limit_of statements) c
within_limits statements clean c =
    let most_maps = map_limit_of statements in
    let os = occurrences_of statements in
    let kinds = with_kinds [] (declared_in os) in
    let last = agrees_behind most_maps (kind_in (declared_in os)) [] (begun most_maps kinds) os (begun_agrees most_maps most_maps os kinds refl refl) clean in
    omega (arith, last.1.room c)
