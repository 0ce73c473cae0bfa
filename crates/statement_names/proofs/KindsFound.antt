-- What is found for a name in lists of declarations.
use Rattle.statement_names.proofs.Prelude.{◌≡◌, ℕ, length, take, Bool, true, false, is_some, List, [], ◌∷◌, ◌++◌, Option, None, refl, ap, sym, ◌∙◌, append_assoc, arith, if◌then◌else◌, append-nil, take-append_seam, lookup, option_or, bytes_eq, bytes_eq-Decides, Kind, kind_in, is_among, names_in, with_kind, with_kinds}

pub same_bytes : (xs ys : List ℕ) → bytes_eq xs ys ≡ true → xs ≡ ys
same_bytes xs ys e = (bytes_eq-Decides xs ys).0 e

pub option_or-nothing : {A : Type 0} (found : Option A) → option_or found None ≡ found
option_or-nothing found = grind arith

pub lookup-append : {A B : Type 0} (test : A → Bool) (xs ys : List (A × B)) → lookup test (xs ++ ys) ≡ option_or (lookup test xs) (lookup test ys)
lookup-append test [] ys = refl
lookup-append test (x ∷ xs) ys = grind (arith, lookup-append test xs ys)

pub kind_in-append : (xs ys : List (List ℕ × Kind)) (name : List ℕ) → kind_in (xs ++ ys) name ≡ option_or (kind_in xs name) (kind_in ys name)
kind_in-append xs ys name = lookup-append (bytes_eq name) xs ys

-- a name is among those that are declared where a kind is found for it
pub among_names_in : (declared : List (List ℕ × Kind)) (name : List ℕ) → is_among (names_in declared) name ≡ is_some (kind_in declared name)
among_names_in [] name = refl
among_names_in (d ∷ declared) name = grind (arith, among_names_in declared name)

-- a second declaration of a name changes nothing
pub kind_in-with_kind : (declared : List (List ℕ × Kind)) (name : List ℕ) (kind : Kind) (q : List ℕ)
    → kind_in (with_kind declared name kind) q ≡ kind_in (declared ++ (name, kind) ∷ []) q
kind_in-with_kind declared name kind q = grind (arith, kind_in-append declared ((name, kind) ∷ []) q, same_bytes q name)

-- further declarations find the same where those before them do
same-append : (xs ys zs : List (List ℕ × Kind)) (q : List ℕ) → kind_in xs q ≡ kind_in ys q → kind_in (xs ++ zs) q ≡ kind_in (ys ++ zs) q
same-append xs ys zs q same = kind_in-append xs zs q ∙ ap (λ found. option_or found (kind_in zs q)) same ∙ sym (kind_in-append ys zs q)

-- what is left out where a name is declared again is never found
pub kind_in-with_kinds : (front more : List (List ℕ × Kind)) (q : List ℕ) → kind_in (with_kinds front more) q ≡ kind_in (front ++ more) q
kind_in-with_kinds front [] q = ap (λ ks. kind_in ks q) (sym (append-nil front))
kind_in-with_kinds front (d ∷ more) q =
    kind_in-with_kinds (with_kind front d.0 d.1) more q
    ∙ same-append (with_kind front d.0 d.1) (front ++ d ∷ []) more q (kind_in-with_kind front d.0 d.1 q)
    ∙ ap (λ ks. kind_in ks q) (append_assoc front (d ∷ []) more)

-- new declarations follow those before them
grown : (front more : List (List ℕ × Kind)) → (new : List (List ℕ × Kind)) × (with_kinds front more ≡ front ++ new)
grown front [] = ([], sym (append-nil front))
grown front (d ∷ more) = go (is_some (kind_in front d.0)) (grown front more) (grown (front ++ d ∷ []) more)
  where
    go : (there : Bool) → (new : List (List ℕ × Kind)) × (with_kinds front more ≡ front ++ new) → (new : List (List ℕ × Kind)) × (with_kinds (front ++ d ∷ []) more ≡ (front ++ d ∷ []) ++ new)
        → (new : List (List ℕ × Kind)) × (with_kinds (if there then front else front ++ d ∷ []) more ≡ front ++ new)
    go true same further = same
    go false same further = (d ∷ further.0, further.1 ∙ append_assoc front (d ∷ []) further.0)

pub take-with_kinds : (front more : List (List ℕ × Kind)) → take (length front) (with_kinds front more) ≡ front
take-with_kinds front more = let new = grown front more in ap (take (length front)) new.1 ∙ take-append_seam front new.0
