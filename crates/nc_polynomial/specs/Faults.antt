-- The result of a call: the first overflow, else the first limit that is exceeded, else the polynomial.
use Rattle.std.specs.Prelude.{◌≡◌, Bool, true, false, List, length, Option, Some, None, Result, Ok, Err, nat_lt, if◌then◌else◌}
use Rattle.std.specs.List.{list_any}
use Rattle.coef_int.specs.declared.Overflow.{Overflow}
use Rattle.coef_int.specs.Operations.{first_overflow}
use Rattle.definitions.specs.Poly.{Term}
use Rattle.nc_polynomial.specs.declared.fault.PolyFault.{PolyFault}
use Rattle.nc_polynomial.specs.declared.fault.PolyFault.TheVariants as fault
use Rattle.nc_polynomial.specs.Limits.{word_limit, term_limit}

-- a result, unless an operation overflowed
abbrev pub unless_overflow : {A : Type 0} → Option Overflow → Result A PolyFault → Result A PolyFault
unless_overflow None r = r
unless_overflow (Some o) r = Err (fault.Overflow o)

-- a value, unless one of the operations overflows
abbrev pub checked : {A : Type 0} → List Overflow → A → Result A PolyFault
checked os x = unless_overflow (first_overflow os) (Ok x)

-- a word has too many letters, or else there are too many terms
abbrev pub size_fault : Bool → PolyFault
size_fault letters = fault.Size (record { letters = letters })

-- whether a word has more than 500 letters
abbrev pub has_long_word : List Term → Bool
has_long_word p = list_any (λ t. nat_lt word_limit (length t.1)) p

-- a polynomial, unless a word is too long or there are more than 20,000 terms
abbrev pub sized : List Term → Result (List Term) PolyFault
sized p = if has_long_word p then Err (size_fault true)
    else (if nat_lt term_limit (length p) then Err (size_fault false) else Ok p)

-- a polynomial, unless one of the operations overflows or it is too large
abbrev pub finished : List Overflow → List Term → Result (List Term) PolyFault
finished os p = unless_overflow (first_overflow os) (sized p)

-- a fault is that of the exact result, but want of memory may come at any time
abbrev pub Explains : {A : Type 0} → Result A PolyFault → PolyFault → Type 0
Explains r (fault.Overflow o) = r ≡ Err (fault.Overflow o)
Explains r (fault.Size s) = r ≡ Err (fault.Size s)
Explains r (fault.Memory e) = Unit {0}

-- want of memory
abbrev pub IsMemory : PolyFault → Type 0
IsMemory (fault.Overflow o) = ⊥
IsMemory (fault.Size s) = ⊥
IsMemory (fault.Memory e) = Unit {0}
