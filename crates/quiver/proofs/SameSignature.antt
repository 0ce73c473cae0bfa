-- A signature that is found is the given one where both its objects are.
use Rattle.quiver.proofs.Prelude.{◌≡◌, ℕ, Bool, true, ◌&&◌, nat_eq, Option, Some, None, option_map, ap, ap₂, eqb-true, eq-eqb, option_eq, and_parts, and_from, Sig, ends_of}

abbrev pub sig_eq : Sig → Sig → Bool
sig_eq s t = nat_eq s.source.0 t.source.0 && nat_eq s.target.0 t.target.0

some_is : (x y : ℕ × ℕ) → ◌≡◌ {A = Option (ℕ × ℕ)} (Some x) (Some y) → x ≡ y
some_is x y e = cc

pub ends_from_equal : (found : Option Sig) (s : Sig) → option_eq sig_eq found (Some s) ≡ true → option_map ends_of found ≡ Some (ends_of s)
ends_from_equal None s e = absurd (cc)
ends_from_equal (Some t) s e =
    let both = and_parts (nat_eq t.source.0 s.source.0) (nat_eq t.target.0 s.target.0) e in
    ap₂ (λ u v. Some (u, v)) (eqb-true t.source.0 s.source.0 both.0) (eqb-true t.target.0 s.target.0 both.1)

pub equal_from_ends : (found : Option Sig) (s : Sig) → option_map ends_of found ≡ Some (ends_of s) → option_eq sig_eq found (Some s) ≡ true
equal_from_ends None s e = absurd (cc)
equal_from_ends (Some t) s e =
    let ends = some_is (ends_of t) (ends_of s) e in
    and_from _ _ (eq-eqb t.source.0 s.source.0 (ap (λ x. x.0) ends)) (eq-eqb t.target.0 s.target.0 (ap (λ x. x.1) ends))
