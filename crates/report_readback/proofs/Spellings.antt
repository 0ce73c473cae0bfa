-- A name is what is spelled as one.
use Rattle.report_readback.proofs.Prelude.{◌≡◌, ◌≤◌, ℕ, Bool, true, ◌&&◌, List, [], ◌∷◌, length, drop, refl, sym, ap, subst, ◌∙◌, list_all, IsUtf8, is_utf8, chars, encode_utf8_all, scalars, and_parts, le-leb, leb-true, chars-encodes, IsUtf8-from_is_utf8, is_utf8-from_IsUtf8, is_xid_continue, begins_name, is_name, EachIs, SpellsName, name_limit}

each_passes : (p : ℕ → Bool) (cs : List ℕ) → EachIs p cs → list_all p cs ≡ true
each_passes p [] each = refl
each_passes p (c ∷ cs) each = rw (each.0, each_passes p cs each.1) refl

all_pass : (p : ℕ → Bool) (cs : List ℕ) → list_all p cs ≡ true → EachIs p cs
all_pass p [] all = tt
all_pass p (c ∷ cs) all = let parts = and_parts _ _ all in (parts.0, all_pass p cs parts.1)

pub spelled_is_name : (text : List ℕ) → SpellsName text → is_name text ≡ true
spelled_is_name text s =
    let characters : chars text ≡ s.first ∷ s.more = rw (s.is) (chars-encodes (s.first ∷ s.more) s.scalar) in
    let utf8 : is_utf8 text ≡ true = is_utf8-from_IsUtf8 text (s.first ∷ s.more, (s.scalar, sym s.is)) in
    rw (le-leb _ _ s.short, utf8, characters, s.starts, each_passes is_xid_continue s.more s.goes_on) refl

spelled_by : (cs text : List ℕ) → encode_utf8_all cs ≡ text → scalars cs ≡ true → length text ≤ name_limit → (begins_name cs && list_all is_xid_continue (drop 1 cs)) ≡ true → SpellsName text
spelled_by [] text spells scalar short known = absurd cc
spelled_by (c ∷ cs) text spells scalar short known =
    let parts = and_parts _ _ known in
    record { first = c; more = cs; is = sym spells; starts = parts.0; goes_on = all_pass is_xid_continue cs parts.1; scalar = scalar; short = short }

pub name_is_spelled : (text : List ℕ) → is_name text ≡ true → SpellsName text
name_is_spelled text known =
    let parts = and_parts _ _ known in
    let inner = and_parts _ _ parts.1 in
    let utf8 : IsUtf8 text = IsUtf8-from_is_utf8 text inner.0 in
    let characters : chars text ≡ utf8.0 = ap chars (sym utf8.1.1) ∙ chars-encodes utf8.0 utf8.1.0 in
    spelled_by utf8.0 text utf8.1.1 utf8.1.0 (leb-true _ _ parts.0) (subst (λ (cs : List ℕ). (begins_name cs && list_all is_xid_continue (drop 1 cs)) ≡ true) characters inner.1)
