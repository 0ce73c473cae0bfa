-- Whether rules are typed and in play, as a test of their polynomials.
use Rattle.std.specs.Prelude.{ℕ, Bool, true, false, ◌&&◌, List, [], ◌∷◌, Option, Some, None}
use Rattle.std.specs.List.{list_all}
use Rattle.definitions.specs.Poly.{Term}
use Rattle.definitions.specs.Quiver.{Quiver, is_path, signature_of}
use Rattle.quiver.specs.Declarations.{quiver_of}
use Rattle.adjoint_rules.specs.declared.parts.Parts.{Parts}
use Rattle.adjoint_rules.specs.Problem.{numbers, is_in_play}

-- whether each word is a path of the signature
abbrev pub are_paths : Quiver → Option (ℕ × ℕ) → List Term → Bool
are_paths q None p = false
are_paths q (Some s) p = list_all (λ t. is_path q s.0 s.1 t.1) p

-- whether all words are paths of one signature, which is that of the first one
abbrev pub is_typed : Quiver → List Term → Bool
is_typed q [] = true
is_typed q (t ∷ p) = are_paths q (signature_of q t.1) (t ∷ p)

-- whether all letters of all words are in play
abbrev pub has_letters_in_play : (ℕ → Bool) → List Term → Bool
has_letters_in_play play p = list_all (λ t. list_all play t.1) p

-- whether each polynomial is typed and in play
abbrev pub is_sharp : Parts → List (List Term) → Bool
is_sharp p polys = list_all (λ f. is_typed (quiver_of p.quiver) f && has_letters_in_play (is_in_play p.quiver p.starred (numbers p.marked)) f) polys
