-- The block of a claim that isn't derivable is a block of another kind.
use Rattle.report_readback.proofs.Prelude.{◌≡◌, ℕ, List, [], ◌∷◌, ◌++◌, refl, sym, ap, ◌∙◌, map, codes, IsTrue, decimal, All, list_all, flat_map, append-nil, append_assoc, All-nil, All-cons, All-append, All-map, All-weaker, Poly, Declaration, IsDeclared, Lemmas, tokens_of, poly_text, other, is_named, IsLineText, ended, IsBodyLine, part_text, IsPart, begins_no_end, poly_is_line, literal, line_text-append, rule_line, basis_text, IsPolyOver}
use Rattle.report_readback.proofs.Numerals.{decimal_is_line}

-- `claim N`
abbrev pub claim_body : ℕ → List ℕ
claim_body claim = codes "claim " ++ decimal claim

-- `rule` or `rest`, and a polynomial
abbrev pub rule_body : List Declaration → Poly → List ℕ
rule_body ds p = codes "rule " ++ poly_text ds p.terms

abbrev pub rest_body : List Declaration → Poly → List ℕ
rest_body ds p = codes "rest " ++ poly_text ds p.terms

abbrev pub basis_head : List ℕ
basis_head = codes "basis 1"

abbrev pub basis_lines : List Declaration → List Poly → ℕ → Poly → List (List ℕ)
basis_lines ds rules claim rest = claim_body claim ∷ (map (rule_body ds) rules ++ rest_body ds rest ∷ [])

-- the text is that of the part
rules_are : (ds : List Declaration) (rules : List Poly) (rest : Poly)
    → flat_map ended (map (rule_body ds) rules ++ rest_body ds rest ∷ []) ≡ flat_map (rule_line ds) rules ++ ended (rest_body ds rest)
rules_are ds [] rest = append-nil (ended (rest_body ds rest))
rules_are ds (p ∷ rules) rest =
    ap (λ text. rule_line ds p ++ text) (rules_are ds rules rest) ∙ sym (append_assoc (rule_line ds p) (flat_map (rule_line ds) rules) (ended (rest_body ds rest)))

-- the end of the last line and the line `end`
end_is : (number rules poly : List ℕ) → number ++ (rules ++ (codes "rest " ++ poly ++ codes "\n")) ++ codes "end\n" ≡ number ++ rules ++ codes "rest " ++ poly ++ codes "\nend\n"
end_is number rules poly =
    append_assoc number (rules ++ (codes "rest " ++ poly ++ codes "\n")) (codes "end\n")
    ∙ ap (λ text. number ++ text) (append_assoc rules (codes "rest " ++ poly ++ codes "\n") (codes "end\n") ∙ ap (λ text. rules ++ (codes "rest " ++ text)) (append_assoc poly (codes "\n") (codes "end\n")))
    ∙ sym (append_assoc (number ++ rules ++ codes "rest ") poly (codes "\nend\n") ∙ append_assoc (number ++ rules) (codes "rest ") (poly ++ codes "\nend\n")
    ∙ append_assoc number rules (codes "rest " ++ (poly ++ codes "\nend\n")))

pub basis_is_part : (ds : List Declaration) (rules : List Poly) (claim : ℕ) (rest : Poly) → basis_text ds rules claim rest ≡ part_text ds (other basis_head (basis_lines ds rules claim rest))
basis_is_part ds rules claim rest =
    sym (ap (λ body. ended basis_head ++ (ended (claim_body claim) ++ body) ++ codes "end\n") (rules_are ds rules rest)
    ∙ ap (λ text. codes "basis 1\nclaim " ++ text) (end_is (decimal claim ++ codes "\n") (flat_map (rule_line ds) rules) (poly_text ds rest.terms)))

-- it is a part
pub claim_is_body : (claim : ℕ) → IsBodyLine (claim_body claim)
claim_is_body claim = record {
  text = line_text-append (codes "claim ") (decimal claim) (literal (codes "claim ") refl refl) (decimal_is_line claim);
  goes_on = begins_no_end (codes "claim") (tokens_of (decimal claim)) refl;
}

module _ (ds : List Declaration) (declared : IsDeclared ds) (known : IsTrue (list_all is_named ds)) where
  poly_line : (p : Poly) → IsPolyOver ds p → IsLineText (poly_text ds p.terms)
  poly_line p over = poly_is_line ds declared known p.terms (λ k d below. (p.canonical.shaped.in_range k d below, over k d below))

  rule_is_body : (p : Poly) → IsPolyOver ds p → IsBodyLine (rule_body ds p)
  rule_is_body p over = record {
    text = line_text-append (codes "rule ") (poly_text ds p.terms) (literal (codes "rule ") refl refl) (poly_line p over);
    goes_on = begins_no_end (codes "rule") (tokens_of (poly_text ds p.terms)) refl;
  }

  rest_is_body : (p : Poly) → IsPolyOver ds p → IsBodyLine (rest_body ds p)
  rest_is_body p over = record {
    text = line_text-append (codes "rest ") (poly_text ds p.terms) (literal (codes "rest ") refl refl) (poly_line p over);
    goes_on = begins_no_end (codes "rest") (tokens_of (poly_text ds p.terms)) refl;
  }

  pub basis_is : (rules : List Poly) (claim : ℕ) (rest : Poly) → All (IsPolyOver ds) rules → IsPolyOver ds rest → IsPart Lemmas ds (other basis_head (basis_lines ds rules claim rest))
  basis_is rules claim rest rules_over rest_over = (
    literal basis_head refl refl,
    refl,
    All-cons IsBodyLine (claim_body claim) (map (rule_body ds) rules ++ rest_body ds rest ∷ []) (claim_is_body claim) (All-append IsBodyLine (map (rule_body ds) rules) (rest_body ds rest ∷ [])
        (All-map IsBodyLine (rule_body ds) rules (All-weaker (IsPolyOver ds) (λ p. IsBodyLine (rule_body ds p)) rule_is_body rules rules_over))
        (All-cons IsBodyLine (rest_body ds rest) [] (rest_is_body rest rest_over) (All-nil IsBodyLine))),
  )
