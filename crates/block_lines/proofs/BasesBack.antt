-- A basis that is written is read back, whatever texts are before and after it.
use Rattle.block_lines.proofs.Prelude.{◌≡◌, true, false, ℕ, List, ◌∷◌, ◌++◌, IsTrue, arith, refl, sym, ap, ◌∙◌, subst, codes, decimal, flat_map, list_all, length-map, Poly, Declaration, IsDeclared, is_inside, is_named, Line, number_limit, IsPolynomialLine, polynomial_line, AreReadBack, tokens_of, is_skipped, poly_text, text_of_tokens, IsWritten, poly_is_line, are_low, line_text-append, literal, all_with, numbers, polynomial_behind, Basis, on_polynomial, bounds, flaw_of, part, basis_lines, other_words, basis_kind, by_terms, HasBases, rule_limit, HasLetters, IsWritableBasis, text_of, rule_line, IsPolyOver, polynomials_are_read_back}
use Rattle.std.proofs.lemmas.List.{append_assoc}
use Rattle.block_lines.proofs.PolynomialReader.{line_keeps, kept_by}
use Rattle.block_lines.proofs.SeenKinds.{seen_are_read_back}
use Rattle.block_lines.proofs.SectionBlocks.{IsLineWritten, number_written, none_written, line_written, lines_written, block_written}
use Rattle.block_lines.specs.BasisLines.{rules}
use Rattle.block_lines.proofs.Reader.{order, reader}

module _ (ds : List Declaration) (declared : IsDeclared ds) (known : IsTrue (list_all is_named ds)) where
  -- it can be written
  record IsWritable (p : Poly) : Type 0 where
    over : IsPolyOver ds p
    some : HasLetters p

  read_back : (p : Poly) → IsWritable p → IsPolynomialLine ds (tokens_of (poly_text ds p.terms)) p.terms
  read_back p is = polynomials_are_read_back ds p.terms declared known p.canonical is.over is.some

  -- its line after a word, by the word with a blank
  polynomial_written : (word front : List ℕ) → are_low front ≡ true → list_all is_inside front ≡ true → ((text : List ℕ) → tokens_of (front ++ text) ≡ word ∷ tokens_of text) → ((line : Line) → is_skipped (word ∷ line) ≡ false)
      → (p : Poly) → IsWritable p → IsLineWritten (polynomial_behind ds part word) ((front ++ poly_text ds p.terms) ++ codes "\n") p.terms
  polynomial_written word front low inside split stands p is =
      let line = read_back p is in
      let text = poly_is_line ds declared known p.terms (λ k d below. (p.canonical.shaped.in_range k d below, is.over k d below)) in
      record {
        tokens = line.tokens;
        text_is = text_of_tokens (front ++ poly_text ds p.terms) (word ∷ polynomial_line line.tokens) (line_text-append front (poly_text ds p.terms) (literal front low inside) text)
            (split (poly_text ds p.terms) ∙ ap (λ ts. word ∷ ts) (sym line.are)) (stands (polynomial_line line.tokens));
        is = line.fit;
        keeps = λ bound. kept_by ds flaw_of bounds part on_polynomial (λ b. refl) (λ b. refl) order word line.tokens (part bound) (line_keeps ds (tokens_of (poly_text ds p.terms)) p.terms line);
        says = line.says;
      }

  -- the end of the last line and the line `end`
  end_is : (front all word poly : List ℕ) → front ++ (all ++ (((word ++ poly) ++ codes "\n") ++ codes "end\n")) ≡ ((front ++ all) ++ word) ++ poly ++ codes "\nend\n"
  end_is front all word poly =
      ap (λ text. front ++ (all ++ text)) (append_assoc (word ++ poly) (codes "\n") (codes "end\n") ∙ append_assoc word poly (codes "\nend\n"))
      ∙ sym (append_assoc front all (word ++ (poly ++ codes "\nend\n"))) ∙ sym (append_assoc (front ++ all) word (poly ++ codes "\nend\n")) ∙ sym (append_assoc ((front ++ all) ++ word) poly (codes "\nend\n"))

  pub basis_written : (b : Basis) → IsWritableBasis ds b → IsWritten (basis_kind ds) (text_of ds b) (by_terms b)
  basis_written b writable =
      let claim = number_written (on_polynomial numbers) (codes "claim") (codes "claim ") number_limit b.claim refl refl refl refl (omega (arith, writable.claim)) (omega arith) in
      let rest = polynomial_written (codes "rest") (codes "rest ") refl refl (λ text. refl) (λ line. refl) b.rest (record { over = writable.over.rest; some = writable.rest }) in
      let each = all_with (IsPolyOver ds) HasLetters IsWritable (λ p over some. record { over = over; some = some }) b.rules writable.over.rules writable.rules in
      subst (λ text. IsWritten (basis_kind ds) text (by_terms b)) (end_is (codes "basis 1\nclaim " ++ decimal b.claim ++ codes "\n") (flat_map (rule_line ds) b.rules) (codes "rest ") (poly_text ds b.rest.terms))
      (block_written (codes "basis") (codes "1") (codes "basis 1") other_words bounds flaw_of (basis_lines ds) refl refl refl refl
      (line_written claim
      (lines_written rules rule_limit (rule_line ds) (λ (p : Poly). p.terms) IsWritable (polynomial_written (codes "rule") (codes "rule ") refl refl (λ text. refl) (λ line. refl)) b.rules each
      (omega (arith, writable.few, length-map b.rules (λ (p : Poly). p.terms))) (line_written rest none_written))))

pub bases_back : (ds : List Declaration) → IsDeclared ds → IsTrue (list_all is_named ds) → AreReadBack (HasBases ds) (text_of ds) (IsWritableBasis ds) other_words
bases_back ds declared known = seen_are_read_back (basis_kind ds) by_terms (text_of ds) (IsWritableBasis ds) (reader ds).words (basis_written ds declared known)
