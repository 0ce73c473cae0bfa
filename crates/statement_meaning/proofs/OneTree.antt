-- A file has one tree: the reader returns the tree of each list of lines that the bytes are.
use Rattle.statement_meaning.proofs.Prelude.{◌≡◌, ◌⊎◌, inl, inr, ℕ, List, ◌++◌, refl, sym, ap, subst, ◌∙◌, run, file_step, StatedLine, IsFileOf, file_tokens, file_tree, IsStatements, first_statements, begun, left, AllRead, language_of, file_language, divided, lines_run, is_only, FilesHaveOneTree}

-- what holds within a limit, within it
within : {F A B : Type 0} (r s : A) → (F × (r ≡ s)) ⊎ ((F → ⊥) × B) → F → r ≡ s
within r s (inl (fits, same)) holds = same
within r s (inr (deep, fails)) holds = absurd (deep holds)

-- all tokens of a file are read, as its tree
all_read : (bytes : List ℕ) (lines : List StatedLine) → IsStatements bytes lines → AllRead (file_tokens lines) (file_tree lines)
all_read bytes lines is =
    let ts = file_tokens lines in
    let language = language_of ts in
    let speaks = subst (λ l. IsFileOf l lines) (sym (file_language is.language lines is.speaks)) is.speaks in
    let first = divided language ts refl in
    let parts = first.parts lines speaks (left ts) (sym first.are) in
    let ran = within _ _ (lines_run language (first_statements language ts) parts.others parts.speak) (parts.fits is.fits) in (
      _,
      ap (run (file_step language) (begun ts)) parts.are ∙ ran,
      parts.trees ∙ ap (λ trees. trees ++ file_tree parts.others) (sym first.trees),
    )

pub files_have_one_tree : FilesHaveOneTree
files_have_one_tree bytes one other (lines, stated, one_is) (others, also, other_is) =
    one_is ∙ is_only bytes (file_tokens lines) (file_tree lines) stated.tokens (all_read bytes lines stated) others also ∙ sym other_is
