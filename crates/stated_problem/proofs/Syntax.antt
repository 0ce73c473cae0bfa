-- A text has one tree or one first fault, and not both.
use Rattle.stated_problem.proofs.Prelude.{◌≡◌, inl, inr, ℕ, List, [], ◌∷◌, ◌++◌, Ok, refl, sym, ap, ◌∙◌, subst, append_assoc, chars, Token, Spot, Statement, Fault, run, file_step, first_statements, begun, left, AllRead, tokens_are_unique, first_scan_faults_are_unique, tokens_have_no_fault, Language, language_of, StatedLine, IsFileOf, file_tokens, FileFits, file_tree, GoesOn, GoesOnWithin, IsMisfit, IsFirstFault, GoesOnPast, not_utf8, no_token, expected, too_deep, IsStatements, IsTreeOf, Upto, Behind, Divided, file_language, divided, in_file, lines_run, is_only}
use Rattle.statement_syntax.specs.declared.line.Line.TheVariants as line

-- what is read of the tokens of statements within the limit is their tree
module _ (bytes : List ℕ) (lines : List StatedLine) (is : IsStatements bytes lines) where
  abbrev tokens : List Token
  tokens = file_tokens lines

  abbrev spoken : Language
  spoken = language_of tokens

  abbrev before : List Statement
  before = first_statements spoken tokens

  own : Divided spoken tokens
  own = divided spoken tokens refl

  behind : Behind spoken own.lines lines (left tokens)
  behind =
      let tells : is.language ≡ spoken = sym (file_language is.language lines is.speaks) in
      own.parts lines (subst (λ l. IsFileOf l lines) tells is.speaks) (left tokens) (sym own.are)

  ran_by : Upto (FileFits behind.others) (run (file_step spoken) (begun tokens) (file_tokens behind.others)) (Ok (in_file (before ++ file_tree behind.others) line.Start))
      → AllRead tokens (file_tree lines)
  ran_by (inl fits) =
      (_, ap (run (file_step spoken) (begun tokens)) behind.are ∙ fits.1, behind.trees ∙ ap (λ x. x ++ file_tree behind.others) (sym own.trees))
  ran_by (inr deep) = absurd (deep.0 (behind.fits is.fits))

  ran : AllRead tokens (file_tree lines)
  ran = ran_by (lines_run spoken before behind.others behind.speak)

pub tree_once : (bytes : List ℕ) (statements others : List Statement) → IsTreeOf bytes statements → IsTreeOf bytes others → statements ≡ others
tree_once bytes statements others one other =
    one.2 ∙ is_only bytes (file_tokens one.0) (file_tree one.0) one.1.tokens (ran bytes one.0 one.1) other.0 other.1 ∙ sym other.2

-- the second split is that of the first, or comes after it
data Split (front : List Token) (t : Token) (front' : List Token) (t' : Token) : Type 0 where
  same : front ≡ front' → t ≡ t' → Split front t front' t'
  later : (more : List Token) → front' ≡ front ++ t ∷ more → Split front t front' t'
  earlier : (more : List Token) → front ≡ front' ++ t' ∷ more → Split front t front' t'

pushed : (x : Token) (front : List Token) (t : Token) (front' : List Token) (t' : Token) → Split front t front' t' → Split (x ∷ front) t (x ∷ front') t'
pushed x front t front' t' (same p q) = same (ap (λ l. x ∷ l) p) q
pushed x front t front' t' (later more p) = later more (ap (λ l. x ∷ l) p)
pushed x front t front' t' (earlier more p) = earlier more (ap (λ l. x ∷ l) p)

splits : (front : List Token) (t : Token) (rest front' : List Token) (t' : Token) (rest' : List Token) → front ++ t ∷ rest ≡ front' ++ t' ∷ rest' → Split front t front' t'
splits [] t rest [] t' rest' is = same refl cc
splits [] t rest (y ∷ front') t' rest' is = let head : t ≡ y = cc in later front' (ap (λ z. z ∷ front') (sym head))
splits (x ∷ front) t rest [] t' rest' is = let head : x ≡ t' = cc in earlier front (ap (λ z. z ∷ front) head)
splits (x ∷ front) t rest (y ∷ front') t' rest' is =
    let head : x ≡ y = cc in
    let tail : front ++ t ∷ rest ≡ front' ++ t' ∷ rest' = cc in
    subst (λ z. Split (x ∷ front) t (z ∷ front') t') head (pushed x front t front' t' (splits front t rest front' t' rest' tail))

-- a prefix of a file's tokens is one up to each of its tokens
goes_before : (language : Language) (front : List Token) (t : Token) (more whole : List Token) → whole ≡ front ++ t ∷ more → GoesOnWithin language whole
    → GoesOnWithin language (front ++ t ∷ [])
goes_before language front t more whole is on =
    (more ++ on.0, on.1, on.2, on.3, append_assoc front (t ∷ []) (more ++ on.0) ∙ sym (append_assoc front (t ∷ more) on.0) ∙ ap (λ l. l ++ on.0) (sym is) ∙ on.4)

record Same (bytes : List ℕ) (at at' : Spot) (m : IsMisfit bytes at) (m' : IsMisfit bytes at') : Type 0 where
  place : at ≡ at'
  came : m.front ++ m.token ∷ [] ≡ m'.front ++ m'.token ∷ []
  whole : m.front ++ m.token ∷ m.rest ≡ m'.front ++ m'.token ∷ m'.rest

misfit_once : (bytes : List ℕ) (at at' : Spot) (m : IsMisfit bytes at) (m' : IsMisfit bytes at') → Same bytes at at' m m'
misfit_once bytes at at' m m' = by (splits m.front m.token m.rest m'.front m'.token m'.rest whole)
  where
    whole : m.front ++ m.token ∷ m.rest ≡ m'.front ++ m'.token ∷ m'.rest
    whole = tokens_are_unique (chars bytes) _ _ m.tokens m'.tokens

    by : Split m.front m.token m'.front m'.token → Same bytes at at' m m'
    by (same front token) =
        record { place = sym m.place ∙ ap (λ (t : Token). t.at) token ∙ m'.place; came = ap (λ l. l ++ m.token ∷ []) front ∙ ap (λ t. m'.front ++ t ∷ []) token; whole = whole }
    by (later more is) = absurd (m.there (goes_before _ m.front m.token more m'.front is (subst (λ ts. GoesOnWithin (language_of ts) m'.front) (sym whole) m'.before)))
    by (earlier more is) = absurd (m'.there (goes_before _ m'.front m'.token more m.front is (subst (λ ts. GoesOnWithin (language_of ts) m.front) whole m.before)))

-- tokens up to one misfit, and those up to the other
module _ (bytes : List ℕ) (at at' : Spot) (m : IsMisfit bytes at) (m' : IsMisfit bytes at') where
  goes_with : GoesOnPast bytes at' m' → GoesOnPast bytes at m
  goes_with on =
      let once = misfit_once bytes at at' m m' in
      subst (λ ts. GoesOn (language_of ts) (m.front ++ m.token ∷ [])) (sym once.whole)
      (subst (GoesOn (language_of (m'.front ++ m'.token ∷ m'.rest))) (sym once.came) on)

-- the fault and its place
abbrev pub SameFault : Fault → Spot → Fault → Spot → Type 0
SameFault f at f' at' = (f ≡ f') × (at ≡ at')

pub fault_once : (bytes : List ℕ) (f f' : Fault) (at at' : Spot) → IsFirstFault bytes f at → IsFirstFault bytes f' at' → SameFault f at f' at'
fault_once bytes f f' at at' (not_utf8 is bad place) (not_utf8 is' bad' place') = (is ∙ sym is', place ∙ sym place')
fault_once bytes f f' at at' (not_utf8 is bad place) (no_token utf8 first) = absurd (bad utf8)
fault_once bytes f f' at at' (not_utf8 is bad place) (expected is' m' ends) = absurd (bad m'.utf8)
fault_once bytes f f' at at' (not_utf8 is bad place) (too_deep is' m' goes) = absurd (bad m'.utf8)
fault_once bytes f f' at at' (no_token utf8 first) (not_utf8 is bad place) = absurd (bad utf8)
fault_once bytes f f' at at' (no_token utf8 first) (no_token utf8' first') = first_scan_faults_are_unique (chars bytes) _ _ at at' first first'
fault_once bytes f f' at at' (no_token utf8 first) (expected is m ends) = absurd (tokens_have_no_fault (chars bytes) _ _ at m.tokens first)
fault_once bytes f f' at at' (no_token utf8 first) (too_deep is m goes) = absurd (tokens_have_no_fault (chars bytes) _ _ at m.tokens first)
fault_once bytes f f' at at' (expected is m ends) (not_utf8 is' bad place) = absurd (bad m.utf8)
fault_once bytes f f' at at' (expected is m ends) (no_token utf8 first) = absurd (tokens_have_no_fault (chars bytes) _ _ at' m.tokens first)
fault_once bytes f f' at at' (expected is m ends) (expected is' m' ends') = (is ∙ sym is', (misfit_once bytes at at' m m').place)
fault_once bytes f f' at at' (expected is m ends) (too_deep is' m' goes) = absurd (ends (goes_with bytes at at' m m' goes))
fault_once bytes f f' at at' (too_deep is m goes) (not_utf8 is' bad place) = absurd (bad m.utf8)
fault_once bytes f f' at at' (too_deep is m goes) (no_token utf8 first) = absurd (tokens_have_no_fault (chars bytes) _ _ at' m.tokens first)
fault_once bytes f f' at at' (too_deep is m goes) (expected is' m' ends) = absurd (ends (goes_with bytes at' at m' m goes))
fault_once bytes f f' at at' (too_deep is m goes) (too_deep is' m' goes') = (is ∙ sym is', (misfit_once bytes at at' m m').place)
