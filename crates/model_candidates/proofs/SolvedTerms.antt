-- The terms with a solved letter: their sides and numbers.
use Rattle.model_candidates.proofs.Prelude.{◌≡◌, ℕ, suc, ◌+◌, ◌*◌, ◌/◌, ◌%◌, ◌<◌, ℤ, Bool, true, false, List, [], ◌∷◌, ◌++◌, length, get_or, replicate, take, drop, Option, Some, None, option_map, refl, sym, ap, ap₂, subst, ◌∙◌, arith, mod-lt, div-lt_iff_lt-mul, cond, All, AllByRecursion, position, range_with_len, none-some, take-append-drop, length-replicate, All-nil, All-cons, get_or-map-range_with_len, length-map-range_with_len, position-Some, drop-cons, Quiver, letters, source, target, leads, is_path, step, all-append, Letter, Shape, quiver_of, Problem, SolvedTerm, side_in, entries_of, is_solved, solved_flags, set_count, unknown_numbers, letter_numbers, letter_value, letter_values, numbers_of_letters, term_around, solved_term, listed, solved_terms, FitsTerm, HasSides}
use Rattle.model_candidates.proofs.DrawnEntries.{flag_of_each}
use Rattle.model_candidates.proofs.FilledValues.{length-filled}
use Rattle.model_candidates.proofs.GivenValues.{AreGiven, model, positive, product_ends, quiver, side_object, solved_maps}
use Rattle.model_candidates.proofs.LetterEntries.{flag_is, has_solved_map, number_below, stands}
use Rattle.model_candidates.proofs.ProductEntries.{residue_below}
use Rattle.model_candidates.proofs.Ranges.{all_of_range}
use Rattle.model_candidates.proofs.WordProducts.{FitLetter, fit_letter}

-- the letters of a path
letters_by : (q : Quiver) (u v : ℕ) (w : List ℕ) → leads q u v w ≡ true → All (λ a. a < letters q) w
letters_by q u v [] path = All-nil (λ a. a < letters q)
letters_by q u v (a ∷ w) path = let first = step q u v a w path in All-cons (λ b. b < letters q) a w first.letter (letters_by q u (source q a) w first.rest)

pub path_over : (q : Quiver) (u v : ℕ) (w : List ℕ) → is_path q u v w ≡ true → All (λ a. a < letters q) w
path_over q u v [] path = absurd (cc)
path_over q u v (a ∷ w) path = letters_by q u v (a ∷ w) path

-- The letter at this place is solved, and what stands before and behind it fits it.
pub record SolvedAt (q : Quiver) (solved : List Letter) (u v : ℕ) (w : List ℕ) (place : ℕ) : Type 0 where
  pub inside : place < length w
  pub there : is_solved q solved (get_or w place 0) ≡ true
  pub fit : FitLetter q u v (take place w) (get_or w place 0) (drop (place + 1) w)
  pub whole : take place w ++ get_or w place 0 ∷ drop (place + 1) w ≡ w

pub solved_at : (q : Quiver) (solved : List Letter) (u v : ℕ) (w : List ℕ) {place : ℕ} → is_path q u v w ≡ true
    → position (is_solved q solved) w ≡ Some place → SolvedAt q solved u v w place
solved_at q solved u v w {place} path found =
    let at = position-Some (is_solved q solved) w place 0 found in
    let x = get_or w place 0 in
    let next : suc place ≡ place + 1 = omega arith in
    let parts : take place w ++ x ∷ drop (place + 1) w ≡ w =
    ap (λ n. take place w ++ x ∷ drop n w) (sym next) ∙ ap (λ xs. take place w ++ xs) (sym (drop-cons w place 0 at.0))
    ∙ take-append-drop place w in
    record {
      inside = at.0;
      there = at.1;
      fit = fit_letter q u v (take place w) x (drop (place + 1) w) (subst (λ xs. is_path q u v xs ≡ true) (sym parts) path);
      whole = parts;
    }

-- each entry of the shape has a number
pub number_of_each : (q : Quiver) (s : Shape) (solved : List Letter) → length (unknown_numbers (solved_flags q s solved)) ≡ length (entries_of q s)
number_of_each q s solved =
    let flags = solved_flags q s solved in
    let n = set_count flags in
    length-filled flags (replicate (length flags) n) (range_with_len 0 n) (length-replicate (length flags) n)
    ∙ length-replicate (length flags) n ∙ flag_of_each q s solved

-- what stands for a letter
letter_there : (q : Quiver) (s : Shape) (solved : List Letter) {numbers : List (Option (List ℕ))} {a place : ℕ} (d : Option (List ℕ))
    → numbers ≡ numbers_of_letters q s solved → place ≡ a → a < letters q → get_or numbers place d ≡ letter_numbers q s solved a
letter_there q s solved {a} d are same letter =
    ap₂ (λ xs n. get_or xs n d) are same ∙ get_or-map-range_with_len (letter_numbers q s solved) 0 (letters q) a a d letter (omega arith)

-- the numbers that stand for a solved letter
pub numbers_there : (q : Quiver) (s : Shape) (solved : List Letter) {numbers : List (Option (List ℕ))} {a place : ℕ} (d : Option (List ℕ))
    → numbers ≡ numbers_of_letters q s solved → place ≡ a → a < letters q → is_solved q solved a ≡ true
    → get_or numbers place d ≡ Some (letter_values q s (unknown_numbers (solved_flags q s solved)) a)
numbers_there q s solved {a} d are same letter is = letter_there q s solved d are same letter
    ∙ ap (λ b. cond b (Some (letter_values q s (unknown_numbers (solved_flags q s solved)) a)) None) is

-- a letter has numbers where it is solved for, and only there
pub solved_where_numbered : (q : Quiver) (s : Shape) (solved : List Letter) {numbers : List (Option (List ℕ))} {a place : ℕ} (d : Option (List ℕ))
    → numbers ≡ numbers_of_letters q s solved → place ≡ a → a < letters q → {row : List ℕ} → get_or numbers place d ≡ Some row → is_solved q solved a ≡ true
solved_where_numbered q s solved {a} d are same letter {row} found =
    some_if (is_solved q solved a) _ row (sym (letter_there q s solved d are same letter) ∙ found)
  where
    some_if : (b : Bool) (values row : List ℕ) → cond b (Some values) None ≡ Some row → b ≡ true
    some_if true values row is = refl
    some_if false values row is = absurd (none-some row is)

pub unsolved_where_none : (q : Quiver) (s : Shape) (solved : List Letter) {numbers : List (Option (List ℕ))} {a place : ℕ} (d : Option (List ℕ))
    → numbers ≡ numbers_of_letters q s solved → place ≡ a → a < letters q → get_or numbers place d ≡ None → is_solved q solved a ≡ false
unsolved_where_none q s solved {a} d are same letter found =
    none_if (is_solved q solved a) _ (sym (letter_there q s solved d are same letter) ∙ found)
  where
    none_if : (b : Bool) (values : List ℕ) → cond b (Some values) None ≡ None → b ≡ false
    none_if true values is = absurd (none-some values (sym is))
    none_if false values is = refl

-- terms
module _ {problem : Problem} {s : Shape} {values : List ℕ} (given : AreGiven problem s values) (u v : ℕ)
    (in_u : u < (quiver_of problem.parts.quiver).objects) where
  abbrev q : Quiver
  q = quiver_of problem.parts.quiver

  abbrev solved : List Letter
  solved = problem.parts.solved

  abbrev numbers : List ℕ
  numbers = unknown_numbers (solved_flags q s solved)

  abbrev n : ℕ
  n = set_count (solved_flags q s solved)

  abbrev pub around : ℤ × List ℕ → ℕ → SolvedTerm
  around t place = term_around q s numbers (model given) u t place

  -- it fits, and it has the sides of the value
  pub record Fits (t : SolvedTerm) : Type 0 where
    pub fits : FitsTerm s.modulus n t
    pub has_sides : HasSides (side_in s v) (side_in s u) t

  values_below : {x : ℕ} → x < letters q → is_solved q solved x ≡ true → All (λ number. number < n) (letter_values q s numbers x)
  values_below {x} letter is =
      let columns = side_in s (source q x) in
      let size = side_in s (target q x) * columns in
      let f : ℕ → ℕ = λ place. letter_value q s numbers x (place / columns) (place % columns) in
      let positive = (side_object given ((quiver given).source_is_object x letter)).is_side.positive in
      let has = has_solved_map (quiver given) solved (solved_maps problem) letter is in
      all_of_range (λ number. number < n) f size (λ place within.
      let at = stands (quiver given) given.shape letter has.map ((div-lt_iff_lt-mul positive).1 within) (mod-lt place positive) in
      number_below solved at (flag_is solved at has.is_solved))

  pub term_fits : (t : ℤ × List ℕ) {place : ℕ} → is_path q u v t.1 ≡ true → position (is_solved q solved) t.1 ≡ Some place
      → Fits (around t place)
  term_fits t {place} path found =
      let at = solved_at q solved u v t.1 path found in
      let x = get_or t.1 place 0 in
      let columns = side_in s (source q x) in
      let size = side_in s (target q x) * columns in
      let g : ℕ → ℕ = λ k. letter_value q s numbers x (k / columns) (k % columns) in
      let left = product_ends given v (take place t.1) ((quiver given).target_is_object x at.fit.letter) at.fit.before in
      let right = product_ends given (source q x) (drop (place + 1) t.1) in_u at.fit.behind in
      record {
        fits = record {
          coefficient = residue_below s.modulus t.0 (positive given);
          left = left.arrow;
          right = right.arrow;
          one_each = length-map-range_with_len g 0 size ∙ ap₂ ◌*◌ (sym left.source) (sym right.target);
          below = values_below at.fit.letter at.there;
        };
        has_sides = record { rows_are = left.target; columns_are = right.source };
      }

  pub terms_fit : (p : List (ℤ × List ℕ)) → AllByRecursion (λ t. is_path q u v t.1 ≡ true) p
      → AllByRecursion Fits (solved_terms q s solved numbers (model given) u p)
  terms_fit [] paths = tt
  terms_fit (t ∷ p) paths =
      all-append Fits (listed (solved_term q s solved numbers (model given) u t)) (solved_terms q s solved numbers (model given) u p)
      (elim (position (is_solved q solved) t.1) as
      (λ o. position (is_solved q solved) t.1 ≡ o → AllByRecursion Fits (listed (option_map (around t) o))) [
        | None ↦ λ none. tt
        | Some place ↦ λ found. (term_fits t paths.0 found, tt)
      ] refl) (terms_fit p paths.1)
