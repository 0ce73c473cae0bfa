-- A line that is read is the line of what is read.
use Rattle.block_text.proofs.Prelude.{◌≡◌, ℕ, Bool, true, false, ◌&&◌, List, [], ◌∷◌, ◌++◌, Some, IsTrue, ap, ap₂, subst, codes, and_parts, false_from_ne_true, cond_some, bytes_eq-Decides, is_number, Line, is, is_pair, is_end, number_behind, end_line, is_open, is_close, closed, bracketed}
use Rattle.block_text.proofs.Results.{by_test, option_map_some, cond_option}

pub is_word : (word token : List ℕ) → is word token ≡ true → token ≡ word
is_word word token same = (bytes_eq-Decides token word).0 same

-- a token of which a test is true is no word of which it is false
pub other_word : (test : List ℕ → Bool) (word token : List ℕ) → test token ≡ true → test word ≡ false → is word token ≡ false
other_word test word token passed failed = false_from_ne_true (is word token) (λ same.
    let equal : token ≡ word = (bytes_eq-Decides token word).0 same in
    let both : test word ≡ true = subst (λ (t : List ℕ). test t ≡ true) equal passed in absurd (cc))

pub pair_is : (first second : List ℕ) (line : Line) → is_pair first second line ≡ true → line ≡ first ∷ second ∷ []
pair_is first second [] same = absurd (cc)
pair_is first second (a ∷ []) same = absurd (cc)
pair_is first second (a ∷ b ∷ []) same =
    let parts = and_parts (is first a) (is second b) same in
    ap₂ (λ x y. x ∷ y ∷ []) (is_word first a parts.0) (is_word second b parts.1)
pair_is first second (a ∷ b ∷ c ∷ tokens) same = absurd (cc)

pub end_is : (line : Line) → is_end line ≡ true → line ≡ end_line
end_is [] same = absurd (cc)
end_is (token ∷ []) same = ap (λ t. t ∷ []) (is_word (codes "end") token same)
end_is (token ∷ other ∷ tokens) same = absurd (cc)

-- a word and a number
pub number_is : (word : List ℕ) (line : Line) (n : List ℕ) → number_behind word line ≡ Some n → (line ≡ word ∷ n ∷ []) × IsTrue (is_number n)
number_is word [] n read = absurd (cc)
number_is word (a ∷ []) n read = absurd (cc)
number_is word (a ∷ b ∷ []) n read =
    let found : ((is word a && is_number b) ≡ true) × (b ≡ n) = cond_some (is word a && is_number b) b n read in
    let parts = and_parts (is word a) (is_number b) found.0 in
    (ap₂ (λ x y. x ∷ y ∷ []) (is_word word a parts.0) found.1, subst (λ m. IsTrue (is_number m)) found.1 parts.1)
number_is word (a ∷ b ∷ c ∷ tokens) n read = absurd (cc)

-- the tokens in a bracket and those after it
abbrev pub Parts : Type 0
Parts = List (List ℕ) × List (List ℕ)

closed_is : (tokens : Line) (parts : Parts) → closed tokens ≡ Some parts → tokens ≡ parts.0 ++ codes ")" ∷ parts.1
closed_is [] parts read = absurd (cc)
closed_is (token ∷ tokens) parts read =
    by_test (is_close token) _ _ (Some parts) read
    (λ close read_on.
    let same : ([], tokens) ≡ parts = cc in
    subst (λ (p : Parts). token ∷ tokens ≡ p.0 ++ codes ")" ∷ p.1) same (ap (λ t. t ∷ tokens) (is_word (codes ")") token close)))
    (λ inside read_on.
    option_map_some (λ (inner : Parts). (token ∷ inner.0, inner.1)) (closed tokens) parts read_on (λ inner found same.
    subst (λ (p : Parts). token ∷ tokens ≡ p.0 ++ codes ")" ∷ p.1) same (ap (λ ts. token ∷ ts) (closed_is tokens inner found))))

pub bracketed_is : (tokens : Line) (parts : Parts) → bracketed tokens ≡ Some parts → tokens ≡ codes "(" ∷ (parts.0 ++ codes ")" ∷ parts.1)
bracketed_is [] parts read = absurd (cc)
bracketed_is (token ∷ tokens) parts read =
    let found = cond_option (is_open token) (closed tokens) parts read in
    ap₂ (λ t ts. t ∷ ts) (is_word (codes "(") token found.0) (closed_is tokens parts found.1)
