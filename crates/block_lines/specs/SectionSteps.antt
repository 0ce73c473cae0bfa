-- How a reader goes over the lines of a block. Only the reader's functions and proofs use it; the lines are defined in Sections.
use Rattle.std.specs.Prelude.{ℕ, ◌&&◌, Bool, true, false, ⊤, List, [], ◌∷◌, ◌++◌, length, nat_le, Option, Some, None, Result, Ok, Err, if◌then◌else◌}
use Rattle.std.specs.Option.{option_map}
use Rattle.std.specs.List.{list_any}
use Rattle.std.specs.Str.{bytes_eq}
use Rattle.block_text.specs.declared.fault.Flaw.{Flaw}
use Rattle.block_text.specs.declared.fault.Flaw.TheVariants.{BadLine, TooMany}
use Rattle.block_text.specs.Fault.{◌>>=◌, asked}
use Rattle.block_text.specs.Lines.{Line, begins, is_pair}
use Rattle.block_lines.specs.LineReadings.{Reading}
use Rattle.block_text.specs.Steps.{Steps}
use Rattle.block_lines.specs.declared.section.LinePlace.{LinePlace}
use Rattle.block_lines.specs.declared.section.LinePlace.TheVariants as at
use Rattle.block_lines.specs.declared.section.LinesPlace.{LinesPlace}

-- before the first line, with one more line, and at the end
pub record SectionSteps (Begun Value : Type 0) : Type 0 where
  pub start : Begun
  pub next : Begun → Line → Result Begun Flaw
  pub finish : Begun → Option Value

abbrev pub no_steps : SectionSteps ⊤ ⊤
no_steps = record { start = tt; next = λ b line. Err BadLine; finish = λ b. Some tt }

-- one more value, where there may be one
abbrev pub grown : {V : Type 0} → ℕ → List V → V → Result (List V) Flaw
grown limit values v = if nat_le limit (length values) then Err (TooMany limit) else Ok (values ++ v ∷ [])

abbrev pub lines_place : {V B : Type 0} → List V → B → Bool → LinesPlace V B
lines_place values rest more = record { values = values; rest = rest; more = more }

module _ {V W B : Type 0} where
  -- a line, and others that hang on what it says
  abbrev pub line_next : Reading V → (V → SectionSteps B W) → LinePlace V B → Line → Result (LinePlace V B) Flaw
  line_next read rest at.Before line = read line >>= λ v. Ok (at.Behind v (rest v).start)
  line_next read rest (at.Behind v r) line = (rest v).next r line >>= λ q. Ok (at.Behind v q)

  abbrev pub line_finish : (V → SectionSteps B W) → LinePlace V B → Option (V × W)
  line_finish rest at.Before = None
  line_finish rest (at.Behind v r) = option_map (λ w. (v, w)) ((rest v).finish r)

  abbrev pub line_steps_by : Reading V → (V → SectionSteps B W) → SectionSteps (LinePlace V B) (V × W)
  line_steps_by read rest = record { start = at.Before; next = line_next read rest; finish = line_finish rest }

  abbrev pub line_steps : Reading V → SectionSteps B W → SectionSteps (LinePlace V B) (V × W)
  line_steps read rest = line_steps_by read (λ v. rest)

  abbrev pub lines_next : List ℕ → ℕ → Reading V → SectionSteps B W → LinesPlace V B → Line → Result (LinesPlace V B) Flaw
  lines_next word limit read rest p line =
      if p.more && begins word line then (read line >>= λ v. (grown limit p.values v >>= λ vs. Ok (lines_place vs p.rest p.more)))
      else (rest.next p.rest line >>= λ r. Ok (lines_place p.values r false))

  abbrev pub lines_finish : SectionSteps B W → LinesPlace V B → Option (List V × W)
  lines_finish rest p = option_map (λ w. (p.values, w)) (rest.finish p.rest)

  abbrev pub lines_steps : List ℕ → ℕ → Reading V → SectionSteps B W → SectionSteps (LinesPlace V B) (List V × W)
  lines_steps word limit read rest =
      record { start = lines_place [] rest.start true; next = lines_next word limit read rest; finish = lines_finish rest }

-- lines by their tokens, the names of these and what they say, which no line before has
abbrev pub named_grown : {T V : Type 0} → (T → List ℕ) → (T → Result V Flaw) → List (List ℕ) × List V → T → Result (List (List ℕ) × List V) Flaw
named_grown name value p t = if list_any (bytes_eq (name t)) p.0 then Err BadLine else value t >>= λ v. Ok (p.0 ++ name t ∷ [], p.1 ++ v ∷ [])

abbrev pub named_steps : {T V : Type 0} → (Line → Option T) → (T → List ℕ) → (T → Result V Flaw) → SectionSteps (List (List ℕ) × List V) (List V)
named_steps tokens name value = record {
  start = ([], []);
  next = λ p line. asked BadLine (tokens line) >>= named_grown name value p;
  finish = λ p. Some p.1;
}

-- what is made of what the lines say
abbrev pub steps_as : {B V W : Type 0} → (V → W) → SectionSteps B V → SectionSteps B W
steps_as f steps = record { start = steps.start; next = steps.next; finish = λ b. option_map f (steps.finish b) }

-- the reader of blocks that begin with two words
abbrev pub block_steps : {B V : Type 0} → List ℕ → List ℕ → List (List ℕ) → SectionSteps B V → Steps B V
block_steps first second others section = record {
  others = others;
  begin = λ line. if is_pair first second line then Some section.start else None;
  next = section.next;
  finish = section.finish;
}
