-- Each text has one list of tokens or one first fault.
use Rattle.std.specs.Prelude.{◌≡◌, ◌⊎◌, ℕ, List}
use Rattle.statement_tokens.specs.Tokens.{AreTokens, IsFirstScanFault}
use Rattle.statement_tokens.specs.Types.{Spot, Fault, Token}

abbrev pub HasTokensOrFault : List ℕ → Type 0
HasTokensOrFault text = ((tokens : List Token) × AreTokens text tokens) ⊎ ((fault : Fault) × (at : Spot) × IsFirstScanFault text fault at)

-- Each text has tokens or a first fault.
abbrev pub EachTextHasTokensOrFault : Type 0
EachTextHasTokensOrFault = (text : List ℕ) → HasTokensOrFault text

-- No text has two lists of tokens.
abbrev pub TokensAreUnique : Type 0
TokensAreUnique = (text : List ℕ) (tokens others : List Token) → AreTokens text tokens → AreTokens text others → tokens ≡ others

-- No text has two first faults, or one fault at two places.
abbrev pub FirstScanFaultsAreUnique : Type 0
FirstScanFaultsAreUnique = (text : List ℕ) (fault other : Fault) (at there : Spot) → IsFirstScanFault text fault at → IsFirstScanFault text other there
    → (fault ≡ other) × (at ≡ there)

-- No text that has tokens has a first fault.
abbrev pub TokensHaveNoFault : Type 0
TokensHaveNoFault = (text : List ℕ) (tokens : List Token) (fault : Fault) (at : Spot) → AreTokens text tokens → IsFirstScanFault text fault at → ⊥
