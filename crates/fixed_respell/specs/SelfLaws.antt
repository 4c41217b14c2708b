-- The self test ends in one way, words name one thing, and bytes are split in one way.
use Rattle.std.specs.Prelude.{◌≡◌, ℕ, ◌-◌, ◌^◌, ◌<◌, List, [], ◌∷◌, Some, String, codes}
use Rattle.std.specs.declared.alloc.Global.{Global}
use Rattle.fixed_bits.specs.declared.format.Policy.{Policy}
use Rattle.fixed_bits.specs.declared.mode.ReadMode.{ReadMode}
use Rattle.fixed_respell.specs.Command.{IsCommand}
use Rattle.fixed_respell.specs.SelfMode.{HasSelfRun, IsSummary, self_lines}
use Rattle.fixed_respell.specs.Split.{IsSplit}
use Rattle.fixed_respell.specs.Words.{IsPolicyWord}
use Rattle.fixed_respell.specs.declared.command.Command.{Command}
use Rattle.line_engine.specs.declared.status.Status.{Status}
use Rattle.line_engine.specs.declared.status.Status.TheVariants.{WriteFault}

-- bytes are split at the first byte with a given value in one way
abbrev pub SplitIsTheOne : Type 0
SplitIsTheOne = (b : ℕ) (bytes xs rest ys others : List ℕ) → IsSplit b bytes xs rest → IsSplit b bytes ys others
    → (xs ≡ ys) × (rest ≡ others)

-- a word names at most one policy and one mode
abbrev pub PolicyWordIsTheOne : Type 0
PolicyWordIsTheOne = (word : List ℕ) (p q : Policy) (m k : ReadMode) → IsPolicyWord word p m → IsPolicyWord word q k
    → (p ≡ q) × (m ≡ k)

-- arguments request at most one command
abbrev pub CommandIsTheOne : Type 0
CommandIsTheOne = (args : List (String Global)) (c d : Command) → IsCommand args c → IsCommand args d → c ≡ d

-- n lines have one summary, and one count of faults
abbrev pub SummaryIsTheOne : Type 0
SummaryIsTheOne = (n : ℕ) (a b : List ℕ) (faults others : ℕ) → IsSummary n a faults → IsSummary n b others
    → (a ≡ b) × (faults ≡ others)

-- if the count of failures can still rise, it decides how a self test ended, and what it wrote unless a write failed
abbrev pub SelfRunIsTheOne : Type 0
SelfRunIsTheOne = (n : ℕ) (before a b : List ℕ) (failures failures' : ℕ) (s t : Status) → failures < 2 ^ 64 - 1
    → HasSelfRun n (Some before) (Some a) failures failures' s
    → HasSelfRun n (Some before) (Some b) failures failures' t → (s ≡ t) × (¬ (s ≡ WriteFault) → a ≡ b)

-- the first lines of the self test
abbrev pub SelfTestBegins : Type 0
SelfTestBegins = self_lines 7 ≡ codes "2 U8F0 U8F0 checked 0.0" ∷ codes "8 U8F0 U8F0 saturating 1.17357"
    ∷ codes "10 U8F0 U8F0 wrapping 2.15838" ∷ codes "16 U8F0 U8F0 checked 3.5ccd"
    ∷ codes "2 I4F4 U8F0 saturating -100.111101110111100" ∷ codes "8 I4F4 U8F0 wrapping 5.115253"
    ∷ codes "10 I4F4 U8F0 checked 6.47514@-3" ∷ []
