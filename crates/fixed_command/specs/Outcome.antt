-- Outcomes of conversions (exact, rounded, overflowed, refused) and their counts.
use Rattle.std.specs.Prelude.{◌≡◌, ◌⊎◌, ◌↔◌, ◌==◌, ◌||◌, ◌*◌, ◌^◌, ◌-◌, ℕ, ℤ, List, Bool, true, false, IsTrue}
use Rattle.std.specs.Prelude.{if◌then◌else◌}
use Rattle.std.specs.Prelude.{◌+◌, ◌++◌, [], ◌∷◌, codes, min, suc, unsigned_abs}
use Rattle.std.specs.Fmt.{decimal}
use Rattle.fixed_convert.specs.Rounded.{IsNotReformatted, IsReformatted}
use Rattle.fixed_numeral.specs.Numeral.{HasNumeral, Parts}
use Rattle.fixed_read.specs.Reading.{IsMultipleOf, IsWholeUlps}
use Rattle.fixed_command.specs.Convert.{IsNoSource, IsSource}
use Rattle.fixed_command.specs.declared.convert.Settings.{Settings}
use Rattle.fixed_command.specs.declared.outcome.Outcome.{Outcome}
use Rattle.fixed_command.specs.declared.outcome.Outcome.TheVariants.{Exact, Overflowed, Refused, Rounded}
use Rattle.fixed_command.specs.declared.outcome.Place.{Place}
use Rattle.fixed_command.specs.declared.outcome.Place.TheVariants.{Line, Record}
use Rattle.fixed_command.specs.declared.outcome.Tally.{Tally}
use Rattle.fixed_command.specs.declared.spelling.Spelling.{Spelling}
use Rattle.fixed_command.specs.declared.spelling.Spelling.TheVariants.{Numeral, Word}

-- what a line spells is a whole number of ulps of the source
abbrev pub IsWholeSource : Spelling → Settings → List ℕ → Type 0
IsWholeSource Numeral s numeral = (p : Parts) × HasNumeral s.radix numeral p × IsWholeUlps s.radix p s.source.frac
IsWholeSource Word s word = Unit {0}

-- the number b / 2^f of the source is a whole number of ulps of 2^-g: nothing is rounded
abbrev pub IsWholeMoved : ℤ → ℕ → ℕ → Type 0
IsWholeMoved b f g = IsMultipleOf (2 ^ f) (unsigned_abs b * 2 ^ g)

-- the outcome, by whether one of the two numbers was out of its format and whether nothing was rounded
abbrev pub outcome_by : Bool → Bool → Outcome
outcome_by true exact = Overflowed
outcome_by false true = Exact
outcome_by false false = Rounded

-- the numeral is converted, with this outcome
pub record IsConverted (outcome : Outcome) (s : Settings) (numeral : List ℕ) : Type 0 where
  pub number : ℤ
  pub out : Bool
  pub source : IsSource s.spelling s numeral number out
  pub bits : ℤ
  pub target_out : Bool
  pub moved : IsReformatted s.target_mode s.policy s.target number s.source.frac bits target_out
  pub exact : Bool
  pub is_exact : IsTrue exact ↔ (IsWholeSource s.spelling s numeral × IsWholeMoved number s.source.frac s.target.frac)
  pub outcome_is : outcome ≡ outcome_by (out || target_out) exact

-- the number of the source has no image in the target
pub record HasNoImage (s : Settings) (numeral : List ℕ) : Type 0 where
  pub number : ℤ
  pub out : Bool
  pub source : IsSource s.spelling s numeral number out
  pub none : IsNotReformatted s.target_mode s.policy s.target number s.source.frac

-- the line gives no number of the source, or one without an image
abbrev pub HasNoNumber : Settings → List ℕ → Type 0
HasNoNumber s numeral = ((message : List ℕ) × IsNoSource s.spelling s numeral message) ⊎ HasNoImage s numeral

-- the outcome of a numeral
abbrev pub IsOutcome : Outcome → Settings → List ℕ → Type 0
IsOutcome outcome s numeral = IsConverted outcome s numeral ⊎ (HasNoNumber s numeral × (outcome ≡ Refused))

-- whether a conversion has an error: a numeral does if it is in range after reading and after moving; a word does not
abbrev pub has_error : Spelling → Outcome → Bool
has_error Numeral Exact = true
has_error Numeral Rounded = true
has_error Numeral Overflowed = false
has_error Numeral Refused = false
has_error Word outcome = false

-- ---- counts
-- one more, up to the greatest count
abbrev pub one_more : ℕ → ℕ
one_more count = if count == 2 ^ 64 - 1 then count else suc count

-- the first of two places; 0 means none
abbrev pub first_of : ℕ → ℕ → ℕ
first_of first place = if first == 0 then place else first

-- the tally after one more outcome, in the line or record of this number
abbrev pub noted : Tally → ℕ → Outcome → Tally
noted t place Exact = record {
  exact = one_more t.exact;
  rounded = t.rounded;
  overflowed = t.overflowed;
  refused = t.refused;
  first_overflowed = t.first_overflowed;
  first_refused = t.first_refused;
}
noted t place Rounded = record {
  exact = t.exact;
  rounded = one_more t.rounded;
  overflowed = t.overflowed;
  refused = t.refused;
  first_overflowed = t.first_overflowed;
  first_refused = t.first_refused;
}
noted t place Overflowed = record {
  exact = t.exact;
  rounded = t.rounded;
  overflowed = one_more t.overflowed;
  refused = t.refused;
  first_overflowed = first_of t.first_overflowed place;
  first_refused = t.first_refused;
}
noted t place Refused = record {
  exact = t.exact;
  rounded = t.rounded;
  overflowed = t.overflowed;
  refused = one_more t.refused;
  first_overflowed = t.first_overflowed;
  first_refused = first_of t.first_refused place;
}

-- how many numerals there were, up to the greatest count
abbrev pub total : Tally → ℕ
total t = min (t.exact + t.rounded + t.overflowed + t.refused) (2 ^ 64 - 1)

-- the word for a place
abbrev pub place_text : Place → List ℕ
place_text Line = codes "line"
place_text Record = codes "record"

-- the text about the first place, if any
abbrev pub first_text : Place → ℕ → List ℕ
first_text place first = if first == 0 then []
    else codes " (the first in " ++ (place_text place ++ 32 ∷ (decimal first ++ codes ")"))

-- the text of a tally
abbrev pub tally_text : Place → Tally → List ℕ
tally_text place t = codes "numerals: " ++ (decimal (total t)
    ++ (codes ", exact: " ++ (decimal t.exact
    ++ (codes ", rounded: " ++ (decimal t.rounded
    ++ (codes ", overflowed: " ++ (decimal t.overflowed ++ (first_text place t.first_overflowed
    ++ (codes ", refused: " ++ (decimal t.refused ++ first_text place t.first_refused))))))))))
