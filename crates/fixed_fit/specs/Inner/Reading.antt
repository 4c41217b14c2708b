-- What is known while an input is read.
use Rattle.std.specs.Prelude.{◌≡◌, ℕ, List, map, max, true, None, Option}
use Rattle.fixed_bits.specs.Ranges.{IsWidth}
use Rattle.fixed_command.specs.LaidList.{laid}
use Rattle.fixed_command.specs.Layout.{LineLayout}
use Rattle.fixed_error.specs.Errors.{HasGreatestErrors}
use Rattle.fixed_error.specs.declared.errors.GreatestErrors.{GreatestErrors}
use Rattle.fixed_numeral.specs.declared.radix.Radix.{Radix}
use Rattle.line_engine.specs.Lines.{ended_lines, unended}
use Rattle.fixed_fit.specs.ErrorWord.{entries_from}
use Rattle.fixed_fit.specs.Inner.Progress.{HasProgress}
use Rattle.fixed_fit.specs.Inner.Serving.{AreServed, Asked}
use Rattle.fixed_fit.specs.declared.progress.Progress.{Progress}
use Rattle.fixed_fit.specs.declared.reader.Reader.{Reader}
use Rattle.fixed_fit.specs.declared.serving.Within.{Within}

-- `p`, `e` and `w` are what is kept of these lines
pub record AreKept (r : Radix) (a : Asked) (list : List (List ℕ)) (p : Progress) (e : GreatestErrors)
    (w : Within) : Type 0 where
  pub width : IsWidth a.width
  pub progress : HasProgress a.width list p
  pub radix : p.radix ≡ r
  pub fractions : p.fractions ≡ a.fractions
  pub errors : p.fault ≡ None → HasGreatestErrors r (max p.plain.count p.signed.count) (entries_from 1 list) e
  pub is_bounded : w.is_bounded ≡ a.is_bounded
  pub within : a.is_bounded ≡ true → p.fault ≡ None → AreServed r a list w

-- the reader has what is kept of these lines
abbrev pub HasLines : Radix → Asked → List (List ℕ) → Reader → Type 0
HasLines r a list reader = AreKept r a list reader.progress reader.errors reader.within

-- the reader has what is kept of these bytes, whose lines have this layout
pub record HasRead (r : Radix) (a : Asked) (l : Option LineLayout) (whole : List ℕ) (reader : Reader) : Type 0 where
  pub layout : reader.layout ≡ l
  pub line : reader.line.items ≡ unended whole
  pub lines : HasLines r a (map (laid l) (ended_lines whole)) reader

-- the reader has what is kept of some bytes
abbrev pub HasSomeRead : Reader → Type 0
HasSomeRead reader = (r : Radix) × (a : Asked) × (l : Option LineLayout) × (whole : List ℕ)
    × HasRead r a l whole reader
