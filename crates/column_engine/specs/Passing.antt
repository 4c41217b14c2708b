-- How far the first lines of a text have been passed over.
use Rattle.std.specs.Prelude.{◌≡◌, ◌+◌, ℕ, List, []}
use Rattle.std.specs.declared.option.Option.{Option}
use Rattle.std.specs.Io.KnownBytes.{Consumes}
use Rattle.line_engine.specs.Inner.Progress.{Flushes}
use Rattle.column_engine.specs.Skip.{AreWhole, newlines}

-- the bytes taken were written, or gathered if their line has not ended; `lines` of the `count` lines are left
pub record IsPassing (count lines : ℕ) (held : List ℕ) (left left' written written' : Option (List ℕ)) : Type 0 where
  pub bytes : List ℕ
  pub taken : Consumes left left' bytes
  pub gathered : Flushes [] bytes held written written'
  pub plain : newlines held ≡ 0
  pub as_many : newlines bytes + lines ≡ count
  pub whole : lines ≡ 0 → AreWhole bytes
