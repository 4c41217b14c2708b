-- The object of JSON of a report on standard error.
use Rattle.std.specs.Prelude.{ℕ, ◌+◌, List, ◌++◌, if◌then◌else◌, length, nat_lt}

-- the object with a text after it, if there is room for this, a brace and a newline; else the object
unfoldable pub added : List ℕ → List ℕ → List ℕ
added object text = if nat_lt (length object + (length text + 1)) 40960 then object ++ text else object
