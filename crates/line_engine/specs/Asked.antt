-- What the reads of a source have requested.
use Rattle.std.specs.Prelude.{◌≡◌, ℕ, ◌+◌, ◌≤◌, max, Option, Some, None, Result, Ok, Err}

-- `given` counts the bytes that reads have given; `furthest` is the furthest byte that a read requested (the bytes
-- given before it plus its buffer's length); `longest` is the length of the longest buffer
pub record Asked : Type 0 where
  pub given : ℕ
  pub furthest : ℕ
  pub longest : ℕ

-- before the first read
abbrev pub nothing_asked : Asked
nothing_asked = record { given = 0; furthest = 0; longest = 0 }

-- after one more read, into a buffer of `room` bytes, that gave `n` bytes
abbrev pub one_more : Asked → ℕ → ℕ → Asked
one_more asked room n = record {
  given = asked.given + n;
  furthest = max asked.furthest (asked.given + room);
  longest = max asked.longest room;
}

-- how many bytes a read with this result gave
abbrev pub count_given : {E : Type 0} → Result ℕ E → ℕ
count_given (Ok n) = n
count_given (Err _) = 0

-- a read into a buffer of `room` bytes was added to the record of requests, if the source exposes one
abbrev pub HasAsked : {E : Type 0} → Option Asked → Option Asked → ℕ → Result ℕ E → Type 0
HasAsked None new room result = new ≡ None
HasAsked (Some asked) new room result = new ≡ Some (one_more asked room (count_given result))

-- the length of the longest buffer that a run reads into
abbrev pub longest_chunk : ℕ
longest_chunk = 4096

-- as far as the two maxima show, no read since `old` requested a byte more than `limit` + 1 bytes after those given
-- before, and none requested more than a chunk
pub record IsAskedWithin (limit : ℕ) (old new : Asked) : Type 0 where
  pub furthest : new.furthest ≤ max old.furthest (old.given + (limit + 1))
  pub longest : new.longest ≤ max old.longest longest_chunk

-- the bound on reads, if the source exposes what they requested
abbrev pub AskedWithin : ℕ → Option Asked → Option Asked → Type 0
AskedWithin limit None new = new ≡ None
AskedWithin limit (Some old) None = ⊥
AskedWithin limit (Some old) (Some new) = IsAskedWithin limit old new
