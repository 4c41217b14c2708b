-- The spaces among the first bytes of a line.
use Rattle.std.specs.Prelude.{◌≡◌, ◌+◌, ◌<◌, ◌≤◌, ◌==◌, ℕ, List, length, map, take, drop}
use lib.Lanes.{mask_l}
use Rattle.fixed_respell.specs.LineWords.{space}
use Rattle.fixed_respell.specs.Split.{IsSplit}

-- bit i of the mask says whether byte i is a space, for the first bytes, at most 32
pub record HasSpaces (line : List ℕ) (mask : ℕ) : Type 0 where
  pub count : ℕ
  pub within : count ≤ length line
  pub few : count ≤ 32
  pub mask_is : mask ≡ mask_l (map (λ x. x == space) (take count line))

-- the first space is at index `place`, and `rest` is the mask of the bytes after it
pub record IsFirstSpace (line : List ℕ) (mask place rest : ℕ) : Type 0 where
  pub within : place < length line
  pub few : place < 32
  pub split : IsSplit space line (take place line) (drop (place + 1) line)
  pub after : HasSpaces (drop (place + 1) line) rest
