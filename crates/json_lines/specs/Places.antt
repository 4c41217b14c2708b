-- Where a piece of a line stands, and whether that is at a path.
use Rattle.std.specs.Prelude.{◌==◌, ◌&&◌, ◌||◌, ◌+◌, ◌-◌, ◌^◌, ℕ, zero, suc, Bool, true, false, List, [], ◌∷◌}
use Rattle.std.specs.Prelude.{None, Option, Some, drop, if◌then◌else◌, length, min}
use Rattle.std.specs.Str.{bytes_eq}
use Rattle.json_lines.specs.Pieces.{begins_value, content, head, is_name}
use Rattle.json_lines.specs.Path.{PathStep, element as element_step, every, member}

-- an open object with the name of its current member, if one has come, or an open array with the number of its current
-- element, from 0
pub data Frame : Type 0 where
  object : Option (List ℕ) → Frame
  element : ℕ → Frame

-- whether a step of a path leads to the current member or element
abbrev pub matches : PathStep → Frame → Bool
matches (member name) (object None) = false
matches (member name) (object (Some written)) = bytes_eq name written
matches (member name) (element n) = false
matches (element_step number) (object name) = false
matches (element_step number) (element n) = number == n
matches every (object name) = false
matches every (element n) = true

-- the same for the step with this index
abbrev pub matches_at : List PathStep → ℕ → Frame → Bool
matches_at [] k frame = false
matches_at (step ∷ steps) zero frame = matches step frame
matches_at (step ∷ steps) (suc k) frame = matches_at steps k frame

-- how many of the open objects and arrays, from the outermost on, stand as the path leads; the innermost comes first
abbrev pub on_path : List PathStep → List Frame → ℕ
on_path steps [] = 0
on_path steps (frame ∷ frames) = if (on_path steps frames == length frames) && matches_at steps (length frames) frame
    then length frames + 1 else on_path steps frames

-- whether the path leads to here
abbrev pub at_path : List PathStep → List Frame → Bool
at_path steps frames = (length frames == length steps) && (on_path steps frames == length frames)

-- whether a piece begins a value at the path
abbrev pub is_at : List PathStep → List Frame → List ℕ → List ℕ → Bool
is_at steps frames piece rest = begins_value piece rest && at_path steps frames

-- after a comma the next element is current, counted up to the last value of `u64`; after a name its member is
abbrev pub passed : List Frame → List Frame
passed [] = []
passed (object name ∷ frames) = object name ∷ frames
passed (element n ∷ frames) = element (min (n + 1) (2 ^ 64 - 1)) ∷ frames

abbrev pub named : List ℕ → List Frame → List Frame
named name [] = []
named name (frame ∷ frames) = object (Some name) ∷ frames

-- the open objects and arrays after a piece
abbrev pub after : List Frame → List ℕ → List ℕ → List Frame
after frames piece rest =
    if is_name piece rest then named (content piece) frames
    else (if head piece == 123 then object None ∷ frames
    else (if head piece == 91 then element 0 ∷ frames
    else (if (head piece == 125) || (head piece == 93) then drop 1 frames
    else (if head piece == 44 then passed frames else frames))))
