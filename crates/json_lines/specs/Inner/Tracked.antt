-- What is kept of the open objects and arrays.
use Rattle.std.specs.Prelude.{◌≡◌, ◌==◌, ◌<◌, List, [], ◌∷◌, None, if◌then◌else◌, length}
use Rattle.json_lines.specs.Path.{PathStep}
use Rattle.json_lines.specs.Places.{Frame, element, object, on_path}
use Rattle.json_lines.specs.declared.place.Off.{Off}
use Rattle.json_lines.specs.declared.place.Off.TheVariants.{Array, Object}
use Rattle.json_lines.specs.declared.place.Place.{Place}

-- the outermost of these that does not stand as the path leads
abbrev pub off_path : List PathStep → List Frame → Frame
off_path steps [] = object None
off_path steps (frame ∷ frames) = if on_path steps frames == length frames then frame else off_path steps frames

-- what is kept of it
abbrev pub IsOff : Frame → Off → Type 0
IsOff (object name) Object = Unit {0}
IsOff (object name) (Array number) = ⊥
IsOff (element n) Object = ⊥
IsOff (element n) (Array number) = number ≡ n

-- the place is that in these
pub record Tracks (steps : List PathStep) (frames : List Frame) (place : Place) : Type 0 where
  pub depth : place.depth ≡ length frames
  pub on : place.on ≡ on_path steps frames
  pub off : on_path steps frames < length frames → IsOff (off_path steps frames) place.off
