-- The text of a path: a point, which is the whole value of a line, and the steps from there.
use Rattle.std.specs.Prelude.{◌==◌, ◌&&◌, ◌||◌, ◌+◌, ◌*◌, ◌-◌, ℕ, zero, suc, Bool, not, List, [], ◌∷◌}
use Rattle.std.specs.Prelude.{None, Option, Some, drop, get_or, if◌then◌else◌, length, nat_le, nat_lt}
use Rattle.std.specs.Prelude.{option_and_then, option_map, take}
use Rattle.std.specs.Char.{is_ascii_digit}
use Rattle.std.specs.List.{prefix_len}
use Rattle.json_lines.specs.declared.path.Step.{Step}
use Rattle.json_lines.specs.declared.path.Step.TheVariants.{Element, Every, Member}

-- a member by its name, an element by its number, or every element
pub data PathStep : Type 0 where
  member : List ℕ → PathStep
  element : ℕ → PathStep
  every : PathStep

abbrev pub step_of : Step → PathStep
step_of (Member name) = member name.now
step_of (Element number) = element number
step_of Every = every

-- a byte of a name without quotes: none of . " [ ]
abbrev pub is_name_byte : ℕ → Bool
is_name_byte b = not (((b == 46) || (b == 34)) || ((b == 91) || (b == 93)))

abbrev pub is_no_quote : ℕ → Bool
is_no_quote b = not (b == 34)

-- the number that these digits spell, after others that spell `number`
unfoldable pub digits_number : ℕ → List ℕ → ℕ
digits_number number [] = number
digits_number number (b ∷ digits) = digits_number (number * 10 + (b - 48)) digits

-- ---- the first step, and the text after it
-- a name in quotes, after the first of them
abbrev pub quoted_step : List ℕ → Option (PathStep × List ℕ)
quoted_step text = if nat_lt (prefix_len is_no_quote text) (length text)
    then Some (member (take (prefix_len is_no_quote text) text), drop (prefix_len is_no_quote text + 1) text) else None

-- a name without quotes, of at least one byte
abbrev pub plain_step : List ℕ → Option (PathStep × List ℕ)
plain_step text = if prefix_len is_name_byte text == 0 then None
    else Some (member (take (prefix_len is_name_byte text) text), drop (prefix_len is_name_byte text) text)

-- a name after its point
abbrev pub name_step : List ℕ → Option (PathStep × List ℕ)
name_step text = if get_or text 0 0 == 34 then quoted_step (drop 1 text) else plain_step text

-- no digits, or at most eight, and a closing bracket, after the one that opens
abbrev pub index_step : List ℕ → Option (PathStep × List ℕ)
index_step text = if nat_le (prefix_len is_ascii_digit text) 8 && (get_or text (prefix_len is_ascii_digit text) 0 == 93)
    then Some (
      (if prefix_len is_ascii_digit text == 0 then every
          else element (digits_number 0 (take (prefix_len is_ascii_digit text) text))),
      drop (prefix_len is_ascii_digit text + 1) text,
    ) else None

abbrev pub first_step : List ℕ → Option (PathStep × List ℕ)
first_step [] = None
first_step (b ∷ text) = if b == 46 then name_step text else (if b == 91 then index_step text else None)

-- the steps of a text that has at most n
unfoldable pub steps_of : ℕ → List ℕ → Option (List PathStep)
steps_of n [] = Some []
steps_of zero (b ∷ text) = None
steps_of (suc n) (b ∷ text) =
    option_and_then (λ first. option_map (λ steps. first.0 ∷ steps) (steps_of n first.1)) (first_step (b ∷ text))

-- the steps of a path: none after a point alone; a bracket may follow the point
abbrev pub path_steps : List ℕ → Option (List PathStep)
path_steps [] = None
path_steps (b ∷ text) = if not (b == 46) then None else (if length text == 0 then Some []
    else (if get_or text 0 0 == 91 then steps_of (length text) text else steps_of (length text + 1) (b ∷ text)))
