-- The lines of several files.
use Rattle.std.proofs.Common.{◌≡◌, ◌==◌, ◌+◌, ◌-◌, ◌<◌, ℕ, Bool, List, [], ◌∷◌, arith, cond, get_or, length, length-append, refl, true, false, if◌then◌else◌}
use Rattle.std.proofs.lemmas.List.Recursion.{is_count_by}
use Rattle.fixed_io.specs.Report.{newlines_of}
use Rattle.line_engine.specs.Lines.{ended_lines, last_line, lines, onto_first, onto_rest, unended}
use Rattle.fixed.specs.Products.{ends_line}

length_onto : (b : ℕ) (ls : List (List ℕ)) → length (onto_first b ls) ≡ length ls
length_onto b [] = refl
length_onto b (l ∷ ls) = refl

ended_step : (is : Bool) (b : ℕ) (ls : List (List ℕ)) → length (if is then [] ∷ ls else onto_first b ls) ≡ cond is (1 + length ls) (length ls)
ended_step true b ls = grind arith
ended_step false b ls = length_onto b ls

newlines_are : (bytes : List ℕ) → length (ended_lines bytes) ≡ newlines_of bytes
newlines_are bytes = is_count_by (λ bs. length (ended_lines bs)) (λ b. b == 10) refl (λ b bs. ended_step (b == 10) b (ended_lines bs)) bytes

abbrev pub open_lines : List ℕ → ℕ
open_lines bytes = if ends_line bytes then 0 else 1

is_open : (is : Bool) (c : ℕ) (ls : List (List ℕ)) → (if is then [] ∷ ls else onto_first c ls) ≡ [] → (is ≡ false) × (ls ≡ [])
is_open true c ls e = grind arith
is_open false c [] e = (refl, refl)
is_open false c (l ∷ ls) e = grind arith

stays_open : (c : ℕ) (bytes : List ℕ) → ended_lines (c ∷ bytes) ≡ [] → ends_line (c ∷ bytes) ≡ false
stays_open c [] e = (is_open (c == 10) c [] e).0
stays_open c (d ∷ bytes) e = stays_open d bytes (is_open (c == 10) c (ended_lines (d ∷ bytes)) e).1

last_of_one : (is : Bool) (b : ℕ) → length (last_line (if is then [] else b ∷ [])) ≡ (if is then 0 else 1)
last_of_one true b = refl
last_of_one false b = refl

last_step : (is : Bool) (b c : ℕ) (bytes : List ℕ) (ls : List (List ℕ)) → ended_lines (c ∷ bytes) ≡ ls → length (last_line (unended (c ∷ bytes))) ≡ open_lines (c ∷ bytes)
    → length (last_line (if is then unended (c ∷ bytes) else onto_rest b ls (unended (c ∷ bytes)))) ≡ open_lines (c ∷ bytes)
last_step true b c bytes ls e same = same
last_step false b c bytes [] e same = rw (stays_open c bytes e) refl
last_step false b c bytes (l ∷ ls) e same = same

last_are : (bytes : List ℕ) → length (last_line (unended bytes)) ≡ open_lines bytes
last_are [] = refl
last_are (b ∷ []) = last_of_one (b == 10) b
last_are (b ∷ c ∷ bytes) = last_step (b == 10) b c bytes (ended_lines (c ∷ bytes)) refl (last_are (c ∷ bytes))

-- a text has a line for each newline, and one more if bytes follow the last of them
pub lines_are : (bytes : List ℕ) → length (lines bytes) ≡ newlines_of bytes + open_lines bytes
lines_are bytes = grind (arith, length-append (ended_lines bytes) (last_line (unended bytes)), newlines_are bytes, last_are bytes)

-- a text with bytes ends with a newline if its last byte is one
pub last_ends : (b : ℕ) (bytes : List ℕ) → (get_or (b ∷ bytes) (length bytes) 0 == 10) ≡ ends_line (b ∷ bytes)
last_ends b [] = refl
last_ends b (c ∷ bytes) = grind (arith, last_ends c bytes)

pub ends_by_last : (bytes : List ℕ) → 0 < length bytes → (get_or bytes (length bytes - 1) 0 == 10) ≡ ends_line bytes
ends_by_last [] some = grind arith
ends_by_last (b ∷ bytes) some = grind (arith, last_ends b bytes)
