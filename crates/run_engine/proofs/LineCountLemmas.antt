-- The number of lines in some bytes, and the number of bytes in these lines.
use Rattle.std.proofs.Common.{◌≡◌, ℕ, suc, ◌+◌, ◌≤◌, Bool, true, false, eqb, List, [], ◌∷◌, ◌++◌, length, refl, ap, ◌∙◌, arith, length-append}
use Rattle.line_engine.specs.Inner.Progress.{bytes_in}
use Rattle.line_engine.specs.Lines.{ended_lines, last_line, lines, onto_first, onto_rest, unended}
use Rattle.line_engine.proofs.Public.{bytes_in-append, ended_lines-append, ended_newline, ended_other, unended_newline, unended_other}

-- each byte is in a line, ends one, or follows the last newline
first_in : (b : ℕ) (ls : List (List ℕ)) (rest : List ℕ) → bytes_in (onto_first b ls) + length (onto_first b ls) + length (onto_rest b ls rest) ≡ suc (bytes_in ls + length ls + length rest)
first_in b [] rest = omega arith
first_in b (line ∷ ls) rest = omega arith

bytes_by : (b : ℕ) (bytes : List ℕ) (t : Bool) → eqb b 10 ≡ t → bytes_in (ended_lines bytes) + length (ended_lines bytes) + length (unended bytes) ≡ length bytes
    → bytes_in (ended_lines (b ∷ bytes)) + length (ended_lines (b ∷ bytes)) + length (unended (b ∷ bytes)) ≡ suc (length bytes)
bytes_by b bytes true is later = rw (ended_newline b bytes is, unended_newline b bytes is) (omega arith)
bytes_by b bytes false is later = rw (ended_other b bytes is, unended_other b bytes is) (first_in b (ended_lines bytes) (unended bytes) ∙ ap suc later)

bytes_of_lines : (bytes : List ℕ) → bytes_in (ended_lines bytes) + length (ended_lines bytes) + length (unended bytes) ≡ length bytes
bytes_of_lines [] = refl
bytes_of_lines (b ∷ bytes) = bytes_by b bytes (eqb b 10) refl (bytes_of_lines bytes)

last_bytes : (rest : List ℕ) → bytes_in (last_line rest) ≡ length rest
last_bytes [] = refl
last_bytes (b ∷ rest) = omega arith

-- the lines that ended in the first bytes are at most as many as all lines, and have at most as many bytes
pub ended_within : (used more : List ℕ) → (bytes_in (ended_lines used) ≤ length (used ++ more)) × (length (ended_lines used) ≤ length (lines (used ++ more)))
ended_within used more =
    let e = ap length (ended_lines-append used more) ∙ length-append (ended_lines used) (ended_lines (unended used ++ more)) in (
      omega (arith, bytes_of_lines used, length-append used more),
      omega (arith, e, length-append (ended_lines (used ++ more)) (last_line (unended (used ++ more)))),
    )

pub lines_within : (bytes : List ℕ) → bytes_in (lines bytes) ≤ length bytes
lines_within bytes = omega (arith, bytes_in-append (ended_lines bytes) (last_line (unended bytes)), bytes_of_lines bytes, last_bytes (unended bytes))
