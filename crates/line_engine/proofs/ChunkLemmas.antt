-- How the next bytes of an input change the lines of the bytes before them.
use Rattle.std.proofs.Common.{◌≡◌, ℕ, zero, suc, ◌+◌, ◌-◌, ◌<◌, ◌≤◌, min, true, false, Bool, eqb, List, [], ◌∷◌, ◌++◌, length, take, drop, get_or, sym, ap, ◌∙◌, refl, arith, append_assoc, append-nil, ⊎_elim}
use Rattle.std.proofs.lemmas.Grind.{common_steps}
use Rattle.std.proofs.lemmas.List.{take-append-drop, drop_more, take_rest, take_all, length-take, get_or-take, take-take}
use Rattle.std.proofs.lemmas.Bool.{cases_lt}
use Rattle.std.proofs.Math.Seq.{take-append-add}
use Rattle.memchr.specs.Find.{NoneBefore, Nowhere, Passes, is_byte}
use Rattle.line_engine.specs.Lines.{ended_lines, unended, last_line}
use Rattle.line_engine.specs.Inner.Progress.{IsKept}
use Rattle.line_engine.proofs.LineLemmas.{ended_lines-append, unended-append, ended_lines-unended, unended_none, ended_lines_at, unended_at, ended_lines_without, ended_lines_both}

pub ten : (b : ℕ) → eqb b 10 ≡ true → b ≡ 10
ten b is = grind (arith, common_steps)

-- the first n bytes of two lists need only the first n bytes of the first list
pub take_kept : (n : ℕ) (xs ys : List ℕ) → take n (take n xs ++ ys) ≡ take n (xs ++ ys)
take_kept zero xs ys = refl
take_kept (suc n) [] ys = refl
take_kept (suc n) (x ∷ xs) ys = ap (λ l. x ∷ l) (take_kept n xs ys)

-- the lines of bytes that are followed by a piece of a line and its newline
pub ended_lines_line : (bytes part more : List ℕ) → ended_lines part ≡ [] → ended_lines (bytes ++ (part ++ 10 ∷ more)) ≡ ended_lines bytes ++ (unended bytes ++ part) ∷ ended_lines more
ended_lines_line bytes part more quiet =
    let none : ended_lines (unended bytes ++ part) ≡ [] = ended_lines_both (unended bytes) part (ended_lines-unended bytes) quiet in
    ended_lines-append bytes (part ++ 10 ∷ more)
    ∙ ap (λ l. ended_lines bytes ++ ended_lines l) (sym (append_assoc (unended bytes) part (10 ∷ more)))
    ∙ ap (λ l. ended_lines bytes ++ l) (ended_lines_at (unended bytes ++ part) more none)

pub unended_line : (bytes part more : List ℕ) → ended_lines part ≡ [] → unended (bytes ++ (part ++ 10 ∷ more)) ≡ unended more
unended_line bytes part more quiet =
    let none : ended_lines (unended bytes ++ part) ≡ [] = ended_lines_both (unended bytes) part (ended_lines-unended bytes) quiet in
    unended-append bytes (part ++ 10 ∷ more)
    ∙ ap unended (sym (append_assoc (unended bytes) part (10 ∷ more)))
    ∙ unended_at (unended bytes ++ part) more none

-- the lines of bytes that are followed by a piece in which no line ends
pub ended_lines_quiet : (bytes part : List ℕ) → ended_lines part ≡ [] → ended_lines (bytes ++ part) ≡ ended_lines bytes
ended_lines_quiet bytes part quiet =
    let none : ended_lines (unended bytes ++ part) ≡ [] = ended_lines_both (unended bytes) part (ended_lines-unended bytes) quiet in
    ended_lines-append bytes part ∙ ap (λ l. ended_lines bytes ++ l) none ∙ append-nil (ended_lines bytes)

pub unended_quiet : (bytes part : List ℕ) → ended_lines part ≡ [] → unended (bytes ++ part) ≡ unended bytes ++ part
unended_quiet bytes part quiet =
    unended-append bytes part ∙ unended_none (unended bytes ++ part) (ended_lines_both (unended bytes) part (ended_lines-unended bytes) quiet)

-- nothing is kept of an empty line
pub nothing_kept : (n : ℕ) → ◌≡◌ {A = List ℕ} (take n []) []
nothing_kept zero = refl
nothing_kept (suc n) = refl

-- the kept bytes of a line are empty only if the line is
pub none_kept : (n : ℕ) (whole : List ℕ) → 0 < n → [] ≡ take n whole → whole ≡ []
none_kept zero whole some none = absurd (omega arith)
none_kept (suc n) [] some none = refl
none_kept (suc n) (b ∷ whole) some none = let no : ⊥ = cc in absurd no

-- the first n unended bytes are the kept bytes of the line
pub kept_unended : (n : ℕ) (bytes line : List ℕ) → line ≡ take n (unended bytes) → IsKept n (unended bytes) line
kept_unended n bytes line is = record { quiet = ended_lines-unended bytes; prefix = is }

-- a part after a line without kept bytes is the whole line
pub whole_part : (n : ℕ) (whole kept part : List ℕ) → 0 < n → IsKept n whole kept → kept ≡ [] → part ≡ whole ++ part
whole_part n whole kept part some is none = ap (λ l. l ++ part) (sym (none_kept n whole some (sym none ∙ is.prefix)))

-- a part after kept bytes is kept after them
pub part_kept : (n : ℕ) (whole kept part appended slice : List ℕ) → IsKept n whole kept → appended ≡ take n (kept ++ part) → slice ≡ appended → slice ≡ take n (whole ++ part)
part_kept n whole kept part appended slice is more same = same ∙ more ∙ ap (λ l. take n (l ++ part)) is.prefix ∙ take_kept n whole part

pub one_last : (n : ℕ) (whole kept : List ℕ) (empty : Bool) → IsKept n whole kept → (kept ≡ [] → empty ≡ true) → empty ≡ false → (whole ++ []) ∷ [] ≡ last_line whole
one_last n [] kept empty is none some = let no : empty ≡ true = none (is.prefix ∙ nothing_kept n) in cc
one_last n (b ∷ whole) kept empty is none some = ap (λ l. l ∷ []) (append-nil (b ∷ whole))
