-- The first line of a text, and the lines after it.
use Rattle.std.proofs.Common.{◌≡◌, ℕ, ◌+◌, ◌-◌, ◌<◌, length, take, drop, eqb, true, List, [], ◌∷◌, ◌++◌, get_or, refl, sym, ap, ◌∙◌, arith, Contains}
use Rattle.std.proofs.lemmas.Grind.{common_steps}
use Rattle.std.proofs.lemmas.List.{take-append-drop, drop_more, get_or_default, get_or-take, length-take, take_rest}
use Rattle.memchr.specs.Find.{NoneBefore, Nowhere, Passes, is_byte}
use Rattle.line_engine.specs.Lines.{ended_lines, last_line, lines, unended}
use Rattle.line_engine.proofs.Public.{ended_lines_at, ended_lines_without, unended_at, unended_none}

newline_is : (b : ℕ) → eqb b 10 ≡ true → b ≡ 10
newline_is b is = grind (arith, common_steps)

-- ---- bytes without a newline
-- before a newline
pub lines_at : (line rest : List ℕ) → ended_lines line ≡ [] → lines (line ++ 10 ∷ rest) ≡ line ∷ lines rest
lines_at line rest quiet =
    ap (λ l. l ++ last_line (unended (line ++ 10 ∷ rest))) (ended_lines_at line rest quiet)
    ∙ ap (λ u. (line ∷ ended_lines rest) ++ last_line u) (unended_at line rest quiet)

last_is : (text : List ℕ) → (text ≡ [] → ⊥) → last_line text ≡ text ∷ []
last_is [] some = absurd (some refl)
last_is (b ∷ bytes) some = refl

-- alone, if they are not empty
pub lines_alone : (text : List ℕ) → (text ≡ [] → ⊥) → ended_lines text ≡ [] → lines text ≡ text ∷ []
lines_alone text some quiet =
    ap (λ l. l ++ last_line (unended text)) quiet ∙ (ap last_line (unended_none text quiet) ∙ last_is text some)

-- no line ends in a line that holds no newline
pub quiet_line : (line : List ℕ) → (Contains line 10 → ⊥) → ended_lines line ≡ []
quiet_line line never = ended_lines_without line (λ k below is. never (k, below, same k below is))
  where
    same : (k : ℕ) → k < length line → eqb (get_or line k 0) 10 ≡ true → get_or line k 10 ≡ 10
    same k below is = get_or_default line k 10 0 below ∙ newline_is (get_or line k 0) is

-- ---- the result of a search for a newline
quiet_before : (text : List ℕ) (end : ℕ) → NoneBefore (Passes (is_byte 10) text) 0 (length text) end → ended_lines (take end text) ≡ []
quiet_before text end first = ended_lines_without (take end text) (λ k below is. first.before k (omega arith) (before k below) (place k below is))
  where
    before : (k : ℕ) → k < length (take end text) → k < end
    before k below = omega (arith, length-take end text)

    place : (k : ℕ) → k < length (take end text) → eqb (get_or (take end text) k 0) 10 ≡ true → eqb (get_or text k 0) 10 ≡ true
    place k below is = ap (λ b. eqb b 10) (sym (get_or-take end text k 0 (before k below))) ∙ is

pub lines_cut : (text : List ℕ) (end : ℕ) → NoneBefore (Passes (is_byte 10) text) 0 (length text) end → Passes (is_byte 10) text end → lines text ≡ take end text ∷ lines (take (length text - (end + 1)) (drop (end + 1) text))
lines_cut text end first here =
    let cut : text ≡ take end text ++ 10 ∷ drop (end + 1) text = sym (take-append-drop end text) ∙ ap (λ l. take end text ++ l) (drop_more text end 0 first.high ∙ ap (λ b. b ∷ drop (end + 1) text) (newline_is (get_or text end 0) here)) in
    ap lines cut ∙ (lines_at (take end text) (drop (end + 1) text) (quiet_before text end first) ∙ ap (λ r. take end text ∷ lines r) (sym (take_rest text (end + 1))))

nothing_after : (xs : List ℕ) → take (length xs - length xs) (drop (length xs) xs) ≡ []
nothing_after xs = let none : length xs - length xs ≡ 0 = omega arith in ap (λ n. take n (drop (length xs) xs)) none

pub lines_uncut : (text : List ℕ) → (text ≡ [] → ⊥) → Nowhere (Passes (is_byte 10) text) 0 (length text) → lines text ≡ text ∷ lines (take (length text - length text) (drop (length text) text))
lines_uncut text some none =
    lines_alone text some (ended_lines_without text (λ k below is. none k (omega arith) below is)) ∙ ap (λ r. text ∷ lines r) (sym (nothing_after text))
