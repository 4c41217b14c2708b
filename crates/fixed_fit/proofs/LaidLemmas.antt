-- The lines of a list that is laid out are the numerals of its input's lines.
use Rattle.std.proofs.Common.{◌≡◌, ℕ, zero, suc, Bool, true, false, List, [], ◌∷◌, ◌++◌, Option, None, Some, map, refl, ap, ◌∙◌, take, drop, length}
use Rattle.std.specs.Prelude.{◌==◌, ◌-◌, codes, if◌then◌else◌}
use Rattle.std.specs.Char.{is_ascii_whitespace}
use Rattle.std.specs.List.{prefix_len, suffix_len}
use Rattle.line_engine.proofs.Public.{ended_lines_at, unended_at}
use Rattle.line_engine.specs.Lines.{ended_lines, last_line, lines, onto_first, onto_rest, unended}
use Rattle.fixed_command.specs.LaidList.{joined_lines, laid, laid_out, numeral_of}
use Rattle.fixed_command.specs.Layout.{LineLayout, after_blanks, is_skipped, trimmed, without_blanks}

-- bytes without a newline
abbrev IsQuiet : List ℕ → Type 0
IsQuiet xs = ended_lines xs ≡ []

abbrev AreQuiet : List (List ℕ) → Type 0
AreQuiet [] = Unit {0}
AreQuiet (x ∷ xs) = IsQuiet x × AreQuiet xs

-- no lines have no bytes before the first of them
onto_none : (b : ℕ) (xs : List (List ℕ)) → onto_first b xs ≡ [] → xs ≡ []
onto_none b [] e = refl
onto_none b (x ∷ xs) e = absurd cc

quiet_head : (c : Bool) (b : ℕ) (xs : List (List ℕ)) → (if c then [] ∷ xs else onto_first b xs) ≡ [] → (c ≡ false) × (xs ≡ [])
quiet_head true b xs e = absurd cc
quiet_head false b xs e = (refl, onto_none b xs e)

quiet_cons : (c : Bool) (b : ℕ) (xs : List (List ℕ)) → c ≡ false → xs ≡ [] → (if c then [] ∷ xs else onto_first b xs) ≡ []
quiet_cons c b xs e none = ap (λ d. if d then [] ∷ xs else onto_first b xs) e ∙ ap (onto_first b) none

quiet_drop : (n : ℕ) (xs : List ℕ) → IsQuiet xs → IsQuiet (drop n xs)
quiet_drop zero [] q = q
quiet_drop zero (b ∷ xs) q = q
quiet_drop (suc n) [] q = q
quiet_drop (suc n) (b ∷ xs) q = quiet_drop n xs (quiet_head (b == 10) b (ended_lines xs) q).1

quiet_take : (n : ℕ) (xs : List ℕ) → IsQuiet xs → IsQuiet (take n xs)
quiet_take zero [] q = refl
quiet_take zero (b ∷ xs) q = refl
quiet_take (suc n) [] q = q
quiet_take (suc n) (b ∷ xs) q =
    let h = quiet_head (b == 10) b (ended_lines xs) q in
    quiet_cons (b == 10) b (ended_lines (take n xs)) h.0 (quiet_take n xs h.1)

-- the numeral of a line without a newline has none
quiet_bare : (c : Bool) (line : List ℕ) → IsQuiet line → IsQuiet (if c then trimmed line else line)
quiet_bare true line q = quiet_take (length (after_blanks line) - suffix_len is_ascii_whitespace (after_blanks line)) (after_blanks line) (quiet_drop (prefix_len is_ascii_whitespace line) line q)
quiet_bare false line q = q

quiet_numeral : (l : LineLayout) (c : Bool) (line : List ℕ) → IsQuiet line → IsQuiet (if c then codes "0" else without_blanks l line)
quiet_numeral l true line q = refl
quiet_numeral l false line q = quiet_bare l.is_trimmed line q

quiet_laid : (l : LineLayout) (xs : List (List ℕ)) → AreQuiet xs → AreQuiet (map (numeral_of l) xs)
quiet_laid l [] q = tt
quiet_laid l (x ∷ xs) q = (quiet_numeral l (is_skipped l x) x q.0, quiet_laid l xs q.1)

-- the lines of an input have none
quiet_onto : (b : ℕ) (xs : List (List ℕ)) → (b == 10) ≡ false → AreQuiet xs → AreQuiet (onto_first b xs)
quiet_onto b [] e q = tt
quiet_onto b (x ∷ xs) e q = (quiet_cons (b == 10) b (ended_lines x) e q.0, q.1)

quiet_ended : (c : Bool) (b : ℕ) (xs : List (List ℕ)) → (c ≡ false → (b == 10) ≡ false) → AreQuiet xs → AreQuiet (if c then [] ∷ xs else onto_first b xs)
quiet_ended true b xs e q = (refl, q)
quiet_ended false b xs e q = quiet_onto b xs (e refl) q

ended_quiet : (bytes : List ℕ) → AreQuiet (ended_lines bytes)
ended_quiet [] = tt
ended_quiet (b ∷ bytes) = quiet_ended (b == 10) b (ended_lines bytes) (λ e. e) (ended_quiet bytes)

rest_quiet : (b : ℕ) (xs : List (List ℕ)) (rest : List ℕ) → (b == 10) ≡ false → (xs ≡ [] → IsQuiet rest) → IsQuiet rest → IsQuiet (onto_rest b xs rest)
rest_quiet b [] rest e q r = quiet_cons (b == 10) b (ended_lines rest) e r
rest_quiet b (x ∷ xs) rest e q r = r

unended_by : (c : Bool) (b : ℕ) (xs : List (List ℕ)) (rest : List ℕ) → (c ≡ false → (b == 10) ≡ false) → IsQuiet rest → IsQuiet (if c then rest else onto_rest b xs rest)
unended_by true b xs rest e r = r
unended_by false b xs rest e r = rest_quiet b xs rest (e refl) (λ x. r) r

unended_quiet : (bytes : List ℕ) → IsQuiet (unended bytes)
unended_quiet [] = refl
unended_quiet (b ∷ bytes) = unended_by (b == 10) b (ended_lines bytes) (unended bytes) (λ e. e) (unended_quiet bytes)

last_quiet : (rest : List ℕ) → IsQuiet rest → AreQuiet (last_line rest)
last_quiet [] q = tt
last_quiet (b ∷ bytes) q = (q, tt)

quiet_append : (xs ys : List (List ℕ)) → AreQuiet xs → AreQuiet ys → AreQuiet (xs ++ ys)
quiet_append [] ys p q = q
quiet_append (x ∷ xs) ys p q = (p.0, quiet_append xs ys p.1 q)

lines_quiet : (input : List ℕ) → AreQuiet (lines input)
lines_quiet input = quiet_append (ended_lines input) (last_line (unended input)) (ended_quiet input) (last_quiet (unended input) (unended_quiet input))

-- lines that are joined are cut again
joined : (xs : List (List ℕ)) → AreQuiet xs → lines (joined_lines xs) ≡ xs
joined [] q = refl
joined (x ∷ xs) q =
    let rest = joined_lines xs in
    ap (λ u. u ++ last_line (unended (x ++ 10 ∷ rest))) (ended_lines_at x rest q.0) ∙ ap (λ u. (x ∷ ended_lines rest) ++ last_line u) (unended_at x rest q.0) ∙ ap (λ u. x ∷ u) (joined xs q.1)

same_lines : (xs : List (List ℕ)) → xs ≡ map (laid None) xs
same_lines [] = refl
same_lines (x ∷ xs) = ap (λ u. x ∷ u) (same_lines xs)

pub laid_lines : (l : Option LineLayout) (input : List ℕ) → lines (laid_out l input) ≡ map (laid l) (lines input)
laid_lines None input = same_lines (lines input)
laid_lines (Some l) input = joined (map (numeral_of l) (lines input)) (quiet_laid l (lines input) (lines_quiet input))
