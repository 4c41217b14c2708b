-- The names of policies and modes, by their tables.
use Rattle.std.proofs.Common.{◌≡◌, ℕ, zero, suc, IsTrue, ◌%◌, ◌≤◌, ◌++◌, List, [], ◌∷◌, length, get_or, take, drop, codes, refl, sym, ap, ◌∙◌, ◌+◌, ◌-◌, ◌<◌, arith, length-take, length-drop}
use Rattle.std.proofs.lemmas.List.{drop-drop, take-append-drop}
use Rattle.std.specs.Simd.Lanes.{number_l}
use Rattle.std.specs.Int.Digits.{AllBelowBase}
use Rattle.fixed_respell.proofs.KeyLemmas.{same_bytes}
use Rattle.fixed_respell.specs.Inner.Places.{HasBytes, HasEnds, mode_of_place, policy_of_place}
use Rattle.fixed_respell.specs.Words.{is_line_mode, is_line_policy, mode_text, policy_text}

abbrev pub name_counts : List ℕ
name_counts = 8 ∷ 0 ∷ 10 ∷ 7 ∷ []

abbrev pub name_starts : List ℕ
name_starts = 1885434487 ∷ 0 ∷ 1970561395 ∷ 1667590243 ∷ []

abbrev pub name_middles : List ℕ
name_middles = 26992 ∷ 0 ∷ 24946 ∷ 25963 ∷ []

abbrev pub name_ends : List ℕ
name_ends = 1735289200 ∷ 0 ∷ 1735289204 ∷ 1684368227 ∷ []

count_most : (p : ℕ) → get_or name_counts p 0 ≤ 10
count_most zero = omega arith
count_most (suc zero) = omega arith
count_most (suc (suc zero)) = omega arith
count_most (suc (suc (suc zero))) = omega arith
count_most (suc (suc (suc (suc p)))) = omega arith

-- a line can name each policy of the table
pub line_policy : (p : ℕ) → IsTrue (is_line_policy (policy_of_place p))
line_policy zero = refl
line_policy (suc zero) = refl
line_policy (suc (suc zero)) = refl
line_policy (suc (suc (suc p))) = refl

-- a name with the bytes of an entry is the text of its policy
pub name_sound : (word : List ℕ) (p : ℕ) → p ≡ length word % 4 → length word ≡ get_or name_counts p 0 → AllBelowBase 256 word → HasBytes word (get_or name_starts p 0) (get_or name_middles p 0) (get_or name_ends p 0) → word ≡ policy_text (policy_of_place p)
name_sound [] p place l below is = let z : 0 ≡ get_or name_counts 0 0 = rw place at l in absurd (omega (arith, z))
name_sound (a ∷ []) p place l below is = let z : 1 ≡ get_or name_counts 1 0 = rw place at l in absurd (omega (arith, z))
name_sound (a ∷ b ∷ []) p place l below is = let z : 2 ≡ get_or name_counts 2 0 = rw place at l in absurd (omega (arith, z))
name_sound (a ∷ b ∷ c ∷ []) p place l below is = let z : 3 ≡ get_or name_counts 3 0 = rw place at l in absurd (omega (arith, z))
name_sound (a ∷ b ∷ c ∷ d ∷ []) p place l below is = let z : 4 ≡ get_or name_counts 0 0 = rw place at l in absurd (omega (arith, z))
name_sound (a ∷ b ∷ c ∷ d ∷ e ∷ []) p place l below is = let z : 5 ≡ get_or name_counts 1 0 = rw place at l in absurd (omega (arith, z))
name_sound (a ∷ b ∷ c ∷ d ∷ e ∷ f ∷ []) p place l below is = let z : 6 ≡ get_or name_counts 2 0 = rw place at l in absurd (omega (arith, z))
name_sound (a ∷ b ∷ c ∷ d ∷ e ∷ f ∷ g ∷ []) p place l below is =
    let has : HasBytes (a ∷ b ∷ c ∷ d ∷ e ∷ f ∷ g ∷ []) (get_or name_starts 3 0) (get_or name_middles 3 0) (get_or name_ends 3 0) = rw place at is in
    let start : (a ∷ b ∷ c ∷ d ∷ []) ≡ codes "chec" = same_bytes (a ∷ b ∷ c ∷ d ∷ []) (codes "chec") (below.0, (below.1.0, (below.1.1.0, (below.1.1.1.0, tt)))) (omega arith, (omega arith, (omega arith, (omega arith, tt)))) refl has.first_four in
    let end : (d ∷ e ∷ f ∷ g ∷ []) ≡ codes "cked" = same_bytes (d ∷ e ∷ f ∷ g ∷ []) (codes "cked") (below.1.1.1.0, (below.1.1.1.1.0, (below.1.1.1.1.1.0, (below.1.1.1.1.1.1.0, tt)))) (omega arith, (omega arith, (omega arith, (omega arith, tt)))) refl has.last_four in
    rw place (ap (λ l. l ++ (e ∷ f ∷ g ∷ [])) start ∙ ap (λ l. codes "chec" ++ drop 1 l) end)
name_sound (a ∷ b ∷ c ∷ d ∷ e ∷ f ∷ g ∷ h ∷ []) p place l below is =
    let has : HasBytes (a ∷ b ∷ c ∷ d ∷ e ∷ f ∷ g ∷ h ∷ []) (get_or name_starts 0 0) (get_or name_middles 0 0) (get_or name_ends 0 0) = rw place at is in
    let start : (a ∷ b ∷ c ∷ d ∷ []) ≡ codes "wrap" = same_bytes (a ∷ b ∷ c ∷ d ∷ []) (codes "wrap") (below.0, (below.1.0, (below.1.1.0, (below.1.1.1.0, tt)))) (omega arith, (omega arith, (omega arith, (omega arith, tt)))) refl has.first_four in
    let end : (e ∷ f ∷ g ∷ h ∷ []) ≡ codes "ping" = same_bytes (e ∷ f ∷ g ∷ h ∷ []) (codes "ping") (below.1.1.1.1.0, (below.1.1.1.1.1.0, (below.1.1.1.1.1.1.0, (below.1.1.1.1.1.1.1.0, tt)))) (omega arith, (omega arith, (omega arith, (omega arith, tt)))) refl has.last_four in
    rw place (ap (λ l. l ++ (e ∷ f ∷ g ∷ h ∷ [])) start ∙ ap (λ l. codes "wrap" ++ l) end)
name_sound (a ∷ b ∷ c ∷ d ∷ e ∷ f ∷ g ∷ h ∷ i ∷ []) p place l below is = let z : 9 ≡ get_or name_counts 1 0 = rw place at l in absurd (omega (arith, z))
name_sound (a ∷ b ∷ c ∷ d ∷ e ∷ f ∷ g ∷ h ∷ i ∷ j ∷ []) p place l below is =
    let has : HasBytes (a ∷ b ∷ c ∷ d ∷ e ∷ f ∷ g ∷ h ∷ i ∷ j ∷ []) (get_or name_starts 2 0) (get_or name_middles 2 0) (get_or name_ends 2 0) = rw place at is in
    let start : (a ∷ b ∷ c ∷ d ∷ []) ≡ codes "satu" = same_bytes (a ∷ b ∷ c ∷ d ∷ []) (codes "satu") (below.0, (below.1.0, (below.1.1.0, (below.1.1.1.0, tt)))) (omega arith, (omega arith, (omega arith, (omega arith, tt)))) refl has.first_four in
    let middle : (e ∷ f ∷ []) ≡ codes "ra" = same_bytes (e ∷ f ∷ []) (codes "ra") (below.1.1.1.1.0, (below.1.1.1.1.1.0, tt)) (omega arith, (omega arith, tt)) refl has.next_two in
    let end : (g ∷ h ∷ i ∷ j ∷ []) ≡ codes "ting" = same_bytes (g ∷ h ∷ i ∷ j ∷ []) (codes "ting") (below.1.1.1.1.1.1.0, (below.1.1.1.1.1.1.1.0, (below.1.1.1.1.1.1.1.1.0, (below.1.1.1.1.1.1.1.1.1.0, tt)))) (omega arith, (omega arith, (omega arith, (omega arith, tt)))) refl has.last_four in
    rw place (ap (λ l. l ++ (e ∷ f ∷ g ∷ h ∷ i ∷ j ∷ [])) start ∙ ap (λ l. codes "satu" ++ l ++ (g ∷ h ∷ i ∷ j ∷ [])) middle ∙ ap (λ l. codes "satura" ++ l) end)
name_sound (a ∷ b ∷ c ∷ d ∷ e ∷ f ∷ g ∷ h ∷ i ∷ j ∷ k ∷ rest) p place l below is = absurd (omega (arith, l, count_most p))

-- ---- modes
abbrev pub mode_counts : List ℕ
mode_counts = 4 ∷ 5 ∷ 4 ∷ 7 ∷ []

abbrev pub mode_starts : List ℕ
mode_starts = 1818846563 ∷ 1869573222 ∷ 1869768058 ∷ 1918985582 ∷ []

abbrev pub mode_ends : List ℕ
mode_ends = 1818846563 ∷ 1919905644 ∷ 1869768058 ∷ 1953719666 ∷ []

below_take : (k : ℕ) (xs : List ℕ) → AllBelowBase 256 xs → AllBelowBase 256 (take k xs)
below_take zero xs below = tt
below_take (suc k) [] below = tt
below_take (suc k) (x ∷ xs) below = (below.0, below_take k xs below.1)

below_drop : (k : ℕ) (xs : List ℕ) → AllBelowBase 256 xs → AllBelowBase 256 (drop k xs)
below_drop zero xs below = below
below_drop (suc k) [] below = tt
below_drop (suc k) (x ∷ xs) below = below_drop k xs below.1

-- four to eight bytes are determined by their first four and their last four
ends_one : (xs ys : List ℕ) (k : ℕ) → length xs ≡ 4 + k → length ys ≡ 4 + k → k ≤ 4 → AllBelowBase 256 xs → AllBelowBase 256 ys → number_l 256 (take 4 xs) ≡ number_l 256 (take 4 ys) → number_l 256 (drop k xs) ≡ number_l 256 (drop k ys) → xs ≡ ys
ends_one xs ys k l l' most below below' start end =
    let front : take 4 xs ≡ take 4 ys = same_bytes (take 4 xs) (take 4 ys) (below_take 4 xs below) (below_take 4 ys below') (omega (arith, length-take 4 xs, length-take 4 ys, l, l')) start in
    let back : drop k xs ≡ drop k ys = same_bytes (drop k xs) (drop k ys) (below_drop k xs below) (below_drop k ys below') (omega (arith, length-drop k xs, length-drop k ys, l, l')) end in
    let four : k + (4 - k) ≡ 4 = omega arith in
    let rest : drop 4 xs ≡ drop 4 ys = rw four at (sym (drop-drop (4 - k) k xs) ∙ ap (drop (4 - k)) back ∙ drop-drop (4 - k) k ys) in
    sym (take-append-drop 4 xs) ∙ rw (front, rest) (take-append-drop 4 ys)

-- a line can name each mode of the table
pub line_mode : (p : ℕ) → IsTrue (is_line_mode (mode_of_place p))
line_mode zero = refl
line_mode (suc zero) = refl
line_mode (suc (suc zero)) = refl
line_mode (suc (suc (suc p))) = refl

-- a name with the bytes of an entry is the text of its mode
pub mode_sound : (word : List ℕ) (p : ℕ) → p < 4 → length word ≡ get_or mode_counts p 0 → AllBelowBase 256 word → HasEnds word (get_or mode_starts p 0) (get_or mode_ends p 0) → word ≡ mode_text (mode_of_place p)
mode_sound word zero most l below is = ends_one word (codes "ceil") 0 l refl (omega arith) below (omega arith, (omega arith, (omega arith, (omega arith, tt)))) is.first_four (rw l at is.last_four)
mode_sound word (suc zero) most l below is = ends_one word (codes "floor") 1 l refl (omega arith) below (omega arith, (omega arith, (omega arith, (omega arith, (omega arith, tt))))) is.first_four (rw l at is.last_four)
mode_sound word (suc (suc zero)) most l below is = ends_one word (codes "zero") 0 l refl (omega arith) below (omega arith, (omega arith, (omega arith, (omega arith, tt)))) is.first_four (rw l at is.last_four)
mode_sound word (suc (suc (suc zero))) most l below is = ends_one word (codes "nearest") 3 l refl (omega arith) below (omega arith, (omega arith, (omega arith, (omega arith, (omega arith, (omega arith, (omega arith, tt))))))) is.first_four (rw l at is.last_four)
mode_sound word (suc (suc (suc (suc p)))) most l below is = absurd (omega (arith, most))
