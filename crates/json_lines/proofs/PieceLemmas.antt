-- Strings, from a byte on.
use Rattle.std.proofs.Common.{◌≡◌, ◌∙◌, ◌==◌, ◌+◌, ◌<◌, ◌≤◌, ◌∷◌, ℕ, suc, List, Bool, true, false, add-one, ap, drop, drop-cons, get_or, length, ne_eqb, refl, sym}
use Rattle.std.proofs.lemmas.List.{drop_all}
use Rattle.json_lines.specs.Pieces.{string_rest}

-- from a byte on
cut : (bytes : List ℕ) (at : ℕ) (escaped : Bool) → at < length bytes
    → string_rest escaped (drop at bytes) ≡ string_rest escaped (get_or bytes at 0 ∷ drop (suc at) bytes)
cut bytes at escaped low = ap (string_rest escaped) (drop-cons bytes at 0 low)

pub rest_escaped : (bytes : List ℕ) (at : ℕ) → at < length bytes
    → string_rest true (drop at bytes) ≡ 1 + string_rest false (drop (at + 1) bytes)
unfolding string_rest
rest_escaped bytes at low = cut bytes at true low ∙ ap (λ n. 1 + string_rest false (drop n bytes)) (sym (add-one at))

pub rest_quote : (bytes : List ℕ) (at : ℕ) → at < length bytes → get_or bytes at 0 ≡ 34
    → string_rest false (drop at bytes) ≡ 1
unfolding string_rest
rest_quote bytes at low is = cut bytes at false low ∙ rw is refl

pub rest_other : (bytes : List ℕ) (at : ℕ) → at < length bytes → (get_or bytes at 0 ≡ 34 → ⊥)
    → string_rest false (drop at bytes) ≡ 1 + string_rest (get_or bytes at 0 == 92) (drop (at + 1) bytes)
unfolding string_rest
rest_other bytes at low other = cut bytes at false low
    ∙ (rw (ne_eqb (get_or bytes at 0) 34 other) refl ∙ ap (λ n. 1 + string_rest (get_or bytes at 0 == 92) (drop n bytes)) (sym (add-one at)))

pub rest_end : (bytes : List ℕ) (at : ℕ) (escaped : Bool) → length bytes ≤ at → string_rest escaped (drop at bytes) ≡ 0
unfolding string_rest
rest_end bytes at escaped high = ap (string_rest escaped) (drop_all at bytes high)
