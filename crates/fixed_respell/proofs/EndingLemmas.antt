-- The rest after the words of a line is the end of the line.
use Rattle.std.proofs.Common.{◌≡◌, ℕ, ◌-◌, List, [], ◌∷◌, ◌++◌, length, drop, refl, sym, ap, ◌∙◌, arith, append_assoc, length-append}
use Rattle.std.proofs.Math.Seq.{drop-append_seam}
use Rattle.fixed_respell.specs.LineWords.{HasWords, space, spaced}

abbrev front : List (List ℕ) → List ℕ
front [] = []
front (w ∷ ws) = w ++ space ∷ front ws

spaced_front : (ws : List (List ℕ)) (rest : List ℕ) → spaced ws rest ≡ front ws ++ rest
spaced_front [] rest = refl
spaced_front (w ∷ ws) rest = ap (λ ys. w ++ space ∷ ys) (spaced_front ws rest) ∙ sym (append_assoc w (space ∷ front ws) rest)

pub ending : (line rest : List ℕ) (ws : List (List ℕ)) → HasWords line ws rest → drop (length line - length rest) line ≡ rest
ending line rest ws h =
    let text : line ≡ front ws ++ rest = h.text ∙ spaced_front ws rest in
    let count : length line - length rest ≡ length (front ws) = omega (arith, ap length text, length-append (front ws) rest) in
    rw (count, text) (drop-append_seam (front ws) rest)
