-- The leading spaces of a line.
use Rattle.std.proofs.Common.{◌≡◌, ◌<◌, ◌+◌, ◌==◌, ℕ, zero, suc, true, false, List, [], ◌∷◌, drop, get_or, length, refl, arith, subst}
use Rattle.fixed_columns.specs.Rows.{after_spaces}

spaces_suc : (xs : List ℕ) (i : ℕ) → i < length xs → (get_or xs i 0 == 32) ≡ true → after_spaces (drop i xs) ≡ after_spaces (drop (suc i) xs)
unfolding after_spaces
spaces_suc [] i below is = absurd (omega (arith, below))
spaces_suc (x ∷ xs) zero below is = rw is refl
spaces_suc (x ∷ xs) (suc i) below is = spaces_suc xs i (omega (arith, below)) is

pub spaces_step : (xs : List ℕ) (i : ℕ) → i < length xs → (get_or xs i 0 == 32) ≡ true → after_spaces (drop i xs) ≡ after_spaces (drop (i + 1) xs)
spaces_step xs i below is =
    let next : suc i ≡ i + 1 = omega arith in
    let P : ℕ → Type 0 = λ n. after_spaces (drop i xs) ≡ after_spaces (drop n xs) in
    subst P next (spaces_suc xs i below is)

pub spaces_stop : (xs : List ℕ) (i : ℕ) → i < length xs → (get_or xs i 0 == 32) ≡ false → after_spaces (drop i xs) ≡ drop i xs
unfolding after_spaces
spaces_stop [] i below is = absurd (omega (arith, below))
spaces_stop (x ∷ xs) zero below is = rw is refl
spaces_stop (x ∷ xs) (suc i) below is = spaces_stop xs i (omega (arith, below)) is
