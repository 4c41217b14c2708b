-- Products of an integer and a natural number, and their order.
use Rattle.std.proofs.Common.{◌≡◌, ℕ, ◌*◌, ◌<◌, ℤ, pos, neg_ℤ, ◌+ℤ◌, ◌*ℤ◌, ◌≤ℤ◌, arith, ap, mul-le-mul_right}
use Rattle.std.specs.Prelude.{◌<ℤ◌}
use Rattle.std.proofs.lemmas.Int.{ints, by_lt_z}
use borrow.Author.Differences.{sum_is_lem, product_is, neg_is, le_out}

pub plus_times : (a b : ℤ) (m : ℕ) → (a +ℤ b) *ℤ pos m ≡ (a *ℤ pos m) +ℤ (b *ℤ pos m)
plus_times a b m = omega (arith, ints, ap (λ x. x * m) (sum_is_lem a b))

pub times_times : (a : ℤ) (m n : ℕ) → (a *ℤ pos m) *ℤ pos n ≡ a *ℤ pos (m * n)
times_times a m n = omega (arith, ints, ap (λ x. x * n) ((product_is a (pos m)).0), ap (λ x. x * n) ((product_is a (pos m)).1))

pub le_times : (a b : ℤ) (m : ℕ) → a ≤ℤ b → (a *ℤ pos m) ≤ℤ (b *ℤ pos m)
le_times a b m h = omega (arith, ints, mul-le-mul_right m (le_out a b h))

pub lt_cancel : (a b : ℤ) (m : ℕ) → (a *ℤ pos m) <ℤ (b *ℤ pos m) → a <ℤ b
lt_cancel a b m h = by_lt_z a b (λ l. l) (λ l. absurd (let k : (b *ℤ pos m) ≤ℤ (a *ℤ pos m) = le_times b a m l in omega (arith, ints)))

pub next_times : (a : ℤ) (m : ℕ) → (a +ℤ pos 1) *ℤ pos m ≡ (a *ℤ pos m) +ℤ pos m
next_times a m = omega (arith, ints, plus_times a (pos 1) m)

pub lt_times : (a b : ℤ) (m : ℕ) → 0 < m → a <ℤ b → (a *ℤ pos m) <ℤ (b *ℤ pos m)
lt_times a b m p h =
    let k : (a +ℤ pos 1) ≤ℤ b = omega (arith, ints) in
    let l = le_times (a +ℤ pos 1) b m k in
    omega (arith, ints, next_times a m)

pub neg_times : (x m : ℕ) → neg_ℤ (pos x) *ℤ pos m ≡ neg_ℤ (pos (x * m))
neg_times x m = omega (arith, ints, ap (λ y. y * m) ((neg_is (pos x)).0), ap (λ y. y * m) ((neg_is (pos x)).1))
