-- Each value has exactly one whole number for each rounding.
use Rattle.std.proofs.Common.{◌≡◌, ℕ, ◌+◌, ◌-◌, ◌*◌, ◌%◌, ◌^◌, ◌≤◌, ◌<◌, ◌==◌, ℤ, pos, negsuc, ◌+ℤ◌, ◌*ℤ◌, ◌≤ℤ◌, arith, refl, sym, ap, ◌∙◌, Bool, true, false}
use Rattle.std.specs.Prelude.{◌<ℤ◌, ◌-ℤ◌, unsigned_abs, ◌⊎◌, nat_lt, nat_le, cond, if◌then◌else◌}
use Rattle.std.specs.Int.{is_negative}
use Rattle.std.proofs.lemmas.Bool.Decides.{nat_tests}
use Rattle.std.proofs.lemmas.Int.{ints, by_lt_z}
use Rattle.std.proofs.lemmas.Nat.{pow_pos}
use Rattle.fixed_bits.specs.Down.{IsDown, down}
use Rattle.fixed_bits.proofs.Integers.{next_times, le_times, lt_cancel}
use Rattle.fixed_bits.proofs.Public.{down_is}
use Rattle.fixed_round.specs.Whole.{IsWhole, is_up, whole, whole_bits, whole_distance}
use Rattle.fixed_round.specs.Laws.{WholeIsTheOne, WholeIsItsOwn}
use Rattle.fixed_round.specs.declared.rounding.Rounding.{Rounding}
use Rattle.fixed_round.specs.declared.rounding.Rounding.TheVariants.{Ceil, Floor, Round, RoundTiesEven}
use Rattle.fixed_round.proofs.WholeLemmas.{floor_at_most, floor_next}

pub before_times : (a : ℤ) (m : ℕ) → (a -ℤ pos 1) *ℤ pos m ≡ (a *ℤ pos m) -ℤ pos m
before_times a m = let e : (a -ℤ pos 1) +ℤ pos 1 ≡ a = omega (arith, ints) in omega (arith, ints, rw e at (next_times (a -ℤ pos 1) m))

-- ---- the side of the half on which a rest lies
half_low : (stays : Bool) (unit rest : ℕ) → (if stays then nat_lt unit (2 * rest) else nat_le unit (2 * rest)) ≡ false → (2 * rest ≤ unit) × (2 * rest ≡ unit → stays ≡ true)
half_low true unit rest e = (grind (arith, nat_tests, e), λ t. refl)
half_low false unit rest e = let l : 2 * rest < unit = grind (arith, nat_tests, e) in (omega arith, λ t. absurd (omega (arith, t)))

half_up : (stays : Bool) (unit rest : ℕ) → (if stays then nat_lt unit (2 * rest) else nat_le unit (2 * rest)) ≡ true → (unit ≤ 2 * rest) × (2 * rest ≡ unit → stays ≡ false)
half_up true unit rest e = let l : unit < 2 * rest = grind (arith, nat_tests, e) in (omega arith, λ t. absurd (omega (arith, t)))
half_up false unit rest e = (grind (arith, nat_tests, e), λ t. refl)

negative_is : (b : ℤ) → is_negative b ≡ true → b <ℤ pos 0
negative_is b e = grind (arith, ints, e)

not_negative_is : (b : ℤ) → is_negative b ≡ false → pos 0 ≤ℤ b
not_negative_is b e = grind (arith, ints, e)

even_is : (m : ℕ) → (m % 2 == 0) ≡ true → m % 2 ≡ 0
even_is m e = grind (arith, nat_tests, e)

odd_is : (m : ℕ) → (m % 2 == 0) ≡ false → m % 2 ≡ 1
odd_is m e = grind (arith, nat_tests, e)

-- ---- the value rounds to the floor
is_low : (r : Rounding) (b : ℤ) (f : ℕ) (w : ℤ) → IsDown b f 0 w → is_up r (is_negative b) w (whole_distance b f w) (2 ^ f) ≡ false → IsWhole r b f w
is_low Ceil b f w h e =
    let l = floor_at_most b w f h in
    let z : whole_distance b f w ≡ 0 = grind (arith, nat_tests, e) in
    record { before = rw (before_times w (2 ^ f)) (omega (arith, ints, l, pow_pos f)); at_least = omega (arith, ints, z, l) }
is_low Floor b f w h e = record { at_most = floor_at_most b w f h; next = rw (next_times w (2 ^ f)) (floor_next b w f h) }
is_low Round b f w h e =
    let l = floor_at_most b w f h in
    let k = half_low (is_negative b) (2 ^ f) (whole_distance b f w) e in
    record { near = k.0; tie = λ t. let n = negative_is b (k.1 t) in omega (arith, ints, l, n, t, pow_pos f) }
is_low RoundTiesEven b f w h e =
    let k = half_low (unsigned_abs w % 2 == 0) (2 ^ f) (whole_distance b f w) e in
    record { near = k.0; tie = λ t. even_is (unsigned_abs w) (k.1 t) }

-- ---- the value rounds to the next whole number
next_even : (w : ℤ) → unsigned_abs w % 2 ≡ 1 → unsigned_abs (w +ℤ pos 1) % 2 ≡ 0
next_even (pos a) e = omega (arith, ints, e)
next_even (negsuc a) e = omega (arith, ints, e)

up_whole_distance : (b : ℤ) (f : ℕ) (w : ℤ) → IsDown b f 0 w → whole_distance b f (w +ℤ pos 1) + whole_distance b f w ≡ 2 ^ f
up_whole_distance b f w h = omega (arith, ints, floor_at_most b w f h, floor_next b w f h, next_times w (2 ^ f))

is_next : (r : Rounding) (b : ℤ) (f : ℕ) (w : ℤ) → IsDown b f 0 w → is_up r (is_negative b) w (whole_distance b f w) (2 ^ f) ≡ true → IsWhole r b f (w +ℤ pos 1)
is_next Ceil b f w h e =
    let l = floor_at_most b w f h in
    let z : 0 < whole_distance b f w = grind (arith, nat_tests, e) in
    let s : (w +ℤ pos 1) -ℤ pos 1 ≡ w = omega (arith, ints) in
    record { before = rw s (omega (arith, ints, z, l)); at_least = rw (next_times w (2 ^ f)) (omega (arith, ints, floor_next b w f h)) }
is_next Floor b f w h e = absurd (cc)
is_next Round b f w h e =
    let l = floor_at_most b w f h in
    let k = half_up (is_negative b) (2 ^ f) (whole_distance b f w) e in
    let s = up_whole_distance b f w h in
    record { near = omega (arith, k.0, s); tie = λ t. let same : 2 * whole_distance b f w ≡ 2 ^ f = omega (arith, t, s) in let n = not_negative_is b (k.1 same) in omega (arith, ints, l, n, t, same, pow_pos f, next_times w (2 ^ f)) }
is_next RoundTiesEven b f w h e =
    let k = half_up (unsigned_abs w % 2 == 0) (2 ^ f) (whole_distance b f w) e in
    let s = up_whole_distance b f w h in
    record { near = omega (arith, k.0, s); tie = λ t. let same : 2 * whole_distance b f w ≡ 2 ^ f = omega (arith, t, s) in next_even w (odd_is (unsigned_abs w) (k.1 same)) }

-- the rounded number by the two cases of its test
by_test : (t : Bool) (P : ℤ → Type 0) (w : ℤ) → (t ≡ true → P (w +ℤ pos 1)) → (t ≡ false → P w) → P (w +ℤ cond t (pos 1) (pos 0))
by_test true P w x y = x refl
by_test false P w x y = let z : w +ℤ pos 0 ≡ w = omega (arith, ints) in rw z (y refl)

pub whole_is : (r : Rounding) (b : ℤ) (f : ℕ) → IsWhole r b f (whole r b f)
unfolding whole
whole_is r b f =
    let w = down b f 0 in
    let h = down_is b f 0 in
    by_test (is_up r (is_negative b) w (whole_distance b f w) (2 ^ f)) (IsWhole r b f) w (is_next r b f w h) (is_low r b f w h)

-- ---- a value does not round to another number
-- the multiple of a greater number is at least one unit greater
apart : (v w : ℤ) (u : ℕ) → v <ℤ w → ((v *ℤ pos u) +ℤ pos u) ≤ℤ (w *ℤ pos u)
apart v w u l = let m : (v +ℤ pos 1) ≤ℤ w = omega (arith, ints, l) in rw (sym (next_times v u)) (le_times (v +ℤ pos 1) w u m)

-- two numbers are neighbours if their multiples are at most one unit apart
neighbours : (v w : ℤ) (u : ℕ) → 0 < u → v <ℤ w → (w *ℤ pos u) ≤ℤ ((v *ℤ pos u) +ℤ pos u) → w ≡ v +ℤ pos 1
neighbours v w u some l h = by_lt_z (v +ℤ pos 1) w
    (λ m. absurd (let a = apart (v +ℤ pos 1) w u m in omega (arith, ints, a, next_times v u, h, some)))
    (λ m. omega (arith, ints, l, m))

even_next : (v w : ℤ) → w ≡ v +ℤ pos 1 → unsigned_abs v % 2 ≡ 0 → unsigned_abs w % 2 ≡ 0 → ⊥
even_next (pos a) w e x y = omega (arith, ints, e, x, y)
even_next (negsuc a) w e x y = omega (arith, ints, e, x, y)

around_zero : (v w : ℤ) (u : ℕ) → w ≡ v +ℤ pos 1 → (v *ℤ pos u) <ℤ pos 0 → pos 0 <ℤ (w *ℤ pos u) → ⊥
around_zero v w u e x y =
    let z : pos 0 *ℤ pos u ≡ pos 0 = omega (arith, ints) in
    let a = lt_cancel v (pos 0) u (rw z x) in
    let b = lt_cancel (pos 0) w u (rw z y) in
    omega (arith, ints, a, b, e)

not_less : (r : Rounding) (b : ℤ) (f : ℕ) (v w : ℤ) → IsWhole r b f v → IsWhole r b f w → v <ℤ w → ⊥
not_less Ceil b f v w x y l =
    let a = apart v w (2 ^ f) l in
    let p = rw (before_times w (2 ^ f)) at y.before in
    let q = x.at_least in
    omega (arith, ints, a, p, q)
not_less Floor b f v w x y l =
    let a = apart v w (2 ^ f) l in
    let p = rw (next_times v (2 ^ f)) at x.next in
    let q = y.at_most in
    omega (arith, ints, a, p, q)
not_less Round b f v w x y l =
    let a = apart v w (2 ^ f) l in
    let p = x.near in
    let q = y.near in
    let s : 2 * whole_distance b f v ≡ 2 ^ f = omega (arith, ints, a, p, q, pow_pos f) in
    let t : 2 * whole_distance b f w ≡ 2 ^ f = omega (arith, ints, a, p, q, pow_pos f) in
    let i = x.tie s in
    let j = y.tie t in
    let below : (v *ℤ pos (2 ^ f)) <ℤ pos 0 = omega (arith, ints, a, p, q, s, t, i, j, pow_pos f) in
    let above : pos 0 <ℤ (w *ℤ pos (2 ^ f)) = omega (arith, ints, a, p, q, s, t, i, j, pow_pos f) in
    let n = neighbours v w (2 ^ f) (pow_pos f) l (omega (arith, ints, p, q)) in
    around_zero v w (2 ^ f) n below above
not_less RoundTiesEven b f v w x y l =
    let a = apart v w (2 ^ f) l in
    let p = x.near in
    let q = y.near in
    let s : 2 * whole_distance b f v ≡ 2 ^ f = omega (arith, ints, a, p, q, pow_pos f) in
    let t : 2 * whole_distance b f w ≡ 2 ^ f = omega (arith, ints, a, p, q, pow_pos f) in
    let i = x.tie s in
    let j = y.tie t in
    let n = neighbours v w (2 ^ f) (pow_pos f) l (omega (arith, ints, p, q)) in
    even_next v w n i j

unique : (r : Rounding) (b : ℤ) (f : ℕ) (v w : ℤ) → IsWhole r b f v → IsWhole r b f w → v ≡ w
unique r b f v w x y = by_lt_z v w (λ l. absurd (not_less r b f v w x y l)) (λ g. by_lt_z w v (λ l. absurd (not_less r b f w v y x l)) (λ h. omega (arith, ints, g, h)))

pub whole_one : WholeIsTheOne
whole_one r b f w = ((λ h. unique r b f w (whole r b f) h (whole_is r b f)), (λ e. rw e (whole_is r b f)))

-- ---- a whole number rounds to itself
its_own : (r : Rounding) (w : ℤ) (f : ℕ) → IsWhole r (w *ℤ pos (2 ^ f)) f w
its_own Ceil w f = record { before = rw (before_times w (2 ^ f)) (omega (arith, ints, pow_pos f)); at_least = omega (arith, ints) }
its_own Floor w f = record { at_most = omega (arith, ints); next = rw (next_times w (2 ^ f)) (omega (arith, ints, pow_pos f)) }
its_own Round w f = record { near = omega (arith, ints, pow_pos f); tie = λ t. absurd (omega (arith, ints, t, pow_pos f)) }
its_own RoundTiesEven w f = record { near = omega (arith, ints, pow_pos f); tie = λ t. absurd (omega (arith, ints, t, pow_pos f)) }

pub own : WholeIsItsOwn
unfolding whole_bits
own r w f = ap (λ (z : ℤ). z *ℤ pos (2 ^ f)) (sym ((whole_one r (w *ℤ pos (2 ^ f)) f w).0 (its_own r w f)))
