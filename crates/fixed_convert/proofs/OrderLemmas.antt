-- The order of values across formats.
use Rattle.std.proofs.Common.{◌≡◌, ℕ, ◌+◌, ◌-◌, ◌*◌, ◌^◌, ◌<◌, ◌≤◌, ℤ, pos, ◌*ℤ◌, arith, sym, ap, ◌∙◌, inl, inr}
use Rattle.std.specs.Prelude.{◌<ℤ◌}
use Rattle.std.specs.declared.cmp.Ordering.{Ordering}
use Rattle.std.specs.declared.cmp.Ordering.TheVariants.{Less, Equal, Greater}
use Rattle.std.specs.Cmp.{int_cmp_is, int_ranks, int_cmp_total}
use Rattle.std.specs.Ordering.{MatchOrdering, int_cmp, ordering_reverse}
use Rattle.std.proofs.lemmas.Int.{ints, to_z-of_z}
use Rattle.std.proofs.lemmas.Nat.{pow_pos, pow-add}
use Rattle.fixed_bits.specs.Ranges.{IsWide}
use Rattle.fixed_bits.specs.Down.{down}
use Rattle.fixed_bits.proofs.Integers.{times_times, lt_times, lt_cancel}
use Rattle.fixed_convert.specs.Moved.{shifted}
use Rattle.fixed_convert.specs.Inner.Representative.{Represents, OnSameSide}
use Rattle.fixed_convert.specs.Order.{order_of, order}
use Rattle.fixed_convert.specs.Laws.{OrderIsOfValues, OrderIsTotal, ExactIsEqual}
use Rattle.fixed_convert.proofs.RepresentativeLemmas.{side_below, side_above}

ranked_as : (P Q R P' Q' R' : Type 0) (o : Ordering) → (P → P') → (Q → Q') → (R → R') → MatchOrdering o P Q R → MatchOrdering o P' Q' R'
ranked_as P Q R P' Q' R' Less p q r h = p h
ranked_as P Q R P' Q' R' Equal p q r h = q h
ranked_as P Q R P' Q' R' Greater p q r h = r h

-- pairs in the same relation compare the same
pub alike : (a b c d : ℤ) → (a <ℤ b → c <ℤ d) → (a ≡ b → c ≡ d) → (b <ℤ a → d <ℤ c) → int_cmp a b ≡ int_cmp c d
alike a b c d p q r = int_cmp_is c d (int_cmp a b) (ranked_as (a <ℤ b) (a ≡ b) (b <ℤ a) (c <ℤ d) (c ≡ d) (d <ℤ c) (int_cmp a b) p q r (int_ranks a b))

pub cmp_times : (a b : ℤ) (m : ℕ) → 0 < m → int_cmp a b ≡ int_cmp (a *ℤ pos m) (b *ℤ pos m)
cmp_times a b m p = alike a b (a *ℤ pos m) (b *ℤ pos m) (lt_times a b m p) (λ e. ap (λ z. z *ℤ pos m) e) (lt_times b a m p)

times_turned : (z : ℤ) (m n : ℕ) → (z *ℤ pos m) *ℤ pos n ≡ (z *ℤ pos n) *ℤ pos m
times_turned z m n = let e : m * n ≡ n * m = omega arith in times_times z m n ∙ ap (λ i. z *ℤ pos i) e ∙ sym (times_times z n m)

-- ---- the order of two numbers
pub of_values : OrderIsOfValues
unfolding order_of
of_values b f c g = int_ranks (b *ℤ pos (2 ^ g)) (c *ℤ pos (2 ^ f))

-- numbers with equal cross products compare the same with any other number
congr : (b : ℤ) (f : ℕ) (c : ℤ) (g : ℕ) (d : ℤ) (h : ℕ) → b *ℤ pos (2 ^ g) ≡ c *ℤ pos (2 ^ f) → order_of b f d h ≡ order_of c g d h
unfolding order_of
congr b f c g d h e =
    let l : (b *ℤ pos (2 ^ h)) *ℤ pos (2 ^ g) ≡ (c *ℤ pos (2 ^ h)) *ℤ pos (2 ^ f) =
    times_turned b (2 ^ h) (2 ^ g) ∙ ap (λ z. z *ℤ pos (2 ^ h)) e ∙ times_turned c (2 ^ f) (2 ^ h) in
    let r : (d *ℤ pos (2 ^ f)) *ℤ pos (2 ^ g) ≡ (d *ℤ pos (2 ^ g)) *ℤ pos (2 ^ f) = times_turned d (2 ^ f) (2 ^ g) in
    cmp_times (b *ℤ pos (2 ^ h)) (d *ℤ pos (2 ^ f)) (2 ^ g) (pow_pos g)
    ∙ ap (λ z. int_cmp z ((d *ℤ pos (2 ^ f)) *ℤ pos (2 ^ g))) l
    ∙ ap (λ z. int_cmp ((c *ℤ pos (2 ^ h)) *ℤ pos (2 ^ f)) z) r
    ∙ sym (cmp_times (c *ℤ pos (2 ^ h)) (d *ℤ pos (2 ^ g)) (2 ^ f) (pow_pos f))

less : (a b : ℤ) → int_cmp a b ≡ Less → a <ℤ b
less a b e = rw e at (int_ranks a b)

equal : (a b : ℤ) → int_cmp a b ≡ Equal → a ≡ b
equal a b e = rw e at (int_ranks a b)

is_less : (a b : ℤ) → a <ℤ b → int_cmp a b ≡ Less
is_less a b h = sym (int_cmp_is a b Less h)

trans : (b : ℤ) (f : ℕ) (c : ℤ) (g : ℕ) (d : ℤ) (h : ℕ) → (b *ℤ pos (2 ^ g)) <ℤ (c *ℤ pos (2 ^ f)) → (c *ℤ pos (2 ^ h)) <ℤ (d *ℤ pos (2 ^ g)) → (b *ℤ pos (2 ^ h)) <ℤ (d *ℤ pos (2 ^ f))
trans b f c g d h x y =
    let p = lt_times (b *ℤ pos (2 ^ g)) (c *ℤ pos (2 ^ f)) (2 ^ h) (pow_pos h) x in
    let q = lt_times (c *ℤ pos (2 ^ h)) (d *ℤ pos (2 ^ g)) (2 ^ f) (pow_pos f) y in
    let i = times_turned b (2 ^ h) (2 ^ g) in
    let j = times_turned c (2 ^ f) (2 ^ h) in
    let k = times_turned d (2 ^ f) (2 ^ g) in
    lt_cancel (b *ℤ pos (2 ^ h)) (d *ℤ pos (2 ^ f)) (2 ^ g) (omega (arith, ints))

pub total : OrderIsTotal
unfolding order order_of
total = record {
  antisymm = λ x y. int_cmp_total.antisymm (x.bits *ℤ pos (2 ^ y.frac)) (y.bits *ℤ pos (2 ^ x.frac));
  trans = λ x y z p q. is_less (x.bits *ℤ pos (2 ^ z.frac)) (z.bits *ℤ pos (2 ^ x.frac)) (trans x.bits x.frac y.bits y.frac z.bits z.frac (less (x.bits *ℤ pos (2 ^ y.frac)) (y.bits *ℤ pos (2 ^ x.frac)) p) (less (y.bits *ℤ pos (2 ^ z.frac)) (z.bits *ℤ pos (2 ^ y.frac)) q));
  congr = λ x y z p. congr x.bits x.frac y.bits y.frac z.bits z.frac (equal (x.bits *ℤ pos (2 ^ y.frac)) (y.bits *ℤ pos (2 ^ x.frac)) p);
}

pub exact_alike : ExactIsEqual
exact_alike b f g c h e = congr (down b f g) g b f c h e

-- ---- the representative of a product compares like the product
side_cmp : (v w e : ℤ) → OnSameSide v w → IsWide e → int_cmp v e ≡ int_cmp w e
side_cmp v w e o x = alike v e w e (side_below v w e o x) (λ q. at_side o (rw q x) ∙ q) (side_above v w e o x)
  where
    at_side : OnSameSide v w → IsWide v → w ≡ v
    at_side (inl q) y = q
    at_side (inr (inl q)) y = absurd (let a = q.0 in let b = y.high in omega (arith, ints))
    at_side (inr (inr q)) y = absurd (let a = q.0 in let b = y.low in omega (arith, ints))

-- the number with the shorter fraction is shifted
grow : (b : ℤ) (f : ℕ) (c : ℤ) (g : ℕ) → f ≤ g → int_cmp (shifted b (g - f)) c ≡ order_of b f c g
unfolding order_of
grow b f c g l =
    let i : (g - f) + f ≡ g = omega arith in
    let e : 2 ^ (g - f) * 2 ^ f ≡ 2 ^ g = sym (pow-add 2 (g - f) f) ∙ ap (λ k. 2 ^ k) i in
    cmp_times (shifted b (g - f)) c (2 ^ f) (pow_pos f)
    ∙ ap (λ z. int_cmp z (c *ℤ pos (2 ^ f))) (times_times b (2 ^ (g - f)) (2 ^ f) ∙ ap (λ k. b *ℤ pos k) e)

pub compare_left : (b : ℤ) (f : ℕ) (c : ℤ) (g : ℕ) (w : ℤ) → f ≤ g → IsWide c → Represents (shifted b (g - f)) w → int_cmp w c ≡ order_of b f c g
compare_left b f c g w l x st = sym (side_cmp (shifted b (g - f)) w c st.side x) ∙ grow b f c g l

turned : (b : ℤ) (f : ℕ) (c : ℤ) (g : ℕ) → order_of b f c g ≡ ordering_reverse (order_of c g b f)
unfolding order_of
turned b f c g = int_cmp_total.antisymm (b *ℤ pos (2 ^ g)) (c *ℤ pos (2 ^ f))

pub compare_right : (b : ℤ) (f : ℕ) (c : ℤ) (g : ℕ) (w : ℤ) → g ≤ f → IsWide b → Represents (shifted c (f - g)) w → int_cmp b w ≡ order_of b f c g
compare_right b f c g w l x st = int_cmp_total.antisymm b w ∙ ap ordering_reverse (compare_left c g b f w l x st) ∙ sym (turned b f c g)

-- rules for comparisons of the code's numbers
pub ruleset comparing = (to_z-of_z, compare_left, compare_right)
