-- The dial shows a number moved down to whole degrees and saturated.
use Rattle.std.proofs.Common.{◌≡◌, ◌⊎◌, ℤ, pos, neg_ℤ, true, sym, subst, inl, inr, arith}
use Rattle.std.specs.Prelude.{◌<ℤ◌}
use Rattle.std.proofs.lemmas.Int.{ints}
use Rattle.fixed_bits.specs.Down.{IsDown}
use Rattle.fixed_bits.specs.Images.{IsSaturated}
use Rattle.fixed_bits.specs.Ranges.{IsInRange, IsOutOfRange}
use Rattle.fixed_bits.proofs.Public.{range_decided}
use Rattle.fixed_uses.specs.Dial.{IsOnDial}

within : (reading d : ℤ) → IsDown reading 16 0 d → IsInRange true 8 d → IsOnDial reading d
within reading d i r = let a = i.at_most in let b = i.above in let l = r.low in let h = r.high in
    record { low = λ p. omega (arith, ints); high = λ p. omega (arith, ints); at_most = λ p. omega (arith, ints); above = λ p. omega (arith, ints) }

below : (reading d degrees : ℤ) → IsDown reading 16 0 d → d <ℤ neg_ℤ (pos 128) → degrees ≡ neg_ℤ (pos 128) → IsOnDial reading degrees
below reading d degrees i out e = let a = i.at_most in let b = i.above in
    record { low = λ p. e; high = λ p. omega (arith, ints); at_most = λ p. omega (arith, ints); above = λ p. omega (arith, ints) }

beyond : (reading d degrees : ℤ) → IsDown reading 16 0 d → pos 127 <ℤ d → degrees ≡ pos 127 → IsOnDial reading degrees
beyond reading d degrees i out e = let a = i.at_most in let b = i.above in
    record { low = λ p. omega (arith, ints); high = λ p. e; at_most = λ p. omega (arith, ints); above = λ p. omega (arith, ints) }

placed : (reading d degrees : ℤ) → IsDown reading 16 0 d → IsSaturated true 8 d degrees → IsInRange true 8 d ⊎ IsOutOfRange true 8 d → IsOnDial reading degrees
placed reading d degrees i s (inl r) = subst (λ (z : ℤ). IsOnDial reading z) (sym (s.same r)) (within reading d i r)
placed reading d degrees i s (inr (inl l)) = below reading d degrees i l (s.below l)
placed reading d degrees i s (inr (inr h)) = beyond reading d degrees i h (s.above h)

pub on_dial : (reading d degrees : ℤ) → IsDown reading 16 0 d → IsSaturated true 8 d degrees → IsOnDial reading degrees
on_dial reading d degrees i s = placed reading d degrees i s (range_decided true 8 d).0
