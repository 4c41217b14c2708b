use Rattle.std.proofs.Common.{◌≡◌, ℕ, ◌+◌, ◌<◌, Bool, true, false, not, refl, arith}
use Rattle.std.specs.Prelude.{◌==◌}
use Rattle.std.specs.Int.{bit_at}
use Rattle.fixed_numeral.specs.Numeral.{is_separator}
use Rattle.fixed_numeral.specs.declared.radix.Radix.{Radix}
use Rattle.fixed_numeral.specs.declared.radix.Radix.TheVariants.{Bin, Oct, Dec, Hex}
use Rattle.fixed_numeral.proofs.MarkLemmas.{up_to, all_up_to}
use Rattle.fixed_numeral.proofs.scanner.separator_bits.Goals as goal

abbrev same : Bool → Bool → Bool
same true b = b
same false b = not b

same_is : (a b : Bool) → same a b ≡ true → a ≡ b
same_is true false e = absurd (cc)
same_is false true e = absurd (cc)
same_is x y e = refl

abbrev is_bit : Radix → ℕ → ℕ → Bool
is_bit r n k = same (bit_at n k == 1) (is_separator r (64 + k))

bits : (r : Radix) (n k : ℕ) → k < 64 → all_up_to (is_bit r n) 63 ≡ true → (bit_at n k == 1) ≡ is_separator r (64 + k)
bits r n k l e = same_is (bit_at n k == 1) (is_separator r (64 + k)) (up_to (is_bit r n) 63 k (omega (arith, l)) e)

pub returns-in-Bin : goal.returns-in-Bin
returns-in-Bin c k l = rw c.in-Bin.is (bits Bin 0x0001_0020_0001_0021 k l refl)

pub returns-in-Oct : goal.returns-in-Oct
returns-in-Oct c k l = rw c.in-Oct.is (bits Oct 0x0001_0020_0001_0021 k l refl)

pub returns-in-Dec : goal.returns-in-Dec
returns-in-Dec c k l = rw c.in-Dec.is (bits Dec 0x0000_0020_0000_0021 k l refl)

pub returns-in-Hex : goal.returns-in-Hex
returns-in-Hex c k l = rw c.in-Hex.is (bits Hex 0x0001_0000_0001_0001 k l refl)
