-- The text on a meter's display.
use Rattle.std.specs.Prelude.{◌≡◌, ℕ, ◌*◌, ◌^◌, ◌≤◌, List, ℤ, unsigned_abs}
use Rattle.std.specs.Int.{is_negative}
use Rattle.fixed_bits.specs.Nearest.{distance}
use Rattle.fixed_write.specs.Texts.{decimal_text}

-- text shows a number of hundredths that is at most half a hundredth from bits / 2^16
pub record ShowsHundredths (bits : ℤ) (text : List ℕ) : Type 0 where
  pub hundredths : ℕ
  pub near : 2 * distance (unsigned_abs bits * 100) (hundredths * 2 ^ 16) ≤ 2 ^ 16
  pub text_is : text ≡ decimal_text (is_negative bits) hundredths 2
