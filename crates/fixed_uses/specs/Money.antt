-- A column of amounts of money.
use Rattle.std.specs.Prelude.{◌≡◌, ℕ, ◌*◌, ◌-◌, ◌^◌, ◌≤◌, List, ◌++◌, length, replicate, ℤ, unsigned_abs}
use Rattle.std.specs.Int.{is_negative}
use Rattle.fixed_bits.specs.Nearest.{distance}
use Rattle.fixed_write.specs.Texts.{decimal_text}

-- cell shows a number of cents that is at most half a cent from amount / 2^8, after spaces up to a width of 12
pub record IsAmountCell (amount : ℤ) (cell : List ℕ) : Type 0 where
  pub cents : ℕ
  pub near : 2 * distance (unsigned_abs amount * 100) (cents * 2 ^ 8) ≤ 2 ^ 8
  pub text : List ℕ
  pub text_is : text ≡ decimal_text (is_negative amount) cents 2
  pub cell_is : cell ≡ replicate (12 - length text) 32 ++ text
