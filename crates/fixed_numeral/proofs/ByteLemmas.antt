-- A byte that is a digit, and its value.
use Rattle.std.proofs.Common.{◌≡◌, ℕ, ◌+◌, ◌*◌, ◌/◌, ◌%◌, ◌<◌, ◌≤◌, arith}
use Rattle.std.specs.Char.{digit_value}

pub value_is : (b : ℕ) → digit_value b < 16 → b < 256 → b % 16 + b / 64 * 9 ≡ digit_value b
value_is b h s = grind arith

pub low_value_is : (b : ℕ) → digit_value b < 10 → b % 16 ≡ digit_value b
low_value_is b h = grind arith

pub value_zero : (b : ℕ) → digit_value b ≡ 0 → b ≡ 48
value_zero b h = grind arith

-- a digit below 16 is the low four bits of its byte, plus 9 if bit 6 tells that it is a letter
pub letter_is : (b : ℕ) → digit_value b < 16 → (b < 128) × (b % 16 + b / 64 * 9 ≡ digit_value b)
letter_is b h = let small : b < 128 = grind arith in (small, value_is b h (omega arith))

-- the bytes from '0' on have the values from 0 on
pub near_zero : (b n : ℕ) → n ≤ 10 → 48 ≤ b → b < 48 + n → digit_value b < n
near_zero b n s k e = grind arith

-- the capital letters from 'A' on and the small ones from 'a' on have the values from 10 on
pub near_capital : (b n : ℕ) → n ≤ 6 → 65 ≤ b → b < 65 + n → digit_value b < 10 + n
near_capital b n s k e = grind arith

pub near_small : (b n : ℕ) → n ≤ 6 → 97 ≤ b → b < 97 + n → digit_value b < 10 + n
near_small b n s k e = grind arith
