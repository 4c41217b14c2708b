-- Contracts of the private functions that print digits in a base.
use Rattle.std.specs.Prelude.{◌≡◌, ℕ, ◌*◌, ◌^◌, ◌<◌, ◌≤◌, Bool, false, List, ◌++◌}
use Rattle.fixed_bits.specs.Nearest.{IsEven}
use Rattle.fixed_bits.specs.Rounded.{IsRounded}
use Rattle.fixed_bits.specs.declared.mode.ReadMode.{ReadMode}
use Rattle.fixed_write.specs.Texts.{point_text}
use Rattle.fixed_write.specs.Places.{IsExact}

-- after is before, followed by c ulps of 2^-g rounded in the mode to k places
pub record AppendsRounded (mode : ReadMode) (base : ℕ) (upper : Bool) (c g k : ℕ)
    (before after : List ℕ) : Type 0 where
  pub number : ℕ
  pub rounded : IsRounded mode false (c * base ^ k) (2 ^ g) number
  pub text_is : after ≡ before ++ point_text base upper k number

-- after is before, followed by c ulps of 2^-g exactly
pub record AppendsExact (base : ℕ) (upper : Bool) (c g : ℕ) (before after : List ℕ) : Type 0 where
  pub number : ℕ
  pub places : ℕ
  pub exact : IsExact base c g places number
  pub text_is : after ≡ before ++ point_text base upper places number

-- `block` digits of the base fit 64 bits, and one more does not: the rest after a digit is a multiple of `step`, so
-- these digits never round it up to one whole
pub record IsBlock (base block : ℕ) : Type 0 where
  pub low : 2 ≤ base
  pub high : base ≤ 16
  pub even : IsEven base
  pub fits : base ^ block < 2 ^ 64
  pub step : ℕ
  pub others : ℕ
  pub rest : ℕ
  pub divides : base ≡ others * step
  pub divides_unit : 2 ^ 64 ≡ rest * step
  pub some : 0 < block
  pub full : 2 ^ 64 ≤ step * base ^ block
