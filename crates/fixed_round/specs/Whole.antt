-- The whole number w that the value b / 2^f is rounded to, for bits b and a fraction length f.
use Rattle.std.specs.Prelude.{◌≡◌, ℕ, ◌+◌, ◌*◌, ◌%◌, ◌^◌, ◌<◌, ◌≤◌, ◌==◌, nat_lt, nat_le, Bool, false, cond}
use Rattle.std.specs.Prelude.{if◌then◌else◌, ℤ, pos, ◌+ℤ◌, ◌-ℤ◌, ◌*ℤ◌, ◌≤ℤ◌, ◌<ℤ◌, unsigned_abs}
use Rattle.std.specs.Int.{is_negative}
use Rattle.fixed_bits.specs.Down.{down}
use Rattle.fixed_round.specs.declared.rounding.Rounding.{Rounding}
use Rattle.fixed_round.specs.declared.rounding.Rounding.TheVariants.{Ceil, Floor, Round, RoundTiesEven}

-- w is the greatest whole number not above b / 2^f
pub record IsFloor (b : ℤ) (f : ℕ) (w : ℤ) : Type 0 where
  pub at_most : (w *ℤ pos (2 ^ f)) ≤ℤ b
  pub next : b <ℤ ((w +ℤ pos 1) *ℤ pos (2 ^ f))

-- w is the least whole number not below b / 2^f
pub record IsCeil (b : ℤ) (f : ℕ) (w : ℤ) : Type 0 where
  pub before : ((w -ℤ pos 1) *ℤ pos (2 ^ f)) <ℤ b
  pub at_least : b ≤ℤ (w *ℤ pos (2 ^ f))

-- the distance between the value and w, in ulps of 2^-f
abbrev pub whole_distance : ℤ → ℕ → ℤ → ℕ
whole_distance b f w = unsigned_abs (b -ℤ w *ℤ pos (2 ^ f))

-- w is nearest to b / 2^f; halfway between two, the one farther from zero
pub record IsRound (b : ℤ) (f : ℕ) (w : ℤ) : Type 0 where
  pub near : 2 * whole_distance b f w ≤ 2 ^ f
  pub tie : 2 * whole_distance b f w ≡ 2 ^ f → unsigned_abs b < unsigned_abs (w *ℤ pos (2 ^ f))

-- w is nearest to b / 2^f; halfway between two, the even one
pub record IsTiesEven (b : ℤ) (f : ℕ) (w : ℤ) : Type 0 where
  pub near : 2 * whole_distance b f w ≤ 2 ^ f
  pub tie : 2 * whole_distance b f w ≡ 2 ^ f → unsigned_abs w % 2 ≡ 0

-- w is the whole number that b / 2^f is rounded to
abbrev pub IsWhole : Rounding → ℤ → ℕ → ℤ → Type 0
IsWhole Ceil b f w = IsCeil b f w
IsWhole Floor b f w = IsFloor b f w
IsWhole Round b f w = IsRound b f w
IsWhole RoundTiesEven b f w = IsTiesEven b f w

-- whether a value that is `rest` ulps above its floor w is rounded up to the next whole number, if `unit` ulps make one
abbrev pub is_up : Rounding → Bool → ℤ → ℕ → ℕ → Bool
is_up Ceil negative w rest unit = nat_lt 0 rest
is_up Floor negative w rest unit = false
is_up Round negative w rest unit = if negative then nat_lt unit (2 * rest) else nat_le unit (2 * rest)
is_up RoundTiesEven negative w rest unit = if unsigned_abs w % 2 == 0 then nat_lt unit (2 * rest)
    else nat_le unit (2 * rest)

-- the only number w for which IsWhole holds, by the law WholeIsTheOne
unfoldable pub whole : Rounding → ℤ → ℕ → ℤ
whole r b f = down b f 0 +ℤ cond (is_up r (is_negative b) (down b f 0) (whole_distance b f (down b f 0)) (2 ^ f))
    (pos 1) (pos 0)

-- its bits, with the fraction length f
unfoldable pub whole_bits : Rounding → ℤ → ℕ → ℤ
whole_bits r b f = whole r b f *ℤ pos (2 ^ f)
