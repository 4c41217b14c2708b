use Rattle.std.proofs.Common.{◌≡◌, ◌<◌, ℕ}
use Rattle.fixed_fields.specs.Names.{field_text}
use Rattle.fixed_fields.proofs.bit_field.field_named.Given as goal

abbrev pub invariant-lows : goal.invariant-lows
invariant-lows l = (low : ℕ) → low < l.low → ¬ (l.word ≡ field_text l.width low)
