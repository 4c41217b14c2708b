-- Lemmas for the proofs of dependent crates.
use Rattle.std.specs.Prelude.{◌≡◌, ℕ, ◌<◌, ℤ, pos, ◌*ℤ◌}
use Rattle.std.specs.Ordering.{int_cmp}
use Rattle.fixed_convert.specs.Laws.{OrderIsTotal}
use Rattle.fixed_convert.specs.Rounded.{MovedInIsTheOne, ReformattedIsTheOne}
use Rattle.fixed_convert.proofs.OrderLemmas
use Rattle.fixed_convert.proofs.RoundedLemmas

-- ---- numbers moved in a mode
pub moved_in_is_the_one : MovedInIsTheOne
moved_in_is_the_one = RoundedLemmas.moved_in_is_the_one

pub reformatted_is_the_one : ReformattedIsTheOne
reformatted_is_the_one = RoundedLemmas.reformatted_is_the_one

-- ---- the order of values

pub cmp_times : (a b : ℤ) (m : ℕ) → 0 < m → int_cmp a b ≡ int_cmp (a *ℤ pos m) (b *ℤ pos m)
cmp_times = OrderLemmas.cmp_times

pub total : OrderIsTotal
total = OrderLemmas.total
