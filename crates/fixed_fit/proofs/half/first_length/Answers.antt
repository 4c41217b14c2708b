use Rattle.std.proofs.Common.{◌≡◌, ◌<◌, ◌≤◌, ℕ, ⊎_elim, subst, arith}
use Rattle.std.proofs.lemmas.Bool.{cases_lt}
use Rattle.fixed_fit.specs.Within.{IsHalfWithin}
use Rattle.fixed_fit.proofs.HalfBoundLemmas.{list_within, range_not, range_within}
use Rattle.fixed_fit.proofs.half.first_length.Goals as goal

pub returns-then-not-is_range-clause-within : goal.returns-then-not-is_range-clause-within
returns-then-not-is_range-clause-within g c = λ _. list_within c.args.is_range c.args.radix 0 c.args.bound.now c.if-not-is_range.true

pub returns-then-not-is_half_above-clause-within : goal.returns-then-not-is_half_above-clause-within
returns-then-not-is_half_above-clause-within g c = λ _. range_within c.args.is_range c.args.radix c.loop-least.least c.args.bound.now c.if-not-is_range.false (c.is_half_above.ensures.within c.if-not-is_half_above.true)

pub loop-least-preserved : goal.loop-least-preserved
loop-least-preserved g c =
    let least = c.loop-least.least in
    record {
      least = λ f less. ⊎_elim
          (λ (before : f < least). c.loop-least.invariant.least f before)
          (λ (past : least ≤ f).
          let same : least ≡ f = omega (arith, past, less) in
          range_not c.args.is_range c.args.radix f c.args.bound.now c.if-not-is_range.false (subst (λ (k : ℕ). ¬ IsHalfWithin c.args.radix k c.args.bound.now) same (c.is_half_above.ensures.above c.if-not-is_half_above.false)))
          (cases_lt f least);
    }
