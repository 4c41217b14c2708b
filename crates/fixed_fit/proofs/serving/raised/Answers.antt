use Rattle.std.proofs.Common.{◌≡◌, ◌<◌, ◌≤◌, ⊎_elim, subst, arith}
use Rattle.std.proofs.lemmas.Bool.{cases_lt}
use Rattle.fixed_bits.specs.declared.mode.ReadMode.TheVariants.{NearestEven}
use Rattle.fixed_error.specs.ErrorSize.{HasErrorAbove}
use Rattle.fixed_fit.proofs.serving.raised.Goals as goal

pub loop-least-preserved : goal.loop-least-preserved
loop-least-preserved g c =
    let inv = c.loop-least.invariant in
    let least = c.loop-least.least in
    record {
      more = let more = inv.more in omega (arith, more);
      above = λ f from less. ⊎_elim
          (λ (before : f < least). inv.above f from before)
          (λ (past : least ≤ f).
          let same : least ≡ f = omega (arith, past, less) in
          subst (λ k. HasErrorAbove NearestEven c.args.radix k c.args.line.now c.args.bound.now) same (c.is_error_above.ensures.above c.if-not-is_error_above.false))
          (cases_lt f least);
    }
