use Rattle.std.proofs.Common.{◌≡◌, ◌≤◌, ℕ, get_or, ap, arith}
use Rattle.fixed_error.specs.Errors.{near_half}
use Rattle.fixed_error.specs.declared.errors.LengthError.{LengthError}
use Rattle.fixed_error.proofs.WordLemmas.{near_end, near_more}
use Rattle.fixed_error.proofs.errors.are_near_half.Goals as goal

abbrev bound_of : LengthError → ℕ
bound_of e = e.bound

pub loop-error-preserved : goal.loop-error-preserved
loop-error-preserved c = λ later.
    let x = c.error-item.result in
    let same : x.bound ≡ (get_or c.args.errors.now c.loop-error.error-index x).bound = ap bound_of c.error-item.is in
    let near : near_half ≤ (get_or c.args.errors.now c.loop-error.error-index x).bound = let test = c.if-error-lt-NEAR_HALF.false in omega (arith, test, same) in
    c.loop-error.invariant (near_more c.loop-error.error-index c.args.errors.now x c.loop-error-test.true near later)

pub returns : goal.returns
returns c = λ _. c.loop-error.invariant (near_end c.loop-error.error-index c.args.errors.now c.loop-error-test.false)
