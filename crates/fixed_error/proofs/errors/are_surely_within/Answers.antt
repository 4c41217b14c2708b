use Rattle.std.proofs.Common.{◌≡◌, ◌<◌, ◌-◌, ◌^◌, ℕ, get_or, ap, arith}
use Rattle.std.specs.Prelude.{min}
use Rattle.fixed_error.specs.declared.errors.LengthError.{LengthError}
use Rattle.fixed_error.proofs.WordLemmas.{words_end, words_more}
use Rattle.fixed_error.proofs.errors.are_surely_within.Goals as goal

abbrev bound_of : LengthError → ℕ
bound_of e = e.bound

pub loop-error-preserved : goal.loop-error-preserved
loop-error-preserved c =
    let word = c.loop-error.rest in
    let x = c.error-item.result in
    let same : x.bound ≡ (get_or c.args.errors.now c.loop-error.error-index x).bound = ap bound_of c.error-item.is in
    let near : min word (10 ^ 18 - word) < (get_or c.args.errors.now c.loop-error.error-index x).bound = let test = c.if-near_word-error.false in omega (arith, test, c.near_word.ensures, same) in
    record {
      below = omega (arith, c.halved_word-rest.ensures);
      left = λ later. c.loop-error.invariant.left (words_more word c.loop-error.error-index c.args.errors.now x c.loop-error-test.true near (rw c.halved_word-rest.ensures at later));
    }

pub returns : goal.returns
returns c = λ _. c.loop-error.invariant.left (words_end c.loop-error.rest c.loop-error.error-index c.args.errors.now c.loop-error-test.false)
