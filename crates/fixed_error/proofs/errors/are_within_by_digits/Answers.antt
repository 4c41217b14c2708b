use Rattle.std.proofs.Common.{◌≡◌, ℕ, ◌<◌, ◌≤◌, get_or, ⊎_elim, ap, sym, subst, arith}
use Rattle.std.proofs.lemmas.Bool.{cases_lt}
use Rattle.std.proofs.lemmas.List.{get_or_default}
use Rattle.fixed_error.specs.declared.errors.LengthError.{LengthError}
use Rattle.fixed_error.proofs.WordLemmas.{IsWordWithinAt, far_at, within_each}
use Rattle.fixed_error.proofs.errors.are_within_by_digits.Goals as goal

abbrev bound_of : LengthError → ℕ
bound_of e = e.bound

pub loop-frac-init : goal.loop-frac-init
loop-frac-init c = λ f d less below.
    let none = c.next_length-frac.ensures.none f (omega arith) (omega (arith, below, c.requires.few)) less in
    far_at c.args.word c.near_lengths-near.result f c.args.errors.now d c.requires.few below c.requires.near c.near_lengths-near.ensures none

pub loop-frac-preserved : goal.loop-frac-preserved
loop-frac-preserved c = λ f d less below.
    let frac = c.loop-frac.frac in
    let errors = c.args.errors.now in
    let x = c.index-errors-frac.result in
    ⊎_elim
    (λ (before : f < frac). c.loop-frac.invariant f d before below)
    (λ (from : frac ≤ f). ⊎_elim
    (λ (after : frac < f).
    let none = c.next_length-frac-in-loop-frac.ensures.none f (omega (arith, after)) (omega (arith, below, c.requires.few)) less in
    far_at c.args.word c.near_lengths-near.result f errors d c.requires.few below c.requires.near c.near_lengths-near.ensures none)
    (λ (most : f ≤ frac).
    let here : frac ≡ f = omega (arith, from, most) in
    let same : (get_or errors frac x).bound ≡ (get_or errors frac d).bound = ap bound_of (get_or_default errors frac x d c.loop-frac-test.true) in
    let test = c.if-near_word-errors.false in
    let near : IsWordWithinAt c.args.word errors frac d = rw (sym c.word_at.ensures) (omega (arith, test, c.near_word.ensures, same)) in
    subst (λ (k : ℕ). IsWordWithinAt c.args.word errors k d) here near)
    (cases_lt frac f))
    (cases_lt f frac)

pub returns : goal.returns
returns c = λ _. within_each c.args.word c.args.errors.now c.requires.word (λ f d less. c.loop-frac.invariant f d (omega (arith, less, c.loop-frac-test.false)) less)
