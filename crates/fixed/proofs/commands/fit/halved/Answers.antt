use Rattle.std.proofs.Common.{◌+◌, ◌-◌, ◌*◌, ◌/◌, arith, get_or, refl, subst, sym, List, ℕ}
use Rattle.fixed.proofs.FractionLemmas.{IsHalving, begun, digit_in, halved_is, halving}
use Rattle.fixed.proofs.commands.fit.halved.Goals as goal

pub overflow_sub-all : goal.overflow_sub-all
overflow_sub-all c = omega (arith, digit_in c.args.digits.now c.digits.at c.requires (omega arith))

pub digits-init : goal.digits-init
digits-init c = subst (λ (l : List ℕ). IsHalving c.args.digits.now l 0 0) (sym c.new-half.ensures.items) (begun c.args.digits.now)

pub digits-preserved : goal.digits-preserved
digits-preserved c =
    let all : ℕ = 10 * c.digits.rest + (get_or c.args.digits.now c.digits.at 0 - 48) in
    halving c.args.digits.now c.digits.half.items c.push.new.self.items c.digits.at c.digits.rest all (48 + all / 2)
    c.requires (omega arith) c.digits.invariant refl refl c.in_ok-push.ensures.items

pub returns : goal.returns
returns c =
    halved_is c.args.digits.now c.digits.half.items c.push-2.new.self.items c.digits.at c.digits.rest (48 + 5 * c.digits.rest)
    (omega arith) c.digits.invariant refl c.in_ok-push-2.ensures.items
