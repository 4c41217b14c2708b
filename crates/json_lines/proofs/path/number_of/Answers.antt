use Rattle.std.proofs.Common.{◌≡◌, ◌∙◌, ◌+◌, ◌*◌, ◌-◌, ap, arith, drop, get_or, sym}
use Rattle.json_lines.specs.Path.{digits_number}
use Rattle.json_lines.proofs.PathLemmas.{number_end, number_grows, number_more, number_small}
use Rattle.json_lines.proofs.path.number_of.Goals as goal

pub loop-digit-preserved : goal.loop-digit-preserved
loop-digit-preserved c =
    let at = c.loop-digit.digit-index in
    let digit : c.from.result ≡ get_or c.args.digits.now at 0 - 48 = c.from.ensures ∙ c.saturating_sub.ensures in
    record {
      same = c.loop-digit.invariant.same ∙ (number_more c.args.digits.now at c.loop-digit.number c.loop-digit-test.true
          ∙ ap (λ n. digits_number (c.loop-digit.number * 10 + n) (drop (at + 1) c.args.digits.now)) (sym digit));
      small = number_grows c.loop-digit.number at c.from.result (omega (arith, c.from.ensures, c.saturating_sub.ensures, c.type_inv.digits at)) c.loop-digit.invariant.small;
    }

pub overflow_cast-result : goal.overflow_cast-result
overflow_cast-result c = omega (arith, number_small c.loop-digit.number c.loop-digit.digit-index (omega (arith, c.requires, c.loop-digit.auto.digit-index-end)) c.loop-digit.invariant.small)

pub returns : goal.returns
returns c = sym (c.loop-digit.invariant.same ∙ number_end c.args.digits.now c.loop-digit.digit-index c.loop-digit.number c.loop-digit-test.false)
