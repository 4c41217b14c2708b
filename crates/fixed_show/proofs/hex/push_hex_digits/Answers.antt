use Rattle.std.proofs.Common.{◌≡◌, ◌≤◌, ◌*◌, false, refl, take, ◌++◌, ◌∷◌, ◌-◌, [], inl, inr, arith, ap, length, length-append, ◌∙◌}
use Rattle.fixed_write.specs.Texts.{last_digits}
use Rattle.fixed_show.proofs.NibbleLemmas.{moved_digits, zeros_before, zeros_more, zeros_none, sixteen_or_all}
use Rattle.fixed_show.proofs.hex.push_hex_digits.Goals as goal

pub loop-left-init : goal.loop-left-init
loop-left-init g c = record { text = zeros_none c.args.out.now (c.args.count - c.args.count) (omega arith); size = omega arith; within = omega arith; many = inl (omega arith) }

pub loop-left-preserved : goal.loop-left-preserved
loop-left-preserved g c =
    let inv = c.loop-left.invariant in
    record {
      text = zeros_more c.args.out.now c.loop-left.out c.push.new.self (c.args.count - c.loop-left.left) (c.args.count - (c.loop-left.left - 1)) (omega (arith, inv.within, c.loop-left-test.true)) inv.text c.push.ensures;
      size = omega (arith, inv.size, c.loop-left-test.true, ap length c.push.ensures, length-append c.loop-left.out (48 ∷ []));
      within = omega (arith, inv.within, c.loop-left-test.true);
      many = inr (omega (arith, c.loop-left-test.true));
    }

pub returns-clause-appended : goal.returns-clause-appended
returns-clause-appended g c =
    let inv = c.loop-left.invariant in
    let left : c.loop-left.left ≤ 16 = c.loop-left-test.false in
    let last : take c.loop-left.left c.sixteen_digits.result ≡ last_digits 16 false c.loop-left.left c.args.word =
    ap (take c.loop-left.left) (c.sixteen_digits.ensures ∙ ap (last_digits 16 false 16) c.moved_up.ensures) ∙ moved_digits c.args.word c.loop-left.left (64 - 4 * c.loop-left.left) left refl in
    zeros_before c.args.out.now c.loop-left.out c.push_prefix.new.self c.args.count c.loop-left.left c.args.word c.ranges.word.fits (sixteen_or_all c.loop-left.left c.args.count left inv.within inv.many) inv.text (c.push_prefix.ensures ∙ ap (λ l. c.loop-left.out ++ l) last)
