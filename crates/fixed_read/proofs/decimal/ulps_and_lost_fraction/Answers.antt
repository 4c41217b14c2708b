use Rattle.std.proofs.Common.{◌≡◌, ℕ, ◌<◌, List, [], drop, length, ap, arith, length-drop}
use Rattle.std.proofs.lemmas.List.{drop_all}
use Rattle.fixed_numeral.proofs.Public.{below_split, trailing_back}
use Rattle.fixed_read.proofs.DecimalLemmas.{settled_tail, settled_share}
use Rattle.fixed_read.proofs.decimal.ulps_and_lost_fraction.Goals as goal

some_after : (ds : List ℕ) (count : ℕ) → count < length ds → drop count ds ≡ [] → ⊥
some_after ds count l e = absurd (omega (arith, l, length-drop count ds, ap length e))

pub settle_exactly-requires-clause-digits : goal.settle_exactly-requires-clause-digits
settle_exactly-requires-clause-digits g c =
    rw c.split_at-prefix.ensures.back ((below_split 10 c.args.view.now 27 c.requires.digits).1)

pub returns-then-len-le27-clause-settled : goal.returns-then-len-le27-clause-settled
returns-then-len-le27-clause-settled g c = settled_share (drop 27 c.args.view.now) c.args.found.ulps c.args.found.rest 7450580596923828125 c.args.found.bits c.lost_fraction_of_share.result (drop_all 27 c.args.view.now (omega (arith, c.if-len-le27.true, c.len.ensures))) c.lost_fraction_of_share.ensures

pub settle_exactly-requires-clause-trailing : goal.settle_exactly-requires-clause-trailing
settle_exactly-requires-clause-trailing g c =
    rw c.split_at-prefix.ensures.back (trailing_back c.args.view.now 27 c.requires.trailing)

pub returns-in-Some-clause-settled : goal.returns-in-Some-clause-settled
returns-in-Some-clause-settled g c =
    let more : 27 < length c.args.view.now = omega (arith, c.if-len-le27.false, c.len.ensures) in
    settled_tail c.args.found.ulps _ _ c.in-Some.lost (c.in-Some.ensures (drop 27 c.args.view.now) (below_split 10 c.args.view.now 27 c.requires.digits).1 (trailing_back c.args.view.now 27 c.requires.trailing) (some_after c.args.view.now 27 more))
