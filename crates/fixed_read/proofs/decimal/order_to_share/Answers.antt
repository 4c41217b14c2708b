use Rattle.std.proofs.Common.{◌^◌, ◌≤◌, arith, sym, mul-le-mul_left}
use Rattle.std.proofs.Math.Nat.{pow-le-pow_right}
use Rattle.fixed_read.proofs.DecimalLemmas.{stands_after, stands_above, stands_beyond}
use Rattle.fixed_read.proofs.decimal.order_to_share.Goals as goal
use Rattle.fixed_read.proofs.decimal.order_to_share.Goals.{else-share-eq-FIVE_TO_27-via-then-share-eq-FIVE_TO_27+else-is_empty, else-share-eq-FIVE_TO_27-via-else-share-eq-FIVE_TO_27}

pub shl_u64-share-requires-clause-room : goal.shl_u64-share-requires-clause-room
shl_u64-share-requires-clause-room g c =
    let most : 2 ^ c.args.halves ≤ 2 ^ 1 = pow-le-pow_right {n = 2} (omega arith) c.requires.halves in
    omega (arith, mul-le-mul_left c.args.found.rest most, c.args.found.small, c.args.found.few)

pub returns-then-share-lt-FIVE_TO_27-clause-order : goal.returns-then-share-lt-FIVE_TO_27-clause-order
returns-then-share-lt-FIVE_TO_27-clause-order g c = stands_after c.order_to_mark.result c.args.view.now c.args.halves c.args.found.bits c.args.found.rest 7450580596923828125 c.shl_u64-share.result c.shl_u64-share.ensures c.if-share-lt-FIVE_TO_27.true c.order_to_mark.ensures.order

pub returns-else-share-eq-FIVE_TO_27-clause-order : goal.returns-else-share-eq-FIVE_TO_27-clause-order
returns-else-share-eq-FIVE_TO_27-clause-order g c = elim c.else-share-eq-FIVE_TO_27.branch [
  | else-share-eq-FIVE_TO_27-via-then-share-eq-FIVE_TO_27+else-is_empty w ↦ stands_beyond c.args.view.now c.args.halves c.args.found.bits c.args.found.rest 7450580596923828125 c.shl_u64-share.result c.requires.trailing c.shl_u64-share.ensures (sym w.if-share-eq-FIVE_TO_27.true) (λ e. let t = w.is_empty.ensures.1 e in cc)
  | else-share-eq-FIVE_TO_27-via-else-share-eq-FIVE_TO_27 w ↦ stands_above c.args.view.now c.args.halves c.args.found.bits c.args.found.rest 7450580596923828125 c.shl_u64-share.result c.shl_u64-share.ensures (omega (arith, w.if-share-eq-FIVE_TO_27.false, c.if-share-lt-FIVE_TO_27.false))
]
