use Rattle.std.proofs.Common.{min, ◌≡◌, ◌^◌, ◌≤◌, take, length, refl, arith}
use Rattle.std.proofs.Math.Nat.{pow-le-pow_right}
use Rattle.fixed_numeral.proofs.NumberLemmas.{first_below, first_number}
use Rattle.fixed_numeral.proofs.digit_view.DigitView.first_number.Goals as goal

pub prefix_number-requires : goal.prefix_number-requires
prefix_number-requires g c =
    let le : c.args.base ^ c.min-wanted.result ≤ c.args.base ^ c.args.count = pow-le-pow_right (omega (arith, c.requires.least)) (omega arith) in
    rw c.from-2.ensures (record { within = omega arith; digits = c.requires.digits; least = c.requires.least; most = c.requires.most; room = omega (arith, le, c.requires.room) })

pub returns-clause-below : goal.returns-clause-below
returns-clause-below g c =
    let n : c.min-wanted.result ≡ min c.args.count (length c.args.self.now) = rw (c.from.ensures, c.len.ensures) at c.min-wanted.ensures in
    first_below c.args.base c.args.count c.min-wanted.result c.args.self.now (take c.min-wanted.result c.args.self.now) c.prefix_number.result c.requires.least c.requires.digits n refl (rw c.from-2.ensures at c.prefix_number.ensures)

pub returns-clause-number : goal.returns-clause-number
returns-clause-number g c =
    let n : c.min-wanted.result ≡ min c.args.count (length c.args.self.now) = rw (c.from.ensures, c.len.ensures) at c.min-wanted.ensures in
    first_number c.args.base c.args.count c.min-wanted.result c.args.self.now (take c.min-wanted.result c.args.self.now) c.prefix_number.result n refl (rw c.from-2.ensures at c.prefix_number.ensures)
