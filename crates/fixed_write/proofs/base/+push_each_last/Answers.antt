use Rattle.std.proofs.Common.{arith, rules, ap, ◌∙◌, ◌-◌, ◌/◌, ◌≡◌, ◌<◌, ◌%◌, sym, length, length-append, append_assoc, append-nil, mod-lt}
use Rattle.fixed_write.proofs.DigitLemmas.{last_digits_none, last_digits_more, last_digits_length}
use Rattle.fixed_write.proofs.base.+push_each_last.Goals as goal

pub push_digit-requires : goal.push_digit-requires
push_digit-requires g t c =
    let some : 0 < g.row.BASE = omega (arith, c.requires.low) in
    let digit : c.args.number % g.row.BASE < g.row.BASE = mod-lt c.args.number some in
    (search rules, (omega (arith, c.requires.high), omega (arith, c.requires.room, ap length c.push_each_last.ensures ∙ length-append c.args.out.now _, last_digits_length g.row.BASE c.args.upper (c.args.places - 1) (c.args.number / g.row.BASE))))

pub returns-then-places-gt0 : goal.returns-then-places-gt0
returns-then-places-gt0 g t c =
    rw (c.push_digit.ensures, c.push_each_last.ensures, last_digits_more g.row.BASE c.args.upper c.args.places c.args.number c.if-places-gt0.true) (append_assoc c.args.out.now _ _)

pub returns-else-places-gt0 : goal.returns-else-places-gt0
returns-else-places-gt0 g t c =
    let none : c.args.places ≡ 0 = omega arith in
    rw (none, last_digits_none) (sym (append-nil c.args.out.now))
