use Rattle.std.proofs.Common.{arith, ap, ◌∙◌, ◌-◌, ◌/◌, ◌≡◌, false, sym, length, length-append, append_assoc, append-nil}
use Rattle.fixed_write.proofs.Public.{last_digits_none, last_digits_more, last_digits_length}
use Rattle.fixed_decimal.proofs.text.+push_last.Goals as goal

pub push-requires : goal.push-requires
push-requires g t c = omega (arith, c.requires, c.if-places-gt0.true, ap length c.push_last.ensures ∙ length-append c.args.out.now _, last_digits_length 10 false (c.args.places - 1) (c.args.number / 10))

pub returns-then-places-gt0 : goal.returns-then-places-gt0
returns-then-places-gt0 g t c = rw (c.push.ensures, c.push_last.ensures, c.glyph.ensures, last_digits_more 10 false c.args.places c.args.number c.if-places-gt0.true) (append_assoc c.args.out.now _ _)

pub returns-else-places-gt0 : goal.returns-else-places-gt0
returns-else-places-gt0 g t c =
    let none : c.args.places ≡ 0 = omega arith in
    rw (none, last_digits_none) (sym (append-nil c.args.out.now))
