use Rattle.std.proofs.Common.{◌≡◌, ◌+◌, ◌*◌, ◌∙◌, get_or, take, min, refl, ap}
use Rattle.fixed_numeral.specs.Numeral.{base}
use Rattle.fixed_show.proofs.WordLemmas.{HasNumber, base_some, no_number, number_digit, number_underscore}
use Rattle.fixed_show.proofs.words.digits_number.Goals as goal
use Rattle.fixed_show.proofs.words.digits_number.Goals.{then-byte-ne95+in-Some, else-byte-ne95}

pub returns-in-None : goal.returns-in-None
returns-in-None c = no_number (base c.args.radix) c.args.bytes.now c.loop-byte.byte-index (get_or c.args.bytes.now c.loop-byte.byte-index 0) c.loop-byte-test.true refl c.if-byte-ne95.true c.in-None.ensures

pub loop-byte-preserved : goal.loop-byte-preserved
loop-byte-preserved c =
    let bs = c.args.bytes.now in
    let i = c.loop-byte.byte-index in
    elim c.if-byte-ne95.branch [
      | then-byte-ne95+in-Some w ↦
          (let m : c.if-byte-ne95.number ≡ min (c.loop-byte.number * base c.args.radix + w.in-Some.digit) 18446744073709551616
          = w.number-is ∙ w.with_digit-number.ensures ∙ ap (λ t. min (c.loop-byte.number * t + w.in-Some.digit) 18446744073709551616) w.base.ensures in
          number_digit (base c.args.radix) bs i c.loop-byte.number 18446744073709551616 (get_or bs i 0) w.in-Some.digit c.if-byte-ne95.number c.loop-byte-test.true refl w.if-byte-ne95.true (base_some c.args.radix) w.in-Some.ensures.0 w.in-Some.ensures.1 m c.loop-byte.invariant)
      | else-byte-ne95 w ↦
          (let s : HasNumber (base c.args.radix) (take (i + 1) bs) c.loop-byte.number 18446744073709551616 = number_underscore (base c.args.radix) bs i c.loop-byte.number 18446744073709551616 (get_or bs i 0) c.loop-byte-test.true refl w.if-byte-ne95.false c.loop-byte.invariant in
          rw w.number-is s)
    ]
