use Rattle.std.proofs.Common.{◌∙◌, ap, arith}
use Rattle.std.specs.Int.Digits.{number_from_digits}
use Rattle.fixed_numeral.proofs.DigitLemmas.{plain_prefix, prefix_is}
use Rattle.fixed_numeral.proofs.PlaceLemmas.{below_split}
use Rattle.fixed_numeral.proofs.digit_slice.DigitSlice.prefix_number.Goals as goal

-- ---- if every byte is a digit
pub whole_number-requires-clause-plain : goal.whole_number-requires-clause-plain
whole_number-requires-clause-plain c =
    let t = plain_prefix c.self.inside.bytes.now c.args.self.now c.self.inside.count c.args.i c.self.view_is c.self.invariant (omega (arith, c.if-self-bytes.false)) c.requires.within in
    omega (arith, t.0, t.1)

pub whole_number-requires-clause-digits : goal.whole_number-requires-clause-digits
whole_number-requires-clause-digits c =
    let t = plain_prefix c.self.inside.bytes.now c.args.self.now c.self.inside.count c.args.i c.self.view_is c.self.invariant (omega (arith, c.if-self-bytes.false)) c.requires.within in
    rw t.2 (below_split c.args.base c.args.self.now c.args.i c.requires.digits).0

pub whole_number-requires-clause-room : goal.whole_number-requires-clause-room
whole_number-requires-clause-room c =
    let t = plain_prefix c.self.inside.bytes.now c.args.self.now c.self.inside.count c.args.i c.self.view_is c.self.invariant (omega (arith, c.if-self-bytes.false)) c.requires.within in
    rw t.0 c.requires.room

pub returns : goal.returns
returns c =
    let t = plain_prefix c.self.inside.bytes.now c.args.self.now c.self.inside.count c.args.i c.self.view_is c.self.invariant (omega (arith, c.if-self-bytes.false)) c.requires.within in
    c.whole_number.ensures ∙ ap (number_from_digits c.args.base) t.2

-- ---- otherwise
pub mixed_number-requires-clause-digits : goal.mixed_number-requires-clause-digits
mixed_number-requires-clause-digits c = rw (prefix_is c.self.inside.bytes.now c.args.self.now c.byte_index_by_search.result c.args.i c.self.view_is c.byte_index_by_search.ensures.digits) (below_split c.args.base c.args.self.now c.args.i c.requires.digits).0

pub returns-then-self-bytes : goal.returns-then-self-bytes
returns-then-self-bytes c = c.mixed_number.ensures ∙ ap (number_from_digits c.args.base) (prefix_is c.self.inside.bytes.now c.args.self.now c.byte_index_by_search.result c.args.i c.self.view_is c.byte_index_by_search.ensures.digits)
