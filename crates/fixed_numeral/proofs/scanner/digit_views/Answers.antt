use Rattle.std.proofs.Common.{◌+◌, ap, ◌∙◌, arith, take, drop, length}
use Rattle.fixed_numeral.proofs.ScanLemmas.{whole_fits, whole_digits, fraction_digits, whole_counted, fraction_counted, is_scanned}
use Rattle.fixed_numeral.proofs.scanner.digit_views.Goals as goal

pub of-requires : goal.of-requires
of-requires g c = whole_counted c.args.radix c.args.bytes.now c.slice_at-whole.result.now c.args.state c.requires (c.slice_at-whole.ensures ∙ ap (λ bs. take c.args.state.whole_len (drop c.args.state.sign_len bs)) c.same_bytes-text.ensures)

pub of-requires-2 : goal.of-requires-2
of-requires-2 g c = fraction_counted c.args.radix c.args.bytes.now c.slice_at-fraction.result.now c.args.state c.requires (c.slice_at-fraction.ensures ∙ ap (λ bs. take c.args.state.fraction_len (drop (c.args.state.sign_len + c.args.state.whole_len + 1) bs)) c.same_bytes-text.ensures)

pub of-requires-3-clause-digits : goal.of-requires-3-clause-digits
of-requires-3-clause-digits g c = omega (arith, whole_counted c.args.radix c.args.bytes.now c.slice_at-whole.result.now c.args.state c.requires (c.slice_at-whole.ensures ∙ ap (λ bs. take c.args.state.whole_len (drop c.args.state.sign_len bs)) c.same_bytes-text.ensures), fraction_counted c.args.radix c.args.bytes.now c.slice_at-fraction.result.now c.args.state c.requires (c.slice_at-fraction.ensures ∙ ap (λ bs. take c.args.state.fraction_len (drop (c.args.state.sign_len + c.args.state.whole_len + 1) bs)) c.same_bytes-text.ensures), ap length c.of.ensures, ap length c.of-2.ensures, whole_fits c.args.radix c.args.bytes.now c.args.state c.requires, ap length c.same_bytes-text.ensures, c.same_bytes-text.type_inv)

pub returns-clause-value : goal.returns-clause-value
returns-clause-value g c = λ p h. is_scanned c.args.radix c.args.bytes.now p c.args.state c.requires _ _ _ _ h (c.of-3.ensures.value c.requires.parts c.requires.beginning.parts c.requires.agrees.neg (c.of.ensures ∙ whole_digits c.args.radix c.args.bytes.now c.slice_at-whole.result.now c.args.state c.requires (c.slice_at-whole.ensures ∙ ap (λ bs. take c.args.state.whole_len (drop c.args.state.sign_len bs)) c.same_bytes-text.ensures)) (c.of-2.ensures ∙ fraction_digits c.args.radix c.args.bytes.now c.slice_at-fraction.result.now c.args.state c.requires (c.slice_at-fraction.ensures ∙ ap (λ bs. take c.args.state.fraction_len (drop (c.args.state.sign_len + c.args.state.whole_len + 1) bs)) c.same_bytes-text.ensures)) c.requires.agrees.exponent)

pub returns-clause-cost : goal.returns-clause-cost
returns-clause-cost g c = omega (arith, c.of-3.ensures.cost, whole_counted c.args.radix c.args.bytes.now c.slice_at-whole.result.now c.args.state c.requires (c.slice_at-whole.ensures ∙ ap (λ bs. take c.args.state.whole_len (drop c.args.state.sign_len bs)) c.same_bytes-text.ensures), fraction_counted c.args.radix c.args.bytes.now c.slice_at-fraction.result.now c.args.state c.requires (c.slice_at-fraction.ensures ∙ ap (λ bs. take c.args.state.fraction_len (drop (c.args.state.sign_len + c.args.state.whole_len + 1) bs)) c.same_bytes-text.ensures), ap length c.of.ensures, ap length c.of-2.ensures, whole_fits c.args.radix c.args.bytes.now c.args.state c.requires)
