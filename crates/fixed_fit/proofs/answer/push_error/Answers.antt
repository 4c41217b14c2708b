use Rattle.std.proofs.Common.{◌∙◌, sym, arith, rules}
use Rattle.fixed_fit.specs.Answer.{format_of}
use Rattle.fixed_fit.specs.ErrorWord.{entries_from}
use Rattle.fixed_fit.proofs.ErrorWordLemmas.{none_word, range_word, size_fits, some_word}
use Rattle.fixed_fit.proofs.answer.push_error.Goals as goal

pub push_size-requires : goal.push_size-requires
push_size-requires g c =
    let r = c.args.question.now.radix in
    let f = format_of c.args.kind.signed c.args.kind.width c.args.frac in
    let known = c.requires.known in
    let at = c.at-greatest.ensures r known.0 (entries_from 1 known.1) known.2 in
    (search rules, (size_fits r c.with_frac-format.result f known.1 c.at-greatest.result.now c.numeral.result.now c.with_frac-format.ensures at (sym c.is_some.ensures ∙ c.if-is_some.true) c.numeral.ensures known.3, omega (arith, c.requires.room)))

pub returns-then-question-clause-word : goal.returns-then-question-clause-word
returns-then-question-clause-word g c = λ count list h.
    let r = c.args.question.now.radix in
    let f = format_of c.args.kind.signed c.args.kind.width c.args.frac in
    range_word c.args.question.now.is_range r c.with_frac-format.result f list c.args.out.now c.push_half.new.out c.if-question.true c.with_frac-format.ensures c.push_half.ensures.size

pub returns-then-is_some-clause-word : goal.returns-then-is_some-clause-word
returns-then-is_some-clause-word g c = λ count list h.
    let r = c.args.question.now.radix in
    let f = format_of c.args.kind.signed c.args.kind.width c.args.frac in
    let at = c.at-greatest.ensures r count (entries_from 1 list) h in
    some_word c.args.question.now.is_range r c.with_frac-format.result f list c.at-greatest.result.now c.numeral.result.now c.args.out.now c.push_size.new.out c.if-question.false c.with_frac-format.ensures at (sym c.is_some.ensures ∙ c.if-is_some.true) c.numeral.ensures c.push_size.ensures.size

pub returns-else-is_some-clause-word : goal.returns-else-is_some-clause-word
returns-else-is_some-clause-word g c = λ count list h.
    let r = c.args.question.now.radix in
    let f = format_of c.args.kind.signed c.args.kind.width c.args.frac in
    let at = c.at-greatest.ensures r count (entries_from 1 list) h in
    none_word c.args.question.now.is_range r f list c.at-greatest.result.now c.args.out.now c.push.new.self c.if-question.false at (sym c.is_some.ensures ∙ c.if-is_some.false) c.push.ensures
