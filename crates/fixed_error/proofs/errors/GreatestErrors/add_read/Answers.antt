use Rattle.std.proofs.Common.{◌++◌, ◌∷◌, []}
use Rattle.fixed_error.proofs.WordLemmas.{word_added, words_kept}
use Rattle.fixed_error.proofs.errors.GreatestErrors.add_read.Goals as goal

pub returns-then-pass_word : goal.returns-then-pass_word
returns-then-pass_word g c = λ r count entries h.
    let old = c.args.self.now in
    let behind = rw c.in-ByWord.is at c.behind_by.ensures in
    let passed = c.pass_word.ensures in
    words_kept r count (entries ++ record { place = c.args.place; numeral = c.args.numeral.now } ∷ []) old c.pass_word.new.self passed.radix passed.errors passed.near passed.passed
    (word_added r count entries old c.args.place c.args.numeral.now c.in-ByWord.word behind.0 c.requires.within behind.1 (passed.within c.if-pass_word.true) h)

pub returns-in_ok-add_rest-in-ByWord : goal.returns-in_ok-add_rest-in-ByWord
returns-in_ok-add_rest-in-ByWord g c = λ r count entries h.
    let passed = c.pass_word.ensures in
    c.in_ok-add_rest-in-ByWord.ensures r count entries (words_kept r count entries c.args.self.now c.pass_word.new.self passed.radix passed.errors passed.near passed.passed h)
