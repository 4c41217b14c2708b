use Rattle.std.proofs.Common.{arith}
use Rattle.fixed_bits.proofs.Public.{type_format}
use Rattle.fixed_respell.proofs.KeyLemmas.{each_below, made, named, word_length}
use Rattle.fixed_respell.proofs.words.format_word.Goals as goal
use Rattle.fixed_respell.proofs.words.format_word.Goals.{then-word-lt4-via-then-word-lt4, then-word-lt4-via-else-word-lt4+then-word-gt6}

pub returns-then-word-lt4 : goal.returns-then-word-lt4
returns-then-word-lt4 c f is =
    let l = word_length c.args.word.now f is in
    elim c.then-word-lt4.branch [
      | then-word-lt4-via-then-word-lt4 w ↦ omega (arith, l.0, w.if-word-lt4.true)
      | then-word-lt4-via-else-word-lt4+then-word-gt6 w ↦ omega (arith, l.1, w.if-word-gt6.true)
    ]

pub of-requires : goal.of-requires
of-requires c = record { valid = type_format c.in-Some-Some.width c.in-Some-Some.frac c.in-Some-Some.ensures'.0 }

pub returns-in-Some-Some : goal.returns-in-Some-Some
returns-in-Some-Some c =
    let parts = c.in-Some-Some in
    let word = c.args.word.now in
    made c.of.result word parts.signed parts.width parts.frac (named word c.key_of.result parts.signed parts.width parts.frac (omega (arith, c.if-word-lt4.false)) (omega (arith, c.if-word-gt6.false)) (each_below word (λ k. omega (arith, c.type_inv.word k))) parts.ensures c.key_of.ensures.key parts.ensures'.0 parts.ensures'.1) c.of.ensures.signed c.of.ensures.width c.of.ensures.frac
