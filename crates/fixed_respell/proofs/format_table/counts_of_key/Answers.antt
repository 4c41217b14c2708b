use Rattle.std.proofs.Common.{sym, ◌∙◌, arith}
use Rattle.fixed_respell.proofs.format_table.counts_of_key.Goals as goal

pub returns-then-entry-key : goal.returns-then-entry-key
returns-then-entry-key c =
    let is = c.entry_at-entry.ensures.sound (omega (arith, c.if-entry-key.true, c.requires.some)) in
    (is.format, sym c.if-entry-key.true ∙ is.key)

pub returns-else-entry-key : goal.returns-else-entry-key
returns-else-entry-key c w f is e = c.if-entry-key.false (omega (arith, c.entry_at-entry.ensures.whole w f is e, c.requires.most))
