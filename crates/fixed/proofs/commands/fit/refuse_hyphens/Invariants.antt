use Rattle.std.proofs.Common.{◌<◌, ℕ}
use Rattle.command_line.specs.Words.{keyword_at}
use Rattle.fixed.specs.Fit.{IsNoHyphenWord}
use Rattle.fixed.proofs.commands.fit.refuse_hyphens.Given as goal

abbrev pub invariant-words : goal.invariant-words
invariant-words l = (k : ℕ) → k < l.place → IsNoHyphenWord (keyword_at l.given k)
