use Rattle.std.proofs.Common.{ℕ, subst}
use Rattle.command_line.specs.Words.{keyword_at, word_at}
use Rattle.fixed.specs.Lines.{IsTargetAsked}
use Rattle.fixed_bits.specs.Formats.{FormatParts}
use Rattle.line_engine.specs.Memory.{next_count}
use Rattle.fixed.proofs.ConvertLemmas.{no_target}
use Rattle.fixed.proofs.settings.conversion.Goals as goal

pub returns-in-Err-target_of-clause-refused : goal.returns-in-Err-target_of-clause-refused
returns-in-Err-target_of-clause-refused c s files asked =
    let given = c.args.given.now in
    let next = next_count c.args.place in
    no_target (word_at given c.args.place) (keyword_at given next) c.in-Ok.source s.source s.target next files c.in-Ok.ensures.value asked.source
    (subst (λ (n : ℕ). (f : FormatParts) (m : ℕ) → ¬ IsTargetAsked (keyword_at given n) c.in-Ok.source n f m) c.saturating_add.ensures
    c.in-Err-target_of.ensures.refused)
    asked.target
