use Rattle.std.proofs.Common.{◌≡◌, ◌∙◌, List, ℕ, subst, sym}
use Rattle.std.specs.Prelude.{decimal}
use Rattle.line_rejects.proofs.PutLemmas.{puts_both}
use Rattle.line_rejects.proofs.rejects.Rejects.append_number.Goals as goal

pub returns-clause-puts : goal.returns-clause-puts
returns-clause-puts g c =
    puts_both _ _ _ (decimal c.args.number) _ (rw (c.as_bytes.ensures.value ∙ c.format.ensures.text) at c.append.ensures.puts) c.append-2.ensures.puts
