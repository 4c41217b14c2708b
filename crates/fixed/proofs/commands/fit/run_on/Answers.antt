use Rattle.std.proofs.Common.{ap, sym}
use Rattle.std.specs.Prelude.{option_map}
use Rattle.command_line.specs.Device.{written_to}
use Rattle.fixed_command.specs.Limits.{limit_of}
use Rattle.fixed.proofs.FitLemmas.{fits_as}
use Rattle.fixed.proofs.commands.fit.run_on.Goals as goal

pub returns : goal.returns
returns g c = (
  _,
  fits_as (option_map (λ text. text.items) c.args.task.now.error) (limit_of c.args.limit.now) c.args.task.now _ _ _ _ _ _ _ _ _ _ _ _ _ _ _ _
      c.answer_list-end.ensures
      (rw c.new-sink.ensures.writer (ap (written_to g.O.Write.contents g.F.Write.contents) c.replace-writer.ensures.value))
      c.new-sink.ensures.failures
      (ap (λ w. written_to g.O.Write.contents g.F.Write.contents w.writer) (sym c.into_writer.ensures)),
)
