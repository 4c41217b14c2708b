use Rattle.fixed_command.proofs.ErrorLineLemmas.{refused, written}
use Rattle.fixed_command.proofs.error_lines.push_reply.Goals as goal

pub returns-in-Ok-clause-reply : goal.returns-in-Ok-clause-reply
returns-in-Ok-clause-reply g c = written c.args.settings.now c.args.numeral.now c.args.out.now c.push_measured.new.out c.frac_of-frac.ensures.valid c.in-Ok.ensures.error

pub returns-in-Err-clause-reply : goal.returns-in-Err-clause-reply
returns-in-Err-clause-reply g c = refused c.args.settings.now c.args.numeral.now c.in-Err.error c.args.out.now c.push_measured.new.out (record { text = c.message.result }) c.in-Err.ensures.refused c.message.ensures
