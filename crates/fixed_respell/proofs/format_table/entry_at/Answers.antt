use Rattle.std.proofs.Common.{◌*◌, ◌/◌, ◌%◌, ◌^◌}
use Rattle.fixed_respell.proofs.TableLemmas.{table, found_sound, found_whole}
use Rattle.fixed_respell.proofs.format_table.entry_at.Goals as goal

pub returns-clause-sound : goal.returns-clause-sound
unfolding table
returns-clause-sound c = found_sound (c.args.key * 9476561537795100451 % 2 ^ 64 / 2 ^ 56)

pub returns-clause-whole : goal.returns-clause-whole
unfolding table
returns-clause-whole c w f is e = found_whole c.args.key w f is e
