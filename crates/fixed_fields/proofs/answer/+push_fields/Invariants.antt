use Rattle.std.proofs.Common.{length}
use Rattle.fixed_fields.proofs.answer.+push_fields.Given as goal

abbrev pub decreases-push_fields : goal.decreases-push_fields
decreases-push_fields g l = length l.fields.now
