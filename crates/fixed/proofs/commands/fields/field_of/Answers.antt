use Rattle.std.proofs.Common.{subst, sym}
use Rattle.fixed_fields.specs.Fields.{IsFieldName}
use Rattle.fixed.proofs.commands.fields.field_of.Goals as goal

pub returns-in-None-clause-refused : goal.returns-in-None-clause-refused
returns-in-None-clause-refused c = λ field is. c.in-None.ensures field (subst (λ w. IsFieldName w field) (sym c.as_bytes.ensures.value) is)
