use Rattle.std.proofs.Common.{◌<◌, ℕ}
use Rattle.fixed_fields.specs.Fields.{IsFieldAt}
use Rattle.fixed_fields.specs.declared.list.Field.{Field}
use Rattle.fixed_fields.proofs.named.field_of_name.Given as goal

abbrev pub invariant-colons : goal.invariant-colons
invariant-colons l = (index : ℕ) (field : Field) → index < l.index → ¬ IsFieldAt l.word index field
