use Rattle.std.proofs.Common.{length, map}
use Rattle.fixed_fields.specs.Fields.{fields_of}
use Rattle.fixed.proofs.FieldLemmas.{AreBegun}
use Rattle.fixed.proofs.commands.fields.fields_named.Given as goal

abbrev pub invariant-words : goal.invariant-words
invariant-words l = AreBegun (map (λ s. s.now) l.words) (map (λ s. s.now) l.rest) (fields_of l.list)

abbrev pub decreases-words : goal.decreases-words
decreases-words l = length l.rest
