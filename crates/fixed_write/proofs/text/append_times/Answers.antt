use Rattle.std.proofs.Common.{arith, ◌∙◌, add-one, append_assoc}
use Rattle.std.specs.List.{repeat}
use Rattle.fixed_write.proofs.PaddingLemmas.{repeat_more}
use Rattle.fixed_write.proofs.text.append_times.Goals as goal

pub copies-preserved : goal.copies-preserved
copies-preserved c = (
  c.append.ensures.items ∙ rw (c.copies.invariant.0, add-one, repeat_more) (append_assoc c.args.bytes.now.items (repeat c.copies.done c.args.part.now) c.args.part.now),
  omega (arith, c.append.ensures.len, c.copies.invariant.1),
  omega (arith, c.append.ensures.capacity, c.copies.invariant.2),
)
