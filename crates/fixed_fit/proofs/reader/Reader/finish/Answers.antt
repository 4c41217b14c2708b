use Rattle.std.proofs.Common.{arith}
use Rattle.std.proofs.lemmas.Grind.{common_steps}
use Rattle.fixed_fit.proofs.ReadingLemmas.{ends_empty, ends_line, nil_of}
use Rattle.fixed_fit.proofs.reader.Reader.finish.Goals as goal

pub returns-then-is_empty : goal.returns-then-is_empty
returns-then-is_empty g c = λ r n l whole h. ends_empty r n l whole c.args.self.now (nil_of c.args.self.now.line.items (grind (arith, common_steps, c.is_empty.ensures, c.if-is_empty.true))) h

pub returns-in-Ok : goal.returns-in-Ok
returns-in-Ok g c = λ r n l whole h. ends_line r n l whole c.args.self.now c.end_line.new.self (grind (arith, common_steps, c.is_empty.ensures, c.if-is_empty.false)) (λ m done k. c.in-Ok.ensures.ended r m done k) h
