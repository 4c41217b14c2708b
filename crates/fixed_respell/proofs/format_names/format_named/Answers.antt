use Rattle.fixed_respell.proofs.FormatNameLemmas.{name_after_i, name_after_q, name_after_u}
use Rattle.fixed_respell.proofs.format_names.format_named.Goals as goal

pub returns-then-is_letter : goal.returns-then-is_letter
returns-then-is_letter c = name_after_i c.args.word.now c.in-Some.first c.in-Some.rest.now c.counted.result c.in-Some.ensures (c.is_letter.ensures.0 c.if-is_letter.true) c.counted.ensures

pub returns-then-is_letter-2 : goal.returns-then-is_letter-2
returns-then-is_letter-2 c = name_after_q c.args.word.now c.in-Some.first c.in-Some.rest.now c.after_q.result c.in-Some.ensures (c.is_letter-else-is_letter.ensures.0 c.if-is_letter-2.true) c.after_q.ensures

pub returns-then-is_letter-3 : goal.returns-then-is_letter-3
returns-then-is_letter-3 c = name_after_u c.args.word.now c.in-Some.first c.in-Some.rest.now c.after_u.result c.in-Some.ensures (c.is_letter-else-is_letter-2.ensures.0 c.if-is_letter-3.true) c.after_u.ensures
