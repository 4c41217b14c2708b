use Rattle.std.proofs.Common.{w64}
use Rattle.std.proofs.lemmas.Int.{to_z-of_z}
use Rattle.fixed_names.proofs.ToolNameLemmas.{halves_are, no_mark, no_middle, numbers_are, second_is, small_fits}
use Rattle.fixed_names.proofs.tool_names.numbers_in.Goals as goal

pub returns-in_default : goal.returns-in_default
returns-in_default c a b p q is = no_middle c.args.form c.args.signed c.args.word.now c.in_default.ensures a b is

pub returns-in_default-split_once : goal.returns-in_default-split_once
returns-in_default-split_once c a b p q is =
    no_mark c.args.form c.args.signed c.args.word.now c.in-Some.middle.now a b c.in-Some.ensures (rw c.mark_of.ensures at c.in_default-split_once.ensures) is

pub returns-in_default-after : goal.returns-in_default-after
returns-in_default-after c a b p q is =
    let halves = halves_are c.args.form c.args.signed c.args.word.now c.in-Some.middle.now c.in-Some-split_once.first.now c.in-Some-split_once.more.now a b c.in-Some.ensures (rw c.mark_of.ensures at c.in-Some-split_once.ensures) p is in
    (rw c.after_mark.ensures at c.in_default-after.ensures) _ halves.1

pub returns-in_default-integer_of : goal.returns-in_default-integer_of
returns-in_default-integer_of c a b p q is =
    let halves = halves_are c.args.form c.args.signed c.args.word.now c.in-Some.middle.now c.in-Some-split_once.first.now c.in-Some-split_once.more.now a b c.in-Some.ensures (rw c.mark_of.ensures at c.in-Some-split_once.ensures) p is in
    c.in_default-integer_of.ensures a p halves.0

pub returns-in-Some-integer_of-2 : goal.returns-in-Some-integer_of-2
returns-in-Some-integer_of-2 c =
    let one = c.in-Some-integer_of.ensures in
    let two = c.in-Some-integer_of-2.ensures in
    let a = c.in-Some-integer_of.first in
    let b = c.in-Some-integer_of-2.second in
    rw (to_z-of_z w64 a (small_fits a one.0), to_z-of_z w64 b (small_fits b two.0))
    (one.0, two.0, numbers_are c.args.form c.args.signed c.args.word.now c.in-Some.middle.now c.in-Some-split_once.first.now c.in-Some-split_once.more.now c.in-Some-after.second.now a b c.in-Some.ensures (rw c.mark_of.ensures at c.in-Some-split_once.ensures) (rw c.after_mark.ensures at c.in-Some-after.ensures) one.1 two.1)

pub returns-in-None : goal.returns-in-None
returns-in-None c a b p q is =
    c.in-None.ensures b q (second_is c.args.form c.args.signed c.args.word.now c.in-Some.middle.now c.in-Some-split_once.first.now c.in-Some-split_once.more.now c.in-Some-after.second.now a b c.in-Some.ensures (rw c.mark_of.ensures at c.in-Some-split_once.ensures) p is (rw c.after_mark.ensures at c.in-Some-after.ensures))
