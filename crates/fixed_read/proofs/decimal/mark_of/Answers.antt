use Rattle.std.proofs.Common.{◌≡◌, ◌*◌, ◌^◌, ◌≤◌, ◌∙◌, arith}
use Rattle.fixed_read.proofs.DecimalLemmas.{mark_is, mark_room}
use Rattle.fixed_read.proofs.decimal.mark_of.Goals as goal

pub overflow_mul-result-2 : goal.overflow_mul-result-2
overflow_mul-result-2 c =
    let prefix : c.min-first.result ≤ c.args.bits = omega (arith, c.min-first.ensures) in
    let start : c.from.result ≡ c.args.start = c.from.ensures in
    let all : c.from.result * c.from-2.result * c.from-3.result ≡ c.args.start * 5 ^ c.args.bits = rw start (mark_is c.args.start c.args.bits c.min-first.result c.from-2.result c.from-3.result prefix (c.from-2.ensures ∙ c.power_of_five.ensures) (c.from-3.ensures ∙ c.power_of_five-2.ensures)) in
    let room = mark_room c.args.start c.args.bits c.requires.bits c.requires.start in
    omega (arith, all, room)

pub returns : goal.returns
returns c =
    let prefix : c.min-first.result ≤ c.args.bits = omega (arith, c.min-first.ensures) in
    let start : c.from.result ≡ c.args.start = c.from.ensures in
    rw start (mark_is c.args.start c.args.bits c.min-first.result c.from-2.result c.from-3.result prefix (c.from-2.ensures ∙ c.power_of_five.ensures) (c.from-3.ensures ∙ c.power_of_five-2.ensures))
