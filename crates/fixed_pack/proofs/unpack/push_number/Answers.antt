use Rattle.std.proofs.Common.{rules, ◌≡◌, FitsSigned}
use Rattle.std.proofs.lemmas.Int.{to_z-of_z}
use Rattle.std.specs.Int.{w128}
use Rattle.fixed_write.specs.Texts.{shortest_text}
use Rattle.fixed_pack.proofs.ImageLemmas.{own_text}
use Rattle.fixed_pack.proofs.unpack.push_number.Goals as goal

pub returns-then-keeps_bits : goal.returns-then-keeps_bits
returns-then-keeps_bits g c =
    let s = c.args.settings.now in
    let same : s.source ≡ s.target = c.keeps_bits.ensures.source c.if-keeps_bits.true in
    let fits : FitsSigned w128 c.args.bits = search rules in
    let shortest = rw (to_z-of_z w128 c.args.bits fits) at c.push_shortest.ensures.shortest in
    let short = rw (to_z-of_z w128 c.args.bits fits) at c.push_shortest.ensures.short in
    let appended = rw (to_z-of_z w128 c.args.bits fits) at c.push_shortest.ensures.appended in
    let to = c.frac_of-to.result in
    own_text s c.args.bits to (shortest_text c.args.bits to) c.args.out.now c.push_shortest.new.out same (c.keeps_bits.ensures.policy c.if-keeps_bits.true) c.frac_of-to.ensures.value c.frac_of-from.ensures.valid c.in-Text.is c.requires.range shortest short appended
