use Rattle.std.proofs.Common.{ℤ, FitsSigned, rules, refl}
use Rattle.std.specs.Int.{w128}
use Rattle.std.proofs.lemmas.Int.{to_z-of_z}
use Rattle.fixed_show.proofs.ShowLemmas.{read_as, read_exact, unread}
use Rattle.fixed_show.proofs.show.read_shown.Goals as goal

pub returns-in-Some-clause-read : goal.returns-in-Some-clause-read
returns-in-Some-clause-read g c =
    let b : ℤ = c.in-Some.bits in
    let fit : FitsSigned w128 b = search rules in
    let p = c.in-Ok.ensures.reading.numeral.0 refl in
    rw (to_z-of_z w128 b fit) (read_as c.args.mode c.args.radix c.args.text.now c.args.format c.args.policy p.0 c.in-Ok.found b c.is_out_of_range_by.result p.1 (c.in-Ok.ensures.reading.read p.0 p.1) c.in-Ok.ensures.format c.in-Some.ensures.image c.is_out_of_range_by.ensures.range)

pub returns-in-None-clause-unread : goal.returns-in-None-clause-unread
returns-in-None-clause-unread g c =
    let p = c.in-Ok.ensures.reading.numeral.0 refl in
    unread c.args.mode c.args.radix c.args.text.now c.args.format c.args.policy p.0 c.in-Ok.found c.new.result p.1 (c.in-Ok.ensures.reading.read p.0 p.1) c.in-Ok.ensures.format c.new.ensures (λ v h. (c.in-None.ensures.none v h).0 refl)

pub returns-in-Some-clause-exact : goal.returns-in-Some-clause-exact
returns-in-Some-clause-exact g c = read_exact c.args.mode c.args.radix c.args.text.now c.args.format c.in-Ok.found c.is_exact.result c.in-Ok.ensures.reading.read c.in-Ok.ensures.format c.is_exact.ensures
