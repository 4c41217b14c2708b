use Rattle.std.proofs.Common.{ℤ, FitsSigned, rules, refl}
use Rattle.std.specs.Int.{w64}
use Rattle.std.proofs.lemmas.Int.{to_z-of_z}
use Rattle.fixed_amounts.proofs.ReadingLemmas.{read_as, unread}
use Rattle.fixed_amounts.proofs.reading.read_decimal.Goals as goal

pub returns-in-Some-clause-read : goal.returns-in-Some-clause-read
returns-in-Some-clause-read g c =
    let units : ℤ = c.in-Some.units in
    let fit : FitsSigned w64 units = search rules in
    let p = c.in-Ok.ensures.reading.numeral.0 refl in
    rw (to_z-of_z w64 units fit) (read_as c.args.mode c.args.bytes.now c.args.format c.args.policy p.0 c.in-Ok.found units c.is_out_of_range_by.result p.1 (c.in-Ok.ensures.reading.read p.0 p.1) c.in-Ok.ensures.format c.in-Some.ensures.image c.is_out_of_range_by.ensures)

pub returns-in-None-clause-unread : goal.returns-in-None-clause-unread
returns-in-None-clause-unread g c =
    let p = c.in-Ok.ensures.reading.numeral.0 refl in
    unread c.args.mode c.args.bytes.now c.args.format c.args.policy p.0 c.in-Ok.found c.new.result p.1 (c.in-Ok.ensures.reading.read p.0 p.1) c.in-Ok.ensures.format c.new.ensures (λ v h. (c.in-None.ensures.none v h).0 refl)
