use Rattle.std.proofs.Common.{refl, inr}
use Rattle.std.proofs.lemmas.Bool.{false≢true}
use Rattle.fixed_enclose.specs.Lemmas.EnclosureLemmas.{refusal_none}
use Rattle.fixed_enclose.proofs.EndsLemmas.{enclosed, unenclosed}
use Rattle.fixed_enclose.proofs.enclosing.enclose.Goals as goal

pair : goal.returns-in-Some-clause-pair
pair g c =
    let p = c.in-Ok.ensures.reading.numeral.0 refl in
    enclosed c.args.radix c.args.bytes.now c.args.format p.0 c.in-Ok.found c.in-Some.ends.lo c.in-Some.ends.hi p.1 (c.in-Ok.ensures.reading.read p.0 p.1) c.in-Ok.ensures.format c.in-Some.ensures.ends c.in-Some.ensures.low c.in-Some.ensures.high

pub returns-in-Some-clause-pair : goal.returns-in-Some-clause-pair
returns-in-Some-clause-pair g c = pair g c

pub returns-in-Some-clause-ok : goal.returns-in-Some-clause-ok
returns-in-Some-clause-ok g c = ((λ _. (c.in-Some.ends.lo, c.in-Some.ends.hi, pair g c)), (λ _. refl))

refused : goal.returns-in-None-clause-refused
refused g c =
    let p = c.in-Ok.ensures.reading.numeral.0 refl in
    inr (c.new.ensures, unenclosed c.args.radix c.args.bytes.now c.args.format p.0 c.in-Ok.found p.1 (c.in-Ok.ensures.reading.read p.0 p.1) c.in-Ok.ensures.format c.in-None.ensures.none)

pub returns-in-None-clause-refused : goal.returns-in-None-clause-refused
returns-in-None-clause-refused g c = refused g c

pub returns-in-None-clause-ok : goal.returns-in-None-clause-ok
returns-in-None-clause-ok g c = ((λ e. absurd (false≢true e)), (λ h. absurd (refusal_none c.args.radix c.args.bytes.now c.args.format h.0 h.1 c.new.result h.2 (refused g c))))
