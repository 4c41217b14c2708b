use Rattle.std.proofs.Common.{◌≡◌, ◌+◌, ◌∷◌, ◌++◌, ◌||◌, Bool, [], ℕ, List, None, refl, sym, ap, subst, arith}
use Rattle.std.proofs.lemmas.Bool.{eqb-true}
use Rattle.fixed_bits.specs.Formats.{FormatParts}
use Rattle.std.proofs.lemmas.Grind.{common_steps}
use Rattle.fixed_least.specs.declared.least.LeastFault.{LeastFault}
use Rattle.std.specs.Prelude.{Option}
use Rattle.fixed_fit.specs.Inner.Progress.{HasProgress}
use Rattle.fixed_fit.proofs.ProgressLemmas.{after_fault, after_numeral, is_none}
use Rattle.fixed_fit.proofs.ShortLemmas.{left_as_they_were, read_below, read_numeral, surely_left}
use Rattle.fixed_fit.proofs.progress.Progress.push.Goals as goal

pub returns-then-is_some-clause-one_more : goal.returns-then-is_some-clause-one_more
returns-then-is_some-clause-one_more g c = λ n lines h.
    let p = c.args.self.now in
    let some : p.fault ≡ None → ⊥ = grind (arith, common_steps, c.is_some.ensures, c.if-is_some.true) in
    after_fault n lines c.args.line.now p (p.lines + 1) p.fault refl some refl h

pub after-requires-clause-none : goal.after-requires-clause-none
after-requires-clause-none g c = is_none c.args.self.now.fault (grind (arith, common_steps, c.is_some.ensures, c.if-is_some.false))

pub returns-then-is_within_room-clause-one_more : goal.returns-then-is_within_room-clause-one_more
returns-then-is_within_room-clause-one_more g c = λ n lines h.
    let p = c.args.self.now in
    let line : List ℕ = c.args.line.now in
    let place : ℕ = p.lines + 1 in
    let found = c.in-Some.found in
    let P : Bool → Option LeastFault → Type 0 = λ b f. HasProgress n (lines ++ line ∷ []) (record { radix = p.radix; fractions = p.fractions; lines = place; fault = f; is_below = b; plain = p.plain; signed = p.signed; room = p.room }) in
    let none : p.fault ≡ None = is_none p.fault (grind (arith, common_steps, c.is_some.ensures, c.if-is_some.false)) in
    let read = rw c.in-Some.is at c.requires.flat in
    let is = c.if-is_within_room.true in
    let less = c.is_within_room.ensures.room is in
    let exponent = read.flat.exponent in
    let on_plain = surely_left p.plain found p.room (λ f last minus. absurd (let no = eqb-true p.plain.count 0 (c.is_within_room.ensures.sign is minus) in omega (arith, no, last))) read.flat less h.plain_room in
    let on_signed = surely_left p.signed found p.room (λ f last minus. ap (λ (k : FormatParts). k.signed) h.signed_kind) read.flat less h.signed_room in
    let plain = left_as_they_were p.radix line place p.plain found.decimal read.read exponent on_plain in
    let signed = left_as_they_were p.radix line place p.signed found.decimal read.read exponent on_signed in
    let below = read_below p.radix line found.decimal c.is_short_below.result read.read c.is_short_below.ensures in
    let all : P (p.is_below || c.is_short_below.result) None = after_numeral n lines line p place c.is_short_below.result p.plain p.signed p.room h.plain_room h.signed_room none refl (read_numeral p.radix line found.decimal read.read) below plain signed h in
    subst (λ (f : Option LeastFault). P (p.is_below || c.is_short_below.result) f) (sym none) all
