use Rattle.std.proofs.Common.{◌≡◌, ◌++◌, ℕ, List, [], ◌∷◌, length, arith, refl, subst}
use Rattle.std.proofs.lemmas.Grind.{common_steps}
use Rattle.std.specs.Prelude.{Err}
use Rattle.run_engine.proofs.Public.{goes_breaks, goes_none}
use Rattle.run_engine.specs.LineRun.{one_more}
use Rattle.run_engine.specs.Seen.{moment}
use Rattle.fixed_pack.specs.Inner.Packing.{EndsLine}
use Rattle.fixed_pack.specs.Packed.{Appends, MakesPacked}
use Rattle.fixed_pack.proofs.PackLemmas.{last_goes, last_halts, last_none}
use Rattle.fixed_pack.proofs.packer.PackerPieces.finish.Goals as goal

nil_of : (xs : List ℕ) → length xs ≡ 0 → xs ≡ []
nil_of [] e = refl
nil_of (x ∷ xs) e = absurd (omega (arith, e))

pub returns-then-is_empty : goal.returns-then-is_empty
returns-then-is_empty g c = λ first bytes made spent makes.
    let none : length c.args.self.now.line.items ≡ 0 = grind (arith, common_steps, c.is_empty.ensures, c.if-is_empty.true) in
    last_none (g.R.Pack.Packs first.rule) (g.R.Pack.Refuses first.rule) first.rule c.args.self.now bytes made spent makes
    (moment (g.I.Streams.seen c.args.out.now.io) c.args.out.now.text c.args.steps.now) (nil_of c.args.self.now.line.items none)

pub returns-in-Err : goal.returns-in-Err
returns-in-Err g c = λ first bytes made spent makes.
    let Makes = MakesPacked (g.R.Pack.Packs first.rule) (g.R.Pack.Refuses first.rule) first.rule in
    let a = moment (g.I.Streams.seen c.args.out.now.io) c.args.out.now.text c.args.steps.now in
    let b = moment (g.I.Streams.seen c.make_room.new.self.io) c.make_room.new.self.text c.args.steps.now in
    goes_breaks Makes bytes made spent [] [] [] c.args.self.now a a b refl (goes_none Makes bytes made spent c.args.self.now a makes) c.in-Err.ensures.err refl

pub returns-in-Err-end_line : goal.returns-in-Err-end_line
returns-in-Err-end_line g c = λ first bytes made spent makes.
    let old = c.args.self.now in
    let some : old.line.items ≡ [] → ⊥ = λ none. let no : ⊥ = grind (arith, common_steps, none, c.is_empty.ensures, c.if-is_empty.false) in no in
    last_halts (g.R.Pack.Packs first.rule) (g.R.Pack.Refuses first.rule) first.rule old bytes made spent makes some c.end_line.new.self
    (g.I.Streams.seen c.args.out.now.io) (g.I.Streams.seen c.make_room.new.self.io) c.args.out.now.text c.make_room.new.self.text c.end_line.new.out c.args.steps.now c.end_line.new.steps
    c.in-Err-end_line.halt c.in-Ok.ensures.ok
    (subst (λ r. EndsLine (g.R.Pack.Packs r) (g.R.Pack.Refuses r) (old.line.items ++ []) (one_more old.lines) c.make_room.new.self.text c.end_line.new.out c.end_line.new.self.lines c.end_line.new.self.kept (Err c.in-Err-end_line.halt)) makes.rule_is c.in-Err-end_line.ensures.ended)

pub returns-in-Ok-end_line : goal.returns-in-Ok-end_line
returns-in-Ok-end_line g c = λ first bytes made spent makes.
    let old = c.args.self.now in
    let some : old.line.items ≡ [] → ⊥ = λ none. let no : ⊥ = grind (arith, common_steps, none, c.is_empty.ensures, c.if-is_empty.false) in no in
    last_goes (g.R.Pack.Packs first.rule) (g.R.Pack.Refuses first.rule) first.rule old bytes made spent makes some c.end_line.new.self
    (g.I.Streams.seen c.args.out.now.io) (g.I.Streams.seen c.make_room.new.self.io) c.args.out.now.text c.make_room.new.self.text c.end_line.new.out c.args.steps.now c.end_line.new.steps
    c.in-Ok.ensures.ok
    (subst (λ r. Appends (g.R.Pack.Packs r (old.line.items ++ [])) c.make_room.new.self.text c.end_line.new.out) makes.rule_is c.in-Ok-end_line.ensures.ended)
