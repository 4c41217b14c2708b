use Rattle.std.proofs.Common.{rules, ◌≡◌, refl, FitsSigned}
use Rattle.std.specs.Int.{w128}
use Rattle.std.proofs.lemmas.Int.{to_z-of_z}
use Rattle.std.specs.Prelude.{None}
use Rattle.fixed_constants.specs.Inner.Known.{line_of}
use Rattle.fixed_constants.proofs.KnownLemmas.{adds_declared}
use Rattle.fixed_constants.proofs.constants.add_declared.Goals as goal

pub returns-in-Err-clause-refused : goal.returns-in-Err-clause-refused
returns-in-Err-clause-refused c before knows = (c.in-Err.ensures.refused before, refl)

pub returns-in-Ok-add_constant-clause-added : goal.returns-in-Ok-add_constant-clause-added
returns-in-Ok-add_constant-clause-added c before knows place =
    let none : None ≡ line_of c.args.known.now c.in-Ok.declared.name.now = search rules in
    let fits : FitsSigned w128 c.in-Ok.declared.bits = search rules in
    let added = rw (to_z-of_z w128 c.in-Ok.declared.bits fits) at c.in-Ok-add_constant.ensures in
    adds_declared before c.args.line.now _ c.args.number c.args.entries.now.items c.add_constant.new.entries.items c.args.known.now c.note_name.new.known c.in-Ok.ensures.spells knows none place c.in-Ok-None.ensures.updates added
