use Rattle.std.proofs.Common.{rules, ◌≡◌, ◌∙◌, FitsSigned}
use Rattle.std.specs.Int.{is_negative, w128}
use Rattle.std.proofs.lemmas.Int.{to_z-of_z}
use Rattle.fixed_bits.specs.declared.format.Policy.TheVariants.{Checked}
use Rattle.fixed_convert.specs.Rounded.{IsNotReformatted, IsReformatted}
use Rattle.fixed_command.proofs.OverflowLemmas.{moved_found, moved_lost}
use Rattle.fixed_command.proofs.explain.moved_wide.Goals as goal

pub returns-in-Some-clause-number : goal.returns-in-Some-clause-number
returns-in-Some-clause-number c = λ v is.
    let s = c.args.settings.now in
    let fit : FitsSigned w128 c.args.number = search rules in
    let fits : FitsSigned w128 c.in-Some.moved = search rules in
    let moved : IsReformatted s.target_mode Checked c.of-wide.result c.args.number s.source.frac c.in-Some.moved c.in-Some.field-0-1 = rw (to_z-of_z w128 c.args.number fit, c.frac_of-2.ensures.value) at c.in-Some.ensures.moved in
    to_z-of_z w128 c.in-Some.moved fits
    ∙ moved_found s.target_mode c.args.number s.source.frac s.target.frac c.of-wide.result c.in-Some.moved c.in-Some.field-0-1 v (c.of-wide.ensures.frac ∙ c.frac_of.ensures.value) moved is

pub returns-in-None-clause-number : goal.returns-in-None-clause-number
returns-in-None-clause-number c = λ v is wide.
    let s = c.args.settings.now in
    let fit : FitsSigned w128 c.args.number = search rules in
    let lost : IsNotReformatted s.target_mode Checked c.of-wide.result c.args.number s.source.frac = rw (to_z-of_z w128 c.args.number fit, c.frac_of-2.ensures.value) at c.in-None.ensures.moved in
    let sign : c.of-wide.result.signed ≡ is_negative c.args.number = search (rules, c.of-wide.ensures.signed) in
    moved_lost s.target_mode c.args.number s.source.frac s.target.frac c.of-wide.result v sign c.of-wide.ensures.width (c.of-wide.ensures.frac ∙ c.frac_of.ensures.value) lost is wide
