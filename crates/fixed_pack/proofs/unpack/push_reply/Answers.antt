use Rattle.std.proofs.Common.{rules, ◌∙◌, ◌++◌, ℕ, List, FitsSigned, false, ap, subst}
use Rattle.std.proofs.lemmas.Int.{to_z-of_z}
use Rattle.std.specs.Int.{w128}
use Rattle.fixed_command.specs.Moved.{HasPushed}
use Rattle.fixed_respell.specs.Language.{fault_answer}
use Rattle.fixed_pack.proofs.ReplyLemmas.{image_replied, overflow_replied, wide_replied}
use Rattle.fixed_pack.proofs.unpack.push_reply.Goals as goal

pub returns-then-push_number-clause-reply : goal.returns-then-push_number-clause-reply
returns-then-push_number-clause-reply g c below =
    let s = c.args.settings.now in
    let fits : FitsSigned w128 c.in-Some.bits = search rules in
    let pushed = rw (to_z-of_z w128 c.in-Some.bits fits) at c.push_number.ensures in
    let fault = subst (HasPushed s c.in-Some.bits false c.args.out.now c.push_number.new.out) c.if-push_number.true pushed in
    overflow_replied s c.args.number c.args.out.now c.push_number.new.out c.frac_of-from.ensures.valid c.frac_of-to.ensures.valid c.in-Some.bits c.in-Some.ensures fault.0 fault.1

pub returns-else-push_number-clause-reply : goal.returns-else-push_number-clause-reply
returns-else-push_number-clause-reply g c below =
    let s = c.args.settings.now in
    let fits : FitsSigned w128 c.in-Some.bits = search rules in
    let pushed = rw (to_z-of_z w128 c.in-Some.bits fits) at c.push_number.ensures in
    image_replied s c.args.number c.args.out.now c.push_number.new.out c.frac_of-from.ensures.valid c.frac_of-to.ensures.valid c.in-Some.bits c.in-Some.ensures
    (subst (HasPushed s c.in-Some.bits false c.args.out.now c.push_number.new.out) c.if-push_number.false pushed)

pub returns-in-None-clause-reply : goal.returns-in-None-clause-reply
returns-in-None-clause-reply g c below =
    let s = c.args.settings.now in
    wide_replied s c.args.number c.args.out.now c.push_fault.new.out c.frac_of-from.ensures.valid c.frac_of-to.ensures.valid c.in-None.ensures below
    (c.push_fault.ensures ∙ ap (λ (m : List ℕ). c.args.out.now ++ (fault_answer m).text) c.message.ensures)
