use Rattle.std.proofs.Common.{◌≡◌, ◌+◌, ◌∷◌, ◌++◌, [], None, refl, sym, subst}
use Rattle.fixed_least.specs.declared.least.LeastFault.{LeastFault}
use Rattle.fixed_least.specs.declared.least.LeastFault.TheVariants.{NotNumeral}
use Rattle.fixed_fit.specs.Inner.Progress.{HasProgress}
use Rattle.fixed_fit.specs.declared.progress.Progress.{Progress}
use Rattle.fixed_fit.proofs.ProgressLemmas.{after_numeral, first_fault}
use Rattle.fixed_fit.proofs.progress.Progress.after.Goals as goal

pub returns-in-Err-clause-one_more : goal.returns-in-Err-clause-one_more
returns-in-Err-clause-one_more g c = λ n lines h.
    let P : Progress → Type 0 = λ q. HasProgress n (lines ++ c.args.line.now ∷ []) q in
    let none : c.args.self.now.fault ≡ None = c.requires.none in
    let fault : LeastFault = NotNumeral (c.args.self.now.lines + 1) c.in-Err.error in
    subst P (sym c.with_fault.ensures) (first_fault n lines c.args.line.now c.args.self.now (c.args.self.now.lines + 1) fault none refl c.in-Err.ensures.cause refl h)

pub returns-in-Ok-clause-one_more : goal.returns-in-Ok-clause-one_more
returns-in-Ok-clause-one_more g c = λ n lines h.
    let p = c.args.self.now in
    let P : Progress → Type 0 = λ q. HasProgress n (lines ++ c.args.line.now ∷ []) q in
    let none : p.fault ≡ None = c.requires.none in
    subst P (sym c.with_numeral.ensures) (after_numeral n lines c.args.line.now p (p.lines + 1) c.in-Ok.below c.lowered-plain.result c.lowered-signed.result c.room_of_both-room.result c.room_of_both-room.ensures.plain c.room_of_both-room.ensures.signed none refl (c.in-Ok.ensures.numeral.0 refl) c.in-Ok.ensures.read c.lowered-plain.ensures c.lowered-signed.ensures h)
