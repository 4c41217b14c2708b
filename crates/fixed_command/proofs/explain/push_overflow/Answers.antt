use Rattle.std.proofs.Common.{rules, ◌≡◌, ◌∙◌, ◌++◌, FitsSigned, ap, codes, subst, sym}
use Rattle.std.specs.Int.{w128}
use Rattle.std.proofs.lemmas.Int.{to_z-of_z}
use Rattle.fixed_convert.specs.Rounded.{IsMovedIn}
use Rattle.fixed_command.proofs.OverflowLemmas.{joined, not_past}
use Rattle.fixed_command.specs.Explained.{IsMovedText, IsReachedText, holds_text}
use Rattle.fixed_command.specs.Lemmas.MovedLemmas.{source_by, source_or_not}
use Rattle.fixed_command.proofs.explain.push_overflow.Goals as goal

pub returns-in-Ok : goal.returns-in-Ok
returns-in-Ok g c = record {
  source = λ number past. absurd (not_past c.args.settings.now c.args.numeral.now number c.in-Ok.found.bits c.in-Ok.found.overflowed c.in-Ok.ensures.source past);
  target = λ number moved past.
      let same : number ≡ c.in-Ok.found.bits = (source_by c.args.settings.now.spelling c.args.settings.now c.args.numeral.now number c.in-Ok.found.bits past.saturated c.in-Ok.found.overflowed c.push_moved.ensures.formats past.source c.in-Ok.ensures.source).0 in
      let fits : FitsSigned w128 c.in-Ok.found.bits = search rules in
      let given : _ = to_z-of_z w128 c.in-Ok.found.bits fits ∙ sym same in
      let pushed : _ = c.push_moved.ensures.appended moved (subst (λ n. IsMovedIn c.args.settings.now.target_mode n c.args.settings.now.source.frac c.args.settings.now.target.frac moved) (sym given) past.is_moved) in (
        pushed.0,
        subst (λ n. IsMovedText n c.args.settings.now.source.frac moved c.args.settings.now.target.frac pushed.0) given pushed.1,
        joined (codes ", reached ") pushed.0 (codes ", ") (holds_text c.args.settings.now.target) _ _ _ _ (c.push_bytes.ensures ∙ ap (λ t. t ++ codes ", reached ") c.requires.empty) pushed.2 c.push_bytes-in-Ok.ensures c.push_range.ensures.appended,
      );
}

pub returns-in-Err : goal.returns-in-Err
returns-in-Err g c = record {
  source = λ number past.
      let pushed : _ = c.push_number.ensures.appended number (c.read_wide-number.ensures.number past.parts number past.has past.read) in (
        pushed.0,
        subst (λ f. IsReachedText number f pushed.0) c.frac_of.ensures.value pushed.1,
        joined (codes ", reached ") pushed.0 (codes ", ") (holds_text c.args.settings.now.source) _ _ _ _ (c.push_bytes.ensures ∙ ap (λ t. t ++ codes ", reached ") c.requires.empty) pushed.2 c.push_bytes-in-Err.ensures c.push_range-in-Err.ensures.appended,
      );
  target = λ number moved past. absurd (source_or_not c.args.settings.now.spelling c.args.settings.now c.args.numeral.now c.in-Err.field-0.now number past.saturated past.source c.in-Err.ensures.source);
}
