use Rattle.std.proofs.Common.{◌≡◌, ◌∙◌, ℕ, Bool, List, sym, subst, true}
use Rattle.std.specs.Prelude.{Option}
use Rattle.fixed.specs.Lines.{IsTargetAsked, IsTargetBy, is_like_format}
use Rattle.fixed.proofs.settings.target_of.Goals as goal

pub returns-in-Ok-clause-value : goal.returns-in-Ok-clause-value
returns-in-Ok-clause-value c =
    let like : is_like_format c.in-Some.word.now ≡ true = sym c.is_like_format.ensures ∙ c.if-is_like_format.true in
    subst (λ (o : Option (List ℕ)). IsTargetAsked o c.args.source c.args.place c.in-Ok.target c.saturating_add.result)
    c.in-Some.ensures
    (subst (λ (b : Bool). IsTargetBy b c.in-Some.word.now c.args.source c.args.place c.in-Ok.target
    c.saturating_add.result) (sym like) (c.in-Ok.ensures.value, c.saturating_add.ensures))

pub returns-in-Err-clause-refused : goal.returns-in-Err-clause-refused
returns-in-Err-clause-refused c target files asked =
    let like : is_like_format c.in-Some.word.now ≡ true = sym c.is_like_format.ensures ∙ c.if-is_like_format.true in
    let by = subst (λ (o : Option (List ℕ)). IsTargetAsked o c.args.source c.args.place target files)
    (sym c.in-Some.ensures) asked in
    c.in-Err.ensures.refused target
    (subst (λ (b : Bool). IsTargetBy b c.in-Some.word.now c.args.source c.args.place target files) like by).0
