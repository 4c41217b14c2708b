-- A numeral has at most one outcome.
use Rattle.std.proofs.Common.{◌≡◌, ◌∙◌, ◌↔◌, ◌||◌, ℕ, List, IsTrue, sym, ap, subst, inl, inr}
use Rattle.fixed_command.specs.Convert.{AreFormats}
use Rattle.fixed_command.specs.Laws.{OutcomeIsTheOne}
use Rattle.fixed_command.specs.Lemmas.MovedLemmas.{reformatted_one, reformatted_or_not, same_flag, source_by, source_or_not}
use Rattle.fixed_command.specs.Outcome.{HasNoNumber, IsConverted, IsWholeMoved, IsWholeSource, outcome_by}
use Rattle.fixed_command.specs.declared.convert.Settings.{Settings}
use Rattle.fixed_command.specs.declared.outcome.Outcome.{Outcome}
use Rattle.fixed_convert.specs.Rounded.{IsNotReformatted, IsReformatted}

converted_one : (a b : Outcome) (s : Settings) (numeral : List ℕ) → AreFormats s → IsConverted a s numeral → IsConverted b s numeral → a ≡ b
converted_one a b s numeral formats x y =
    let same = source_by s.spelling s numeral x.number y.number x.out y.out formats x.source y.source in
    let moved = reformatted_one s.target_mode s.policy s.target y.number s.source.frac x.bits y.bits x.target_out y.target_out formats.target.is_width (subst (λ n. IsReformatted s.target_mode s.policy s.target n s.source.frac x.bits x.target_out) same.0 x.moved) y.moved in
    let exact : x.exact ≡ y.exact = same_flag x.exact y.exact _ (subst (λ n. IsTrue x.exact ↔ (IsWholeSource s.spelling s numeral × IsWholeMoved n s.source.frac s.target.frac)) same.0 x.is_exact) y.is_exact in
    x.outcome_is ∙ (ap (λ o. outcome_by (o || x.target_out) x.exact) same.1 ∙ (ap (λ o. outcome_by (y.out || o) x.exact) moved.1 ∙ (ap (λ e. outcome_by (y.out || y.target_out) e) exact ∙ sym y.outcome_is)))

not_refused : (a : Outcome) (s : Settings) (numeral : List ℕ) → AreFormats s → IsConverted a s numeral → HasNoNumber s numeral → ⊥
not_refused a s numeral formats x (inl none) = source_or_not s.spelling s numeral none.0 x.number x.out x.source none.1
not_refused a s numeral formats x (inr y) =
    let same = source_by s.spelling s numeral y.number x.number y.out x.out formats y.source x.source in
    reformatted_or_not s.target_mode s.policy s.target x.number s.source.frac x.bits x.target_out x.moved (subst (λ n. IsNotReformatted s.target_mode s.policy s.target n s.source.frac) same.0 y.none)

pub outcome_one : OutcomeIsTheOne
outcome_one s numeral a b formats (inl x) (inl y) = converted_one a b s numeral formats x y
outcome_one s numeral a b formats (inl x) (inr y) = absurd (not_refused a s numeral formats x y.0)
outcome_one s numeral a b formats (inr x) (inl y) = absurd (not_refused b s numeral formats y x.0)
outcome_one s numeral a b formats (inr x) (inr y) = x.1 ∙ sym y.1
