-- The refused line that an observer keeps.
use Rattle.std.proofs.Common.{◌≡◌, ◌≤◌, ◌∙◌, ℕ, List, [], ◌∷◌, Option, Some, None, Result, Ok, Err, ap, arith, refl, subst, sym, take}
use Rattle.std.proofs.lemmas.List.{take-take}
use Rattle.line_engine.specs.Lines.{kept_length}
use Rattle.run_engine.specs.LineRun.{Tells, one_more}
use Rattle.run_engine.specs.Refused.{KeepsTheFirst, SawRefused, first_of, first_or, refused_line, refused_of}
use Rattle.run_engine.specs.declared.refusals.RefusedLine.{RefusedLine}
use Rattle.run_engine.specs.declared.refusals.Refusals.{Refusals}

-- lines with the same first n bytes have the same first m bytes, if m is at most n
prefix_as : (m n : ℕ) (told line : List ℕ) → m ≤ n → take n told ≡ take n line → take m told ≡ take m line
prefix_as m n told line few same = sym (take-take m n told few) ∙ ap (λ l. take m l) same ∙ take-take m n line few

told_as : (told line : List ℕ) → take kept_length told ≡ take kept_length line → take 160 told ≡ take 160 line
told_as told line = prefix_as 160 kept_length told line (omega arith)

module _ {C : Type 0} where
  -- a refused line stays the first one, whatever comes after it
  first_stays : (first : Option (RefusedLine C)) (line : RefusedLine C) (next : Option (RefusedLine C)) → first_or (first_or first (Some line)) next ≡ first_or first (Some line)
  first_stays None line next = refl
  first_stays (Some first) line next = refl

  none_more : (first : Option (RefusedLine C)) → first ≡ first_or first None
  none_more None = refl
  none_more (Some first) = refl

module _ (N : Type 0) {C : Type 0} where
  pub keeps : (watch : Refusals C) → KeepsTheFirst N watch
  keeps watch count total [] [] last saw = (ap (λ (w : Refusals C). w.count) saw.0, ap (λ (w : Refusals C). w.first) saw.0 ∙ none_more watch.first)
  keeps watch count total [] (result ∷ results) last saw = absurd saw
  keeps watch count total (line ∷ lines) [] last saw = absurd saw
  keeps watch count total (line ∷ lines) (Ok note ∷ results) last saw =
      let then = saw.0 in
      let same : then ≡ watch = saw.1.saw in
      subst (λ (w : Refusals C). (last.count ≡ refused_of w.count results) × (last.first ≡ first_or w.first (first_of (one_more count) lines results))) same
      (keeps then (one_more count) total lines results last saw.2)
  keeps watch count total (line ∷ lines) (Err cause ∷ results) last saw =
      let then = saw.0 in
      let told_result : Result N C = Err cause in
      let tells : Tells SawRefused watch (one_more count) line told_result then = saw.1 in
      let rest = keeps then (one_more count) total lines results last saw.2 in
      let kept : refused_line (one_more count) tells.told cause ≡ refused_line (one_more count) line cause
      = ap (λ l. record { number = one_more count; line = l; cause = cause }) (told_as tells.told line tells.is) in
      let first : then.first ≡ first_or watch.first (Some (refused_line (one_more count) line cause)) = tells.saw.1 ∙ ap (λ r. first_or watch.first (Some r)) kept in (
        rest.0 ∙ ap (λ n. refused_of n results) tells.saw.0,
        rest.1 ∙ ap (λ f. first_or f (first_of (one_more count) lines results)) first ∙ first_stays watch.first (refused_line (one_more count) line cause) (first_of (one_more count) lines results),
      )
