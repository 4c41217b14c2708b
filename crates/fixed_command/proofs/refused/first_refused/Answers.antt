use Rattle.std.proofs.Common.{◌≡◌, ◌+◌, ◌<◌, ℕ, List, [], ◌∷◌, Bor, true, false, length-drop, length, map, drop, zero, suc, ◌==◌, sym, ap, ◌∙◌, subst, arith, true≢false}
use Rattle.std.proofs.lemmas.List.{append_cancel_left, take_rest}
use Rattle.fixed_show.specs.Forms.{refusal}
use Rattle.fixed_show.specs.declared.form.Form.TheVariants.{Lines}
use Rattle.fixed_command.specs.Blocks.{IsBlock}
use Rattle.fixed_command.specs.Refused.{IsClean}
use Rattle.fixed_command.proofs.BlockLemmas.{first_and_rest}
use Rattle.fixed_command.proofs.RefusedLemmas.{HasPassed, all_passed, none_left, one_passed, stopped}
use Rattle.fixed_command.proofs.refused.first_refused.Goals as goal

not_empty : (n : ℕ) → false ≡ (n == 0) → 0 < n
not_empty zero none = absurd (true≢false (sym none))
not_empty (suc n) none = omega arith

pub returns-in-Some : goal.returns-in-Some
returns-in-Some g c =
    let q = c.args.question.now in
    let rest = c.loop-rest.rest.now in
    let left : List (List ℕ) = map (λ w. w.now) (drop 1 rest) in
    let d : Bor (List ℕ) = record { ref_ptr = (0, 0); now = [] } in
    let words : List (List ℕ) = map (λ w. w.now) c.args.words.now in
    let split : map (λ w. w.now) rest ≡ c.as_bytes.result.now ∷ left =
    first_and_rest (λ w. w.now) rest d (not_empty (length rest) c.loop-rest-test.ensures) ∙ ap (λ t. t ∷ left) (sym c.as_bytes.ensures.value) in
    let cause : List ℕ = c.in-Some.cause.now in
    let block = c.in-Some.ensures.block in
    let same : block.text ≡ refusal Lines cause = append_cancel_left c.new-block.result block.text (refusal Lines cause) (sym block.appended ∙ c.in-Some.ensures.refused) in
    stopped q words left c.as_bytes.result.now cause c.loop-rest.place
    (subst (λ ws. HasPassed q words ws c.loop-rest.place) split c.loop-rest.invariant.passed)
    (subst (λ t. IsBlock q c.as_bytes.result.now (record { text = t; fault = true })) same block.is_text)

pub loop-rest-preserved : goal.loop-rest-preserved
loop-rest-preserved g c =
    let q = c.args.question.now in
    let rest = c.loop-rest.rest.now in
    let left : List (List ℕ) = map (λ w. w.now) (drop 1 rest) in
    let d : Bor (List ℕ) = record { ref_ptr = (0, 0); now = [] } in
    let some : 0 < length rest = not_empty (length rest) c.loop-rest-test.ensures in
    let words : List (List ℕ) = map (λ w. w.now) c.args.words.now in
    let split : map (λ w. w.now) rest ≡ c.as_bytes.result.now ∷ left = first_and_rest (λ w. w.now) rest d some ∙ ap (λ t. t ∷ left) (sym c.as_bytes.ensures.value) in
    let block = c.in-None.ensures.block in
    let clean : IsClean q c.as_bytes.result.now = (block.text, block.is_text) in
    let more : HasPassed q words left (c.loop-rest.place + 1) =
    one_passed q words left c.as_bytes.result.now c.loop-rest.place (subst (λ ws. HasPassed q words ws c.loop-rest.place) split c.loop-rest.invariant.passed) clean in
    record {
      passed = subst (λ (ws : List (Bor (List ℕ))). HasPassed q words (map (λ w. w.now) ws) (c.loop-rest.place + 1)) (sym (take_rest rest 1)) more;
      counted = rw (take_rest rest 1) (omega (arith, some, c.loop-rest.invariant.counted, length-drop 1 rest));
    }

pub returns : goal.returns
returns g c =
    let q = c.args.question.now in
    let words : List (List ℕ) = map (λ w. w.now) c.args.words.now in
    let none : map (λ w. w.now) c.loop-rest.rest.now ≡ [] = none_left (λ w. w.now) c.loop-rest.rest.now c.loop-rest-test.ensures in
    all_passed q words c.loop-rest.place (subst (λ ws. HasPassed q words ws c.loop-rest.place) none c.loop-rest.invariant.passed)
