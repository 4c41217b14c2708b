use Rattle.std.proofs.Common.{◌≡◌, ◌<◌, ℕ, List, [], ◌∷◌, length, map, drop, Bor, refl, sym, ap, ◌∙◌, subst, arith, zero, suc, false, true, true≢false, ◌==◌, ◌||◌}
use Rattle.std.proofs.KnownBytes.{Appends-nil}
use Rattle.std.proofs.lemmas.List.{take_rest}
use Rattle.line_engine.specs.AnswerText.{AnswerText}
use Rattle.fixed_command.proofs.BlockLemmas.{HasWritten, broken, first_and_rest, none_written, one_more}
use Rattle.fixed_command.proofs.blocks.run_blocks.Goals as goal

not_empty : (n : ℕ) → false ≡ (n == 0) → 0 < n
not_empty zero none = absurd (true≢false (sym none))
not_empty (suc n) none = omega arith

pub returns-in-Err : goal.returns-in-Err
returns-in-Err g c =
    let rest = c.loop-rest.rest.now in
    let inv = c.loop-rest.invariant in
    let d : Bor (List ℕ) = record { ref_ptr = (0, 0); now = [] } in
    let some : 0 < length rest = not_empty (length rest) c.loop-rest-test.ensures in
    let words : List (List ℕ) = map (λ w. w.now) c.args.words.now in
    let split : map (λ w. w.now) rest ≡ c.as_bytes.result.now ∷ map (λ w. w.now) (drop 1 rest) =
    first_and_rest (λ w. w.now) rest d some ∙ ap (λ t. t ∷ map (λ w. w.now) (drop 1 rest)) (sym c.as_bytes.ensures.value) in
    let failed = c.in-Err.ensures.err in (
      broken c.args.form c.args.question.now words (map (λ w. w.now) (drop 1 rest)) c.as_bytes.result.now failed.0 (g.K.Sink.written c.args.sink.now) (g.K.Sink.written c.loop-rest.sink) (g.K.Sink.written c.write_answer.new.sink) c.loop-rest.has_begun c.loop-rest.has_fault
          (subst (λ ws. HasWritten c.args.form c.args.question.now words ws (g.K.Sink.written c.args.sink.now) (g.K.Sink.written c.loop-rest.sink) c.loop-rest.has_begun c.loop-rest.has_fault) split inv.written) failed.1 failed.2,
      rw (sym inv.same) c.in-Err.ensures.failures.failed,
    )

pub loop-rest-preserved : goal.loop-rest-preserved
loop-rest-preserved g c =
    let rest = c.loop-rest.rest.now in
    let inv = c.loop-rest.invariant in
    let d : Bor (List ℕ) = record { ref_ptr = (0, 0); now = [] } in
    let some : 0 < length rest = not_empty (length rest) c.loop-rest-test.ensures in
    let words : List (List ℕ) = map (λ w. w.now) c.args.words.now in
    let split : map (λ w. w.now) rest ≡ c.as_bytes.result.now ∷ map (λ w. w.now) (drop 1 rest) =
    first_and_rest (λ w. w.now) rest d some ∙ ap (λ t. t ∷ map (λ w. w.now) (drop 1 rest)) (sym c.as_bytes.ensures.value) in
    let found = c.in-Ok.ensures.ok in
    let block : AnswerText = record { text = found.0; fault = c.in-Ok.is_fault } in
    let more : HasWritten c.args.form c.args.question.now words (map (λ w. w.now) (drop 1 rest)) (g.K.Sink.written c.args.sink.now) (g.K.Sink.written c.write_answer.new.sink) true (c.loop-rest.has_fault || c.in-Ok.is_fault) =
    one_more c.args.form c.args.question.now words (map (λ w. w.now) (drop 1 rest)) c.as_bytes.result.now block (g.K.Sink.written c.args.sink.now) (g.K.Sink.written c.loop-rest.sink) (g.K.Sink.written c.write_answer.new.sink) c.loop-rest.has_begun c.loop-rest.has_fault (c.loop-rest.has_fault || c.in-Ok.is_fault)
    (subst (λ ws. HasWritten c.args.form c.args.question.now words ws (g.K.Sink.written c.args.sink.now) (g.K.Sink.written c.loop-rest.sink) c.loop-rest.has_begun c.loop-rest.has_fault) split inv.written) found.1 found.2 refl in
    record {
      same = c.in-Ok.ensures.failures.same ∙ inv.same;
      written = subst (λ (ws : List (Bor (List ℕ))). HasWritten c.args.form c.args.question.now words (map (λ w. w.now) ws) (g.K.Sink.written c.args.sink.now) (g.K.Sink.written c.write_answer.new.sink) true (c.loop-rest.has_fault || c.in-Ok.is_fault)) (sym (take_rest rest 1)) more;
    }

pub loop-rest-init : goal.loop-rest-init
loop-rest-init g c = record {
  same = refl;
  written = none_written c.args.form c.args.question.now (map (λ w. w.now) c.args.words.now) (g.K.Sink.written c.args.sink.now) (Appends-nil (g.K.Sink.written c.args.sink.now));
}
