use Rattle.std.proofs.Common.{◌≡◌, List, ℕ, subst, sym}
use Rattle.line_engine.specs.Filled.{HasFilled}
use Rattle.line_engine.specs.Refusals.{IsWritten, reply_of}
use Rattle.line_engine.specs.declared.whole.Filled.TheVariants.{End}
use Rattle.line_engine.proofs.RefusalLemmas.{whole_run, written_failures, written_one, written_run}
use Rattle.line_engine.proofs.whole_engine.answer_whole.Goals as goal

pub returns-clause-run : goal.returns-clause-run
returns-clause-run g c =
    let A = g.R.WholeRule.Answers c.args.rule.now in
    let w = c.args.writes_refusal in
    let input = c.as_bytes.result.now in
    let answer = c.in-Ok-answer_input.answer in
    let found = c.in-Ok-answer_input.ensures in
    let P : List ℕ → Type 0 = λ i. A i (reply_of answer) in
    let Q : List ℕ → Type 0 = λ i. HasFilled c.args.limit (g.S.Source.left c.args.source.now) (g.S.Source.left c.answer_input.new.source) (g.S.Source.failures c.args.source.now) (g.S.Source.failures c.answer_input.new.source) i End in
    let answers : P input = subst P (sym c.as_bytes.ensures) found.answer in
    let filled : Q input = subst Q (sym c.as_bytes.ensures) found.taken in
    whole_run (IsWritten w A) (written_one w A (g.met.R.WholeRule.one_law c.args.rule.now)) c.args.limit _ _ c.write_answer.result.status
    (written_run A c.args.limit _ _ _ _ input filled w _ _ _ _ c.write_answer.result.status c.write_answer.result.refusal answer answers c.write_answer.ensures.writes)
    (written_failures A c.args.limit _ _ _ _ input filled w _ _ _ _ c.write_answer.result.status c.write_answer.result.refusal answer c.write_answer.ensures.writes)
    found.asked
