use Rattle.fixed_words.proofs.WordLemmas.{notes_none, notes_some}
use Rattle.fixed_words.proofs.splitter.Words.note.Goals as goal

pub returns-in-Some-noted_outcome-clause-noted : goal.returns-in-Some-noted_outcome-clause-noted
returns-in-Some-noted_outcome-clause-noted g c =
    let old = c.args.self.now in
    notes_some c.args.rule.now c.args.ending old.line old.word c.as_slice-word.result.now old.tally c.note.new.self old.errors c.in-Some.errors c.add_error.new.errors c.noted_outcome.result c.in-Some-noted_outcome.outcome c.in-Some.is c.as_slice-word.ensures.bytes
    c.in-Some-noted_outcome.is c.noted_outcome.ensures c.note.ensures c.add_error.ensures

pub returns-in-None-clause-noted : goal.returns-in-None-clause-noted
returns-in-None-clause-noted g c =
    let old = c.args.self.now in
    notes_none c.args.rule.now c.args.ending old.line old.word c.as_slice-word.result.now old.tally old.errors c.in-Some.errors c.noted_outcome.result c.in-Some.is c.as_slice-word.ensures.bytes c.in-None.is c.noted_outcome.ensures
