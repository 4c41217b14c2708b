use Rattle.std.proofs.Common.{ℤ, FitsSigned, rules}
use Rattle.std.specs.Int.{w128}
use Rattle.std.proofs.lemmas.Int.{to_z-of_z}
use Rattle.fixed_show.specs.Blocks.{Appends}
use Rattle.fixed_show.specs.ShortError.{IsErrorText}
use Rattle.fixed_show.proofs.LineLemmas.{fact_pushed}
use Rattle.fixed_show.proofs.ulps.push_error_fact.Goals as goal

pub returns-clause-fact : goal.returns-clause-fact
returns-clause-fact g c = λ r p is.
    let b : ℤ = c.args.bits in
    let fit : FitsSigned w128 b = search rules in
    let form = c.args.form in
    let t : Appends (IsErrorText form c.args.measure r p c.args.frac b) 1380 c.push_label.new.out c.push_error.new.out = rw (to_z-of_z w128 b fit) at (c.push_error.ensures.error r p is) in
    record {
      error = t.text;
      is_error = t.is_text;
      appended = fact_pushed form c.args.out.now c.push_label.new.out c.push_error.new.out c.push.new.self c.args.key.now t.text c.end_byte.result c.push_label.ensures.appended t.appended c.end_byte.ensures c.push.ensures;
    }
