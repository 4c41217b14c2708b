use Rattle.std.proofs.Common.{◌≡◌, ◌+◌, ◌∷◌, ◌++◌, [], ℕ, length, subst, arith, length-append}
use Rattle.fixed_least.specs.Least.{IsLeastLine}
use Rattle.fixed_least.proofs.ListLemmas.{lines_one_more, written_one_more}
use Rattle.fixed_least.proofs.rule.least_text.Goals as goal

pub loop-i-preserved : goal.loop-i-preserved
loop-i-preserved c =
    let inv = c.loop-i.invariant in
    let P : ℕ → Type 0 = λ n. IsLeastLine c.args.least.now n c.line.result in
    let here : c.loop-i.i ≡ 0 + length inv.answers = omega (arith, inv.count) in
    record {
      answers = inv.answers ++ c.line.result ∷ [];
      are_lines = lines_one_more c.args.least.now 0 inv.answers c.line.result inv.are_lines (subst P here c.line.ensures);
      count = omega (arith, inv.count, length-append inv.answers (c.line.result ∷ []));
      text_is = written_one_more inv.answers c.line.result c.loop-i.text.items c.push_line.new.text.items inv.text_is c.in_ok-push_line.ensures;
      bound = omega (arith, c.loop-i-test.true);
    }
