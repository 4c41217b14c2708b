use Rattle.std.proofs.Common.{◌≡◌, length, take, ◌∙◌, sym, ap, subst, arith}
use Rattle.std.specs.Prelude.{min}
use Rattle.std.proofs.lemmas.List.{length-take}
use Rattle.fixed_error.specs.Errors.{AreBoundsNearHalf, AreLengthErrors, AreWordsWithin}
use Rattle.fixed_error.proofs.ErrorsLemmas.{errors_taken}
use Rattle.fixed_error.proofs.WordLemmas.{near_taken, words_taken}
use Rattle.fixed_error.proofs.errors.GreatestErrors.shorten.Goals as goal

pub returns : goal.returns
returns c = λ r old entries h.
    let items = c.args.self.now.errors.items in
    let is : c.truncate.new.self.items ≡ take c.args.count items = c.truncate.ensures.items in
    let long : length (take c.args.count items) ≡ min c.args.count (length items) = length-take c.args.count items in
    record {
      radix = h.radix;
      most = let most = h.most in omega (arith, most);
      count_is = ap length is ∙ (long ∙ ap (λ n. min c.args.count n) h.count_is);
      errors = subst (AreLengthErrors r 0 entries) (sym is) (errors_taken r 0 entries items c.args.count h.errors);
      passed = λ k word at. subst (AreWordsWithin word) (sym is) (words_taken word items c.args.count (h.passed k word at));
      near = λ all. subst AreBoundsNearHalf (sym is) (near_taken items c.args.count (h.near all));
    }
