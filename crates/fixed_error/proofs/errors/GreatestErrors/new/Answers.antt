use Rattle.std.proofs.Common.{rules, refl, ◌≡◌, ◌++◌, ◌∷◌, [], length, length-append, ap, sym, subst, arith}
use Rattle.fixed_error.specs.Errors.{AreLengthErrors}
use Rattle.fixed_error.proofs.ErrorsLemmas.{error_more}
use Rattle.fixed_error.proofs.WordLemmas.{none_passed}
use Rattle.fixed_error.proofs.errors.GreatestErrors.new.Goals as goal

pub loop-frac-preserved : goal.loop-frac-preserved
loop-frac-preserved c =
    let old = c.loop-frac.errors.items in
    let items : c.push.new.self.items ≡ old ++ c.no_error.result ∷ [] = c.in_ok-push.ensures.items in
    let inv = c.loop-frac.invariant in
    record {
      count = omega (arith, ap length items, length-append old (c.no_error.result ∷ []), inv.count);
      errors = subst (AreLengthErrors c.args.radix 0 []) (sym items) (error_more c.args.radix 0 c.loop-frac.frac [] old c.no_error.result (omega (arith, inv.count)) inv.errors c.no_error.ensures);
    }

pub returns : goal.returns
returns c = record {
  radix = refl;
  most = c.requires;
  count_is = search rules;
  errors = c.loop-frac.invariant.errors;
  near = λ no. cc;
  passed = rw c.no_words.ensures (none_passed 1024 c.loop-frac.errors.items);
}
