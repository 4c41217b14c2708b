use Rattle.std.proofs.Common.{◌≡◌, ◌∙◌, List, ℕ, ap, arith, subst, sym, rules}
use Rattle.fixed_numeral.specs.declared.radix.Radix.TheVariants.{Bin}
use Rattle.fixed_show.specs.Blocks.{Appends}
use Rattle.fixed_fit.specs.ErrorWord.{IsSizeText, half_ulp}
use Rattle.fixed_fit.specs.Fitting.{Fits}
use Rattle.fixed_fit.proofs.HalfLemmas.{half_fits}
use Rattle.fixed_fit.proofs.error_word.push_half.Goals as goal

pub push_size-requires : goal.push_size-requires
push_size-requires g c =
    let f = c.args.format in
    let text : c.as_bytes.result.now ≡ half_ulp f.frac = c.as_bytes.ensures.value ∙ (c.half_ulp.ensures ∙ ap half_ulp c.frac.ensures.frac) in
    (search rules, (subst (λ (l : List ℕ). Fits Bin f.signed f.width f.frac l) (sym text) (half_fits f.signed f.width f.frac), omega (arith, c.requires)))

pub returns-clause-size : goal.returns-clause-size
returns-clause-size g c =
    let text : c.as_bytes.result.now ≡ half_ulp c.args.format.frac = c.as_bytes.ensures.value ∙ (c.half_ulp.ensures ∙ ap half_ulp c.frac.ensures.frac) in
    subst (λ (l : List ℕ). Appends (IsSizeText Bin c.args.format l) 1380 c.args.out.now c.push_size.new.out) text c.push_size.ensures.size
