use Rattle.std.proofs.Common.{◌≡◌, ◌*◌, ◌-◌, ◌%◌, ◌^◌, ◌∙◌, ap, arith}
use Rattle.fixed_fit.proofs.ShortLemmas.{ulp_by, ulp_fits}
use Rattle.fixed_fit.proofs.short.ulp_parts.Goals as goal

pub returns-clause-ulps : goal.returns-clause-ulps
returns-clause-ulps c =
    let f = c.args.frac in
    let m = c.min.result in
    let same : 3814697265625 * 2 ^ (18 - m) % 2 ^ 64 ≡ 3814697265625 * 2 ^ (18 - m) = omega (arith, ulp_fits m) in
    (2 ^ (f - m), ap (λ n. n * 2 ^ f) same ∙ ulp_by f m c.min.ensures)
