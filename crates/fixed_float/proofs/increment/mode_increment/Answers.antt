use Rattle.std.proofs.Common.{◌+◌, ◌*◌, ℕ, false, ⊎_elim, subst}
use Rattle.fixed_bits.proofs.Public.{magnitude_rounded}
use Rattle.fixed_bits.specs.Rounded.{IsRounded, magnitude_mode}
use Rattle.fixed_float.proofs.IncrementLemmas.{far_alike, own_mode}
use Rattle.fixed_float.proofs.increment.mode_increment.Goals as goal

pub returns-clause-rounded : goal.returns-clause-rounded
returns-clause-rounded c q den odd either =
    let own = own_mode c.args.mode c.args.negative c.magnitude_mode_of.result c.by_sign-own.result c.magnitude_mode_of.ensures c.by_sign-own.ensures in
    let to = rw own at c.share_increment.ensures.to q odd in
    let mode = magnitude_mode c.args.mode c.args.negative in
    let more = c.share_increment.result in
    magnitude_rounded c.args.mode c.args.negative (q * den + c.args.rest) den (q + more) (⊎_elim
    (λ e. subst (λ (u : ℕ). IsRounded mode false (q * u + c.args.rest) u (q + more)) e to)
    (λ far. far_alike mode q c.args.rest c.args.unit den more far.0 far.1 to)
    either)
