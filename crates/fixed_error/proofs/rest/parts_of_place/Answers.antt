use Rattle.std.proofs.Common.{◌≡◌, ◌-◌, ◌*◌, ◌^◌, ◌∙◌, ap}
use Rattle.fixed_error.proofs.ShortLemmas.{places_left}
use Rattle.fixed_error.proofs.rest.parts_of_place.Goals as goal

pub returns : goal.returns
returns c =
    let places = c.args.places in
    let high = c.min-high.result in
    let first : c.from-first.result ≡ 10 ^ (18 - high) = c.from-first.ensures ∙ c.power_of_ten.ensures in
    let second : c.from-second.result ≡ 10 ^ (18 - (places - high)) = c.from-second.ensures ∙ c.power_of_ten-2.ensures in
    ap (λ t. t * c.from-second.result * 10 ^ places) first ∙ (ap (λ t. 10 ^ (18 - high) * t * 10 ^ places) second ∙ places_left places high c.requires c.min-high.ensures)
