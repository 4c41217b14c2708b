use Rattle.std.proofs.Common.{arith, rules, ap, ◌≡◌, ◌++◌, ◌+◌, ◌-◌, [], ◌∷◌, false, take, drop, refl, length}
use Rattle.fixed_write.specs.Texts.{point_text}
use Rattle.fixed_write.proofs.ScaleLemmas.{block_ten}
use Rattle.fixed_write.proofs.LeadingLemmas.{places_kept, places_raised, whole_is, all_or_none, take_some, whole_within}
use Rattle.fixed_write.proofs.exponent.push_rounded_places.Goals as goal

pub push_rounded_in-requires : goal.push_rounded_in-requires
push_rounded_in-requires c = (search rules, (block_ten, ((λ e. omega arith), (omega arith, omega (arith, ap length c.new-text.ensures)))))

pub push_without_point-requires-clause-room : goal.push_without_point-requires-clause-room
push_without_point-requires-clause-room c = omega (arith, ap length c.requires.empty, c.whole_len-whole.ensures.within)

pub returns-then-whole-decade-clause-figures : goal.returns-then-whole-decade-clause-figures
returns-then-whole-decade-clause-figures c =
    let text : c.push_rounded_in.new.out ≡ [] ++ point_text 10 false c.min-places.result c.push_rounded_in.ensures.number = rw c.new-text.ensures at c.push_rounded_in.ensures.text_is in
    let whole = whole_is _ _ _ _ text c.whole_len-whole.ensures.none c.whole_len-whole.ensures.some in
    let digits : c.push_without_point.new.out ≡ [] ++ (take c.whole_len-whole.result c.push_rounded_in.new.out ++ drop (c.whole_len-whole.result + 1) c.push_rounded_in.new.out) = rw c.requires.empty at c.push_without_point.ensures in
    places_kept _ _ _ _ _ _ _ _ _ _ c.args.value.below c.requires.low c.requires.high (all_or_none c.args.precision c.args.decade _ _ c.min-places.ensures refl) (omega (arith, c.requires.decade, c.min-places.ensures)) c.push_rounded_in.ensures.rounded text whole c.if-whole-decade.true digits

pub returns-else-whole-decade-clause-figures : goal.returns-else-whole-decade-clause-figures
returns-else-whole-decade-clause-figures c =
    let text : c.push_rounded_in.new.out ≡ [] ++ point_text 10 false c.min-places.result c.push_rounded_in.ensures.number = rw c.new-text.ensures at c.push_rounded_in.ensures.text_is in
    let whole = whole_is _ _ _ _ text c.whole_len-whole.ensures.none c.whole_len-whole.ensures.some in
    let digits : c.push.new.self ≡ [] ++ 49 ∷ [] = rw c.requires.empty at c.push.ensures in
    places_raised _ _ _ _ (c.args.precision - c.args.decade - c.min-places.result) _ _ _ _ _ c.args.value.below c.requires.low c.requires.high (all_or_none c.args.precision c.args.decade _ _ c.min-places.ensures refl) (omega (arith, c.requires.decade, c.min-places.ensures)) c.push_rounded_in.ensures.rounded text whole c.if-whole-decade.false digits

pub returns-then-whole-decade-clause-some : goal.returns-then-whole-decade-clause-some
returns-then-whole-decade-clause-some c =
    let digits : c.push_without_point.new.out ≡ [] ++ (take c.whole_len-whole.result c.push_rounded_in.new.out ++ drop (c.whole_len-whole.result + 1) c.push_rounded_in.new.out) = rw c.requires.empty at c.push_without_point.ensures in
    rw digits (take_some c.whole_len-whole.result c.push_rounded_in.new.out (drop (c.whole_len-whole.result + 1) c.push_rounded_in.new.out) (omega (arith, c.if-whole-decade.true)) (whole_within _ _ _ _ c.whole_len-whole.ensures.none c.whole_len-whole.ensures.some c.if-whole-decade.true))
