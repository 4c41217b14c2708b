use Rattle.std.proofs.Common.{◌≡◌, ◌≤◌, ◌+◌, ◌-◌, List, ℕ, length, take, drop, map, refl, ap, ◌∙◌, arith, take_all, length-drop}
use lib.Lanes.{mask_l}
use Rattle.fixed_respell.proofs.MaskLemmas.{is_space, two_masks}
use Rattle.fixed_respell.proofs.fields.spaces_of_prefix.Goals as goal

pub returns : goal.returns
returns c =
    let line : List ℕ = c.args.line.now in
    let at : ℕ = c.min-at.result in
    let most : at ≤ 16 = omega arith in
    let room : at + 16 ≤ length line = omega arith in
    let all : take (length line - at) (drop at line) ≡ drop at line = take_all (length line - at) (drop at line) (omega (arith, length-drop at line)) in
    two_masks line at c.spaces_of_sixteen-low.result c.spaces_of_sixteen-high.result _ most room c.spaces_of_sixteen-low.ensures.mask (c.spaces_of_sixteen-high.ensures.mask ∙ ap (λ l. mask_l (map is_space (take 16 l))) all) refl
