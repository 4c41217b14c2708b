use Rattle.std.proofs.Common.{◌≡◌, ℕ, ◌+◌, ◌-◌, ◌≤◌, min, List, ◌++◌, length, take, arith, sym, ap, ◌∙◌}
use Rattle.std.proofs.lemmas.Grind.{common_steps}
use Rattle.std.proofs.lemmas.List.{take_min, length-take}
use Rattle.std.proofs.Math.Seq.{take-append-add}
use Rattle.line_engine.specs.declared.line_buffer.TheConstants.{KEPT}
use Rattle.line_engine.proofs.line_buffer.LineBuffer.append.Goals as goal

-- the bytes kept after the old ones
keeps : (old part : List ℕ) (limit : ℕ) → length old ≤ limit → old ++ take (min (limit - length old) (length part)) part ≡ take limit (old ++ part)
keeps old part limit fits =
    let whole : limit ≡ length old + (limit - length old) = omega arith in
    let cut : take (length old + (limit - length old)) (old ++ part) ≡ old ++ take (limit - length old) part = take-append-add old part (limit - length old) in
    ap (λ more. old ++ more) (take_min (limit - length old) part) ∙ sym (ap (λ n. take n (old ++ part)) whole ∙ cut)

pub returns : goal.returns
returns c =
    let fits : length c.args.self.now ≤ KEPT = grind (arith, common_steps, c.self.invariant) in
    let is : c.extend_from_slice.new.self.items ≡ c.args.self.now ++ take (min (KEPT - length c.args.self.now) (length c.args.part.now)) c.args.part.now = grind (arith, common_steps, c.self.invariant) in
    is ∙ keeps c.args.self.now c.args.part.now KEPT fits

pub invariant_of-self : goal.invariant_of-self
invariant_of-self c =
    let is : c.extend_from_slice.new.self.items ≡ take KEPT (c.args.self.now ++ c.args.part.now) = returns c in (
      grind (arith, common_steps, c.self.invariant),
      rw is (omega (arith, length-take KEPT (c.args.self.now ++ c.args.part.now))),
    )
