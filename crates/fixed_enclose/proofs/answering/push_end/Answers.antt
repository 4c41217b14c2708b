use Rattle.std.proofs.Common.{◌≡◌, ◌++◌, List, [], ◌∷◌, ℕ, ℤ, FitsSigned, append_assoc, rules}
use Rattle.std.specs.Int.{w128}
use Rattle.std.specs.Fmt.{signed_decimal}
use Rattle.std.proofs.lemmas.Int.{to_z-of_z}
use Rattle.fixed_respell.specs.LineWords.{space}
use Rattle.fixed_write.specs.Texts.{shortest_text}
use Rattle.fixed_enclose.proofs.answering.push_end.Goals as goal

joined : (old a b x y z w : List ℕ) → x ≡ old ++ a → y ≡ x ++ space ∷ [] → z ≡ y ++ b → w ≡ z ++ space ∷ [] → w ≡ old ++ (a ++ space ∷ (b ++ space ∷ []))
joined old a b x y z w e f g h = rw (h, g, f, e) (simp append_assoc)

pub returns-clause-appended : goal.returns-clause-appended
returns-clause-appended g c =
    let number : ℤ = c.args.number in
    let fits : FitsSigned w128 number = search rules in
    let text : c.push_shortest.new.out ≡ c.args.out.now ++ shortest_text number c.args.frac = rw (to_z-of_z w128 number fits) at c.push_shortest.ensures.appended in
    let bits : c.push_integer.new.out ≡ c.push.new.self ++ signed_decimal number = rw (to_z-of_z w128 number fits) at c.push_integer.ensures.appended in
    joined c.args.out.now (shortest_text number c.args.frac) (signed_decimal number) c.push_shortest.new.out c.push.new.self c.push_integer.new.out c.push-2.new.self text c.push.ensures bits c.push-2.ensures
