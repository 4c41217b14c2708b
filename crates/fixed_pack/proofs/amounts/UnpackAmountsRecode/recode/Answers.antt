use Rattle.std.proofs.Common.{◌≡◌, ◌∙◌, ◌++◌, ◌∷◌, [], List, ℕ, ℤ, FitsSigned, false, ap, append_assoc, refl, rules, subst}
use Rattle.std.proofs.lemmas.Int.{to_z-of_z}
use Rattle.std.specs.Int.{w64}
use Rattle.fixed_amounts.specs.Reading.{words}
use Rattle.fixed_amounts.specs.Reply.{printed}
use Rattle.fixed_pack.specs.Word.{IsBitsOf}
use Rattle.fixed_pack.proofs.amounts.UnpackAmountsRecode.recode.Goals as goal

pub returns : goal.returns
returns g c whole =
    let r = c.args.self.now in
    let units : ℤ = c.units_of.result in
    let fit : FitsSigned w64 units = search rules in
    let line : List ℕ = printed r.print r.format units false in
    let part : c.push_part.new.out ≡ c.args.out.now ++ line = rw (to_z-of_z w64 units fit) at c.push_part.ensures.appended in
    record {
      made = line ++ 10 ∷ [];
      is = record {
        units = units;
        are = subst (λ (n : ℕ). IsBitsOf words n units) c.word_number.ensures.value c.units_of.ensures;
        line_is = refl;
        clean = refl;
      };
      appended = c.push.ensures ∙ (ap (λ l. l ++ 10 ∷ []) part ∙ append_assoc c.args.out.now line (10 ∷ []));
    }
