use Rattle.std.proofs.Common.{◌≡◌, ◌++◌, ℤ, FitsSigned, refl, rules, subst}
use Rattle.std.proofs.lemmas.Int.{to_z-of_z}
use Rattle.std.specs.Int.{w64}
use Rattle.fixed_amounts.specs.Reading.{IsReadAs, words}
use Rattle.fixed_pack.specs.Word.{word_bytes}
use Rattle.fixed_pack.proofs.amounts.PackAmountsPack.pack.Goals as goal

pub returns-in-Ok : goal.returns-in-Ok
returns-in-Ok g c =
    let s = c.args.self.now in
    let units : ℤ = c.in-Ok.amount.units in
    let fit : FitsSigned w64 units = search rules in
    let pushed : c.push_units.new.out ≡ c.args.out.now ++ word_bytes s.endian words units = rw (to_z-of_z w64 units fit) at c.push_units.ensures in
    let overflowed = c.in-Ok.amount.overflowed in
    record {
      word = word_bytes s.endian words units;
      is = record {
        units = units;
        overflowed = overflowed;
        read = subst (λ n. IsReadAs s.mode n s.format s.policy units overflowed) c.without_return.ensures.line c.in-Ok.ensures.read;
        word_is = refl;
      };
      appended = pushed;
    }
