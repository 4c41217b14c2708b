use Rattle.std.proofs.Common.{◌≡◌, ◌∙◌, ◌==◌, ◌-◌, sym, ap, arith, drop, length, ne_eqb, not, refl, true, false}
use Rattle.fixed_command.specs.Fields.{digits_of}
use Rattle.fixed_command.proofs.FieldLemmas.{group_more, group_other, groups_ended, groups_over, starts}
use Rattle.fixed_command.proofs.field.is_after_group.Goals as goal

pub returns-then-digits_of-ne3 : goal.returns-then-digits_of-ne3
returns-then-digits_of-ne3 c =
    let inv = c.groups.invariant in
    let begins : starts c.args.separator.now c.groups.rest.now ≡ true = sym c.starts_with.ensures.value ∙ c.groups-test.true in
    let group = drop (length c.args.separator.now) c.groups.rest.now in
    let count : c.digits_of.result ≡ digits_of c.args.is_hex group = c.digits_of.ensures.count ∙ ap (digits_of c.args.is_hex) c.after-group.ensures.rest in
    let other : (digits_of c.args.is_hex group == 3) ≡ false = ne_eqb (digits_of c.args.is_hex group) 3 (λ e. c.if-digits_of-ne3.true (count ∙ e)) in
    sym (inv.same ∙ group_other inv.most c.args.is_hex c.args.separator.now c.groups.rest.now (omega (arith, inv.few)) begins other)

pub groups-preserved : goal.groups-preserved
groups-preserved c =
    let inv = c.groups.invariant in
    let begins : starts c.args.separator.now c.groups.rest.now ≡ true = sym c.starts_with.ensures.value ∙ c.groups-test.true in
    let group = drop (length c.args.separator.now) c.groups.rest.now in
    let count : digits_of c.args.is_hex group ≡ 3 = sym (c.digits_of.ensures.count ∙ ap (digits_of c.args.is_hex) c.after-group.ensures.rest) ∙ c.if-digits_of-ne3.false in
    let three : (digits_of c.args.is_hex group == 3) ≡ true = rw count refl in
    let next = c.after-rest.ensures.rest ∙ ap (drop 3) c.after-group.ensures.rest in
    record {
      most = inv.most - 1;
      few = omega (arith, inv.few, c.after-group.ensures.count, c.after-rest.ensures.count);
      same = inv.same ∙ (group_more inv.most c.args.is_hex c.args.separator.now c.groups.rest.now (omega (arith, inv.few)) begins three
          ∙ ap (groups_over (inv.most - 1) c.args.is_hex c.args.separator.now) (sym next));
    }

pub returns : goal.returns
returns c =
    let inv = c.groups.invariant in
    let ends : starts c.args.separator.now c.groups.rest.now ≡ false = sym c.starts_with.ensures.value ∙ c.groups-test.false in
    ap not c.has_part.ensures ∙ sym (inv.same ∙ groups_ended inv.most c.args.is_hex c.args.separator.now c.groups.rest.now (omega (arith, inv.few)) ends)
