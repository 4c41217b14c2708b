use Rattle.std.proofs.Common.{◌≡◌, ◌∙◌, ◌*◌, List, ℕ, ◌∷◌, [], sym, ap, length, subst, arith}
use Rattle.std.specs.List.{repeat}
use Rattle.fixed_write.specs.Inner.Styling.{IsPut}
use Rattle.fixed_write.proofs.PutLemmas.{laid_length, put_all, put_laid, repeat_length}
use Rattle.fixed_write.proofs.styled_text.StyledText.write_to.Goals as goal

pub put_times-at-requires : goal.put_times-at-requires
put_times-at-requires c =
    let whole = sym (ap length c.self.view_is) ∙ laid_length c.self.inside.fill c.self.inside.prefix c.self.inside.digits c.self.inside.tail c.self.inside.before c.self.inside.inner c.self.inside.zeros c.self.inside.after in
    let fills : c.self.inside.before * length c.as_bytes.result.now ≡ c.self.inside.before * length c.self.inside.fill = ap (λ (t : List ℕ). c.self.inside.before * length t) c.as_bytes.ensures.value in
    omega (arith, whole, c.requires, fills)

pub put-at-requires-2 : goal.put-at-requires-2
put-at-requires-2 c =
    let whole = sym (ap length c.self.view_is) ∙ laid_length c.self.inside.fill c.self.inside.prefix c.self.inside.digits c.self.inside.tail c.self.inside.before c.self.inside.inner c.self.inside.zeros c.self.inside.after in
    let fills : c.self.inside.before * length c.as_bytes.result.now ≡ c.self.inside.before * length c.self.inside.fill = ap (λ (t : List ℕ). c.self.inside.before * length t) c.as_bytes.ensures.value in
    omega (arith, whole, c.requires, fills, c.put_times-at.auto.out, c.put_times-at.ensures.place, c.put-at.auto.out, c.put-at.ensures.place, c.put_times-at-2.auto.out, c.put_times-at-2.ensures.place, repeat_length c.self.inside.before c.as_bytes.result.now, ap length c.as_bytes.ensures.value, ap length c.as_bytes-2.ensures.value, repeat_length c.self.inside.inner (48 ∷ []), ap length c.as_bytes-3.ensures.value)

pub put_times-at-requires-3 : goal.put_times-at-requires-3
put_times-at-requires-3 c =
    let whole = sym (ap length c.self.view_is) ∙ laid_length c.self.inside.fill c.self.inside.prefix c.self.inside.digits c.self.inside.tail c.self.inside.before c.self.inside.inner c.self.inside.zeros c.self.inside.after in
    let fills : c.self.inside.before * length c.as_bytes.result.now ≡ c.self.inside.before * length c.self.inside.fill = ap (λ (t : List ℕ). c.self.inside.before * length t) c.as_bytes.ensures.value in
    omega (arith, whole, c.requires, fills, c.put_times-at.auto.out, c.put_times-at.ensures.place, c.put-at.auto.out, c.put-at.ensures.place, c.put_times-at-2.auto.out, c.put_times-at-2.ensures.place, c.put-at-2.auto.out, c.put-at-2.ensures.place, repeat_length c.self.inside.before c.as_bytes.result.now, ap length c.as_bytes.ensures.value, ap length c.as_bytes-2.ensures.value, repeat_length c.self.inside.inner (48 ∷ []), ap length c.as_bytes-3.ensures.value)

pub put-at-requires-3 : goal.put-at-requires-3
put-at-requires-3 c =
    let whole = sym (ap length c.self.view_is) ∙ laid_length c.self.inside.fill c.self.inside.prefix c.self.inside.digits c.self.inside.tail c.self.inside.before c.self.inside.inner c.self.inside.zeros c.self.inside.after in
    let fills : c.self.inside.before * length c.as_bytes.result.now ≡ c.self.inside.before * length c.self.inside.fill = ap (λ (t : List ℕ). c.self.inside.before * length t) c.as_bytes.ensures.value in
    omega (arith, whole, c.requires, fills, c.put_times-at.auto.out, c.put_times-at.ensures.place, c.put-at.auto.out, c.put-at.ensures.place, c.put_times-at-2.auto.out, c.put_times-at-2.ensures.place, c.put-at-2.auto.out, c.put-at-2.ensures.place, c.put_times-at-3.auto.out, c.put_times-at-3.ensures.place, repeat_length c.self.inside.before c.as_bytes.result.now, ap length c.as_bytes.ensures.value, ap length c.as_bytes-2.ensures.value, repeat_length c.self.inside.inner (48 ∷ []), ap length c.as_bytes-3.ensures.value, repeat_length c.self.inside.zeros (48 ∷ []), ap length c.as_bytes-4.ensures.value)

pub put_times-requires : goal.put_times-requires
put_times-requires c =
    let whole = sym (ap length c.self.view_is) ∙ laid_length c.self.inside.fill c.self.inside.prefix c.self.inside.digits c.self.inside.tail c.self.inside.before c.self.inside.inner c.self.inside.zeros c.self.inside.after in
    let fills : c.self.inside.before * length c.as_bytes.result.now ≡ c.self.inside.before * length c.self.inside.fill = ap (λ (t : List ℕ). c.self.inside.before * length t) c.as_bytes.ensures.value in
    let after : c.self.inside.after * length c.as_bytes-5.result.now ≡ c.self.inside.after * length c.self.inside.fill = ap (λ (t : List ℕ). c.self.inside.after * length t) c.as_bytes-5.ensures.value in
    omega (arith, whole, c.requires, fills, after, c.put_times-at.auto.out, c.put_times-at.ensures.place, c.put-at.auto.out, c.put-at.ensures.place, c.put_times-at-2.auto.out, c.put_times-at-2.ensures.place, c.put-at-2.auto.out, c.put-at-2.ensures.place, c.put_times-at-3.auto.out, c.put_times-at-3.ensures.place, c.put-at-3.auto.out, c.put-at-3.ensures.place, repeat_length c.self.inside.before c.as_bytes.result.now, ap length c.as_bytes.ensures.value, ap length c.as_bytes-2.ensures.value, repeat_length c.self.inside.inner (48 ∷ []), ap length c.as_bytes-3.ensures.value, repeat_length c.self.inside.zeros (48 ∷ []), ap length c.as_bytes-4.ensures.value)

pub returns : goal.returns
returns c =
    let fills : IsPut (repeat c.self.inside.before c.self.inside.fill) c.args.out.now c.put_times-at.new.out 0 c.put_times-at.result = rw c.as_bytes.ensures.value at c.put_times-at.ensures in
    let prefix : IsPut c.self.inside.prefix c.put_times-at.new.out c.put-at.new.out c.put_times-at.result c.put-at.result = rw c.as_bytes-2.ensures.value at c.put-at.ensures in
    let digits : IsPut c.self.inside.digits c.put_times-at-2.new.out c.put-at-2.new.out c.put_times-at-2.result c.put-at-2.result = rw c.as_bytes-3.ensures.value at c.put-at-2.ensures in
    let tail : IsPut c.self.inside.tail c.put_times-at-3.new.out c.put-at-3.new.out c.put_times-at-3.result c.put-at-3.result = rw c.as_bytes-4.ensures.value at c.put-at-3.ensures in
    let after : IsPut (repeat c.self.inside.after c.self.inside.fill) c.put-at-3.new.out c.put_times.new.out c.put-at-3.result c.put_times.result = rw c.as_bytes-5.ensures.value at c.put_times.ensures in
    let all = put_laid c.self.inside.fill c.self.inside.prefix c.self.inside.digits c.self.inside.tail c.self.inside.before c.self.inside.inner c.self.inside.zeros c.self.inside.after _ _ _ _ _ _ _ _ _ _ _ _ _ _ _
    fills prefix c.put_times-at-2.ensures digits c.put_times-at-3.ensures tail after in
    put_all c.args.self.now c.args.out.now c.put_times.new.out c.put_times.result (subst (λ (t : List ℕ). IsPut t c.args.out.now c.put_times.new.out 0 c.put_times.result) c.self.view_is all)
