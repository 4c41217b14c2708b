use Rattle.std.proofs.Common.{rules, FitsSigned, ◌≡◌, ◌+◌, ◌-◌, ◌*◌, ℕ, List, length, take, drop, sym, subst, arith, length-drop}
use borrow.Rule.Slice.PartMut.{put_mid}
use Rattle.std.specs.Int.{w64}
use Rattle.std.proofs.lemmas.Int.{to_z-of_z}
use Rattle.std.proofs.lemmas.List.{length-take}
use Rattle.fixed_c.specs.Decimals.{PrintsDecimal}
use Rattle.fixed_c.specs.Rows.{row_at}
use Rattle.fixed_c.proofs.RowLemmas.{row_other, row_set}
use Rattle.fixed_c.proofs.decimal_rows.print_at.Goals as goal

pub returns-clause-printed : goal.returns-clause-printed
returns-clause-printed c =
    let given : FitsSigned w64 c.args.bits = search rules in
    let m : (c.args.i * c.args.size + c.args.size) - c.args.i * c.args.size ≡ c.args.size = omega arith in
    let len : length c.print_row.new.row ≡ c.args.size =
    omega (arith, c.print_row.auto.row, length-take ((c.args.i * c.args.size + c.args.size) - c.args.i * c.args.size) (drop (c.args.i * c.args.size) c.args.rows.now), length-drop (c.args.i * c.args.size) c.args.rows.now) in
    let printed = rw (to_z-of_z w64 c.args.bits given) at c.print_row.ensures in
    let here : PrintsDecimal c.args.places c.args.bits (row_at c.args.rows.now c.args.size c.args.i) c.print_row.new.row c.print_row.result =
    subst (λ (n : ℕ). PrintsDecimal c.args.places c.args.bits (take n (drop (c.args.i * c.args.size) c.args.rows.now)) c.print_row.new.row c.print_row.result) m printed in
    let set : PrintsDecimal c.args.places c.args.bits (row_at c.args.rows.now c.args.size c.args.i) (row_at (put_mid (c.args.i * c.args.size) c.args.size c.args.rows.now c.print_row.new.row) c.args.size c.args.i) c.print_row.result =
    subst (λ (t : List ℕ). PrintsDecimal c.args.places c.args.bits (row_at c.args.rows.now c.args.size c.args.i) t c.print_row.result) (sym (row_set c.args.size c.args.i c.args.rows.now c.print_row.new.row c.requires len)) here in
    subst (λ (n : ℕ). PrintsDecimal c.args.places c.args.bits (row_at c.args.rows.now c.args.size c.args.i) (row_at (put_mid (c.args.i * c.args.size) n c.args.rows.now c.print_row.new.row) c.args.size c.args.i) c.print_row.result) (sym m) set

pub returns-clause-others : goal.returns-clause-others
returns-clause-others c =
    let m : (c.args.i * c.args.size + c.args.size) - c.args.i * c.args.size ≡ c.args.size = omega arith in
    let len : length c.print_row.new.row ≡ c.args.size =
    omega (arith, c.print_row.auto.row, length-take ((c.args.i * c.args.size + c.args.size) - c.args.i * c.args.size) (drop (c.args.i * c.args.size) c.args.rows.now), length-drop (c.args.i * c.args.size) c.args.rows.now) in
    λ k ne. subst (λ (n : ℕ). row_at (put_mid (c.args.i * c.args.size) n c.args.rows.now c.print_row.new.row) c.args.size k ≡ row_at c.args.rows.now c.args.size k) (sym m)
    (row_other c.args.size c.args.i k c.args.rows.now c.print_row.new.row c.requires len ne)
