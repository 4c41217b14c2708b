use Rattle.std.proofs.Common.{ap, sym}
use Rattle.fixed_arrays.specs.Table.{closing}
use Rattle.fixed_arrays.proofs.table.closing_of.Goals as goal

pub returns-in-C : goal.returns-in-C
unfolding closing
returns-in-C c = ap closing (sym c.in-C.is)

pub returns-in-GuardedC : goal.returns-in-GuardedC
unfolding closing
returns-in-GuardedC c = ap closing (sym c.in-GuardedC.is)

pub returns-in-Rust : goal.returns-in-Rust
unfolding closing
returns-in-Rust c = ap closing (sym c.in-Rust.is)

pub returns-in-Vhdl : goal.returns-in-Vhdl
unfolding closing
returns-in-Vhdl c = ap closing (sym c.in-Vhdl.is)

pub returns-in-Readmemh : goal.returns-in-Readmemh
unfolding closing
returns-in-Readmemh c = ap closing (sym c.in-Readmemh.is)

pub returns-in-Coe : goal.returns-in-Coe
unfolding closing
returns-in-Coe c = ap closing (sym c.in-Coe.is)

pub returns-in-Mif : goal.returns-in-Mif
unfolding closing
returns-in-Mif c = ap closing (sym c.in-Mif.is)
