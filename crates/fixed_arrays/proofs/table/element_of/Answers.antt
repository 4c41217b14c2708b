use Rattle.std.proofs.Common.{ap, sym}
use Rattle.fixed_arrays.specs.Table.{element}
use Rattle.fixed_arrays.proofs.table.element_of.Goals as goal

pub returns-in-C : goal.returns-in-C
unfolding element
returns-in-C c = ap element (sym c.in-C.is)

pub returns-in-GuardedC : goal.returns-in-GuardedC
unfolding element
returns-in-GuardedC c = ap element (sym c.in-GuardedC.is)

pub returns-in-Rust : goal.returns-in-Rust
unfolding element
returns-in-Rust c = ap element (sym c.in-Rust.is)

pub returns-in-Vhdl : goal.returns-in-Vhdl
unfolding element
returns-in-Vhdl c = ap element (sym c.in-Vhdl.is)

pub returns-in-Readmemh : goal.returns-in-Readmemh
unfolding element
returns-in-Readmemh c = ap element (sym c.in-Readmemh.is)

pub returns-in-Coe : goal.returns-in-Coe
unfolding element
returns-in-Coe c = ap element (sym c.in-Coe.is)

pub returns-in-Mif : goal.returns-in-Mif
unfolding element
returns-in-Mif c = ap element (sym c.in-Mif.is)
