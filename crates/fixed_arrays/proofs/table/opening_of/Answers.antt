use Rattle.std.proofs.Common.{ap, sym}
use Rattle.fixed_arrays.specs.Table.{opening}
use Rattle.fixed_arrays.proofs.table.opening_of.Goals as goal

pub returns-in-C : goal.returns-in-C
unfolding opening
returns-in-C c = ap opening (sym c.in-C.is)

pub returns-in-GuardedC : goal.returns-in-GuardedC
unfolding opening
returns-in-GuardedC c = ap opening (sym c.in-GuardedC.is)

pub returns-in-Rust : goal.returns-in-Rust
unfolding opening
returns-in-Rust c = ap opening (sym c.in-Rust.is)

pub returns-in-Vhdl : goal.returns-in-Vhdl
unfolding opening
returns-in-Vhdl c = ap opening (sym c.in-Vhdl.is)

pub returns-in-Readmemh : goal.returns-in-Readmemh
unfolding opening
returns-in-Readmemh c = ap opening (sym c.in-Readmemh.is)

pub returns-in-Coe : goal.returns-in-Coe
unfolding opening
returns-in-Coe c = ap opening (sym c.in-Coe.is)

pub returns-in-Mif : goal.returns-in-Mif
unfolding opening
returns-in-Mif c = ap opening (sym c.in-Mif.is)
