use Rattle.std.proofs.Common.{◌≡◌, ◌∙◌, List, ℕ, ap, arith, drop, length, sym, take}
use Rattle.std.proofs.lemmas.List.{take-append-le, take_all}
use Rattle.column_engine.specs.Rows.{content}
use Rattle.column_engine.specs.declared.place.Place.TheVariants.{Start}
use Rattle.column_engine.proofs.RowLemmas.{content_last, content_more}
use Rattle.column_engine.proofs.name.write_name.Goals as goal

pub bytes-preserved : goal.bytes-preserved
bytes-preserved g c = record {
  text_is = rw (c.push_kept.ensures.text, c.within_after-place.ensures) (content_more c.bytes.place c.args.raw.now c.bytes.name c.bytes.at (omega arith) c.bytes.invariant.text_is);
  short = omega (arith, c.push_kept.ensures.short, c.room.ensures, c.if-room-eq0.false);
}

pub returns-then-room-eq0 : goal.returns-then-room-eq0
returns-then-room-eq0 g c =
    let name : List ℕ = c.bytes.name in
    let rest : List ℕ = content c.bytes.place (drop c.bytes.at c.args.raw.now) in
    let full : length name ≡ g.row.N = omega (arith, c.room.ensures, c.if-room-eq0.true) in
    sym (take-append-le g.row.N name rest (omega (arith, full)) ∙ take_all g.row.N name (omega (arith, full))) ∙ ap (take g.row.N) (sym c.bytes.invariant.text_is)

pub returns : goal.returns
returns g c =
    let whole = content_last c.bytes.place c.args.raw.now c.bytes.name c.bytes.at (omega arith) c.bytes.invariant.text_is in
    whole ∙ sym (take_all g.row.N (content Start c.args.raw.now) (omega (arith, ap length whole, c.bytes.invariant.short)))
