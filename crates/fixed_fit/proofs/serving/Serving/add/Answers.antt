use Rattle.std.proofs.Common.{◌≡◌, sym, ◌∙◌}
use Rattle.fixed_fit.specs.Inner.Serving.{IsIn}
use Rattle.fixed_fit.specs.declared.lengths.Lengths.{Lengths}
use Rattle.fixed_fit.proofs.KeptLemmas.{all_by_room, stays}
use Rattle.fixed_fit.proofs.ServingLemmas.{frozen, left_in}
use Rattle.fixed_fit.proofs.serving.Serving.add.Goals as goal

pub returns-then-not-self-clause-one_more : goal.returns-then-not-self-clause-one_more
returns-then-not-self-clause-one_more g c = λ range s widths one lines h at. frozen range c.args.radix s widths one lines c.args.line.now c.args.self.now c.if-not-self.true h

pub returns-then-is_within_room-clause-one_more : goal.returns-then-is_within_room-clause-one_more
returns-then-is_within_room-clause-one_more g c = λ range s widths one lines h at.
    let v = c.args.self.now in
    let found = c.in-Some.found in
    let read = rw c.in-Some.is at c.requires.flat in
    let room = c.is_within_room.ensures in
    let signs : (l : Lengths) → IsIn l v.lengths.items → l.kind.signed ≡ v.signed = λ l is. (left_in c.args.radix s lines l v.lengths.items is (h.serving c.if-not-self.false).lengths).signed ∙ sym h.signed_is in
    let left = all_by_room v.lengths.items found v.room v.signed signs (room.sign c.if-is_within_room.true) read.flat (room.room c.if-is_within_room.true) h.room in
    stays range c.args.radix s widths one lines c.args.line.now c.args.place found.decimal v c.if-not-self.false (c.is_surely_within.ensures c.if-is_surely_within.true) read.read read.flat.exponent left at h

pub is_surely_within-requires : goal.is_surely_within-requires
is_surely_within-requires g c = let read = rw c.in-Some.is at c.requires.flat in read.read.fraction
