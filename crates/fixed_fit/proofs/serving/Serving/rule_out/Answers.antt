use Rattle.std.proofs.Common.{◌≡◌, ℕ, true, false, List, refl, sym, subst, arith}
use Rattle.fixed_fit.specs.Inner.Serving.{AreFew, HaveRoom, IsBestOf}
use Rattle.fixed_fit.specs.declared.lengths.Lengths.{Lengths}
use Rattle.fixed_fit.proofs.ServingLemmas.{IsLeastNext, IsWithinNext, ends, few_after, few_of, goes_on, lowered_few, lowered_within}
use Rattle.fixed_fit.proofs.serving.Serving.rule_out.Goals as goal

pub lower_all-most-requires-clause-few : goal.lower_all-most-requires-clause-few
lower_all-most-requires-clause-few g c =
    let known = c.requires.known in
    let on : c.args.self.now.is_served ≡ true = c.requires.on in
    few_of c.args.radix known.1 known.4 c.args.self.now.lengths.items (known.5.serving on).lengths

pub next_low-self-requires-clause-few : goal.next_low-self-requires-clause-few
next_low-self-requires-clause-few g c =
    let known = c.requires.known in
    let on : c.args.self.now.is_served ≡ true = c.requires.on in
    let few = lowered_few c.args.radix known.1 known.4 c.args.line.now c.args.place c.args.self.now.lengths.items c.lower_all-most.new.lengths.items c.lower_all-most.ensures.lowered (known.5.serving on).lengths in
    let is = c.lower_all-most.ensures.most in
    omega (arith, few, is)

pub next_low-self-requires-clause-within : goal.next_low-self-requires-clause-within
next_low-self-requires-clause-within g c = λ f less.
    let known = c.requires.known in
    let on : c.args.self.now.is_served ≡ true = c.requires.on in
    let is = c.lower_all-most.ensures.most in
    lowered_within c.args.radix known.1 known.4 c.args.line.now c.args.place f c.args.self.now.lengths.items c.lower_all-most.new.lengths.items c.lower_all-most.ensures.lowered (known.5.serving on).lengths (omega (arith, less, is))

pub returns-then-most-self-clause-one_more : goal.returns-then-most-self-clause-one_more
returns-then-most-self-clause-one_more g c = λ range s widths one lines h at.
    let old = c.args.self.now in
    let r = c.args.radix in
    let line = c.args.line.now in
    let is = c.lower_all-most.ensures.most in
    let past = c.if-most-self.true in
    let low = c.next_low-self.result in
    let room : HaveRoom c.least_room-self.result c.lower_all-most.new.lengths.items = subst (λ (l : List Lengths). HaveRoom c.least_room-self.result l) c.deref.ensures.value c.least_room-self.ensures in
    let least = subst (λ (b : List ℕ). IsLeastNext old.is_range r line old.low low b) c.deref-2.ensures.value c.next_low-self.ensures.least in
    ends range r s widths one lines line c.args.place old (record { bound = old.bound; lengths = c.lower_all-most.new.lengths; signed = old.signed; room = c.least_room-self.result; low = low; half = old.half; place = c.args.place; is_range = old.is_range; is_served = false; width = old.width; raised = old.raised }) refl refl refl refl room refl refl c.requires.on
    c.lower_all-most.ensures.lowered least (omega (arith, past, is)) at h

pub returns-clause-one_more : goal.returns-clause-one_more
returns-clause-one_more g c = λ range s widths one lines h at.
    let old = c.args.self.now in
    let r = c.args.radix in
    let line = c.args.line.now in
    let is = c.lower_all-most.ensures.most in
    let less = c.if-most-self.false in
    let low = c.next_low-self.result in
    let room : HaveRoom c.least_room-self.result c.lower_all-most.new.lengths.items = subst (λ (l : List Lengths). HaveRoom c.least_room-self.result l) c.deref.ensures.value c.least_room-self.ensures in
    let best = c.best_of.result in
    let width = c.width-width.ensures.width in
    let least = subst (λ (b : List ℕ). IsLeastNext old.is_range r line old.low low b) c.deref-2.ensures.value c.next_low-self.ensures.least in
    let within = subst (λ (b : List ℕ). IsWithinNext old.is_range r line old.low low b) c.deref-2.ensures.value (λ lines w. c.next_low-self.ensures.within lines w (omega (arith, less))) in
    goes_on range r s widths one lines line c.args.place old (record { bound = old.bound; lengths = c.lower_all-most.new.lengths; signed = old.signed; room = c.least_room-self.result; low = low; half = old.half; place = old.place; is_range = old.is_range; is_served = old.is_served; width = c.width-width.result; raised = c.raised_by-self.result }) best refl refl refl refl room refl c.requires.on
    c.lower_all-most.ensures.lowered within least (omega (arith, less, is)) at (subst (λ (l : List Lengths). IsBestOf low l best) c.deref-3.ensures.value c.best_of.ensures) width c.raised_by-self.ensures.same c.raised_by-self.ensures.moved h

pub least_room-self-requires : goal.least_room-self-requires
least_room-self-requires g c =
    let known = c.requires.known in
    let on : c.args.self.now.is_served ≡ true = c.requires.on in
    let few = few_of c.args.radix known.1 known.4 c.args.self.now.lengths.items (known.5.serving on).lengths in
    subst (λ (l : List Lengths). AreFew l) (sym c.deref.ensures.value) (few_after c.args.radix c.args.line.now c.args.place c.args.self.now.lengths.items c.lower_all-most.new.lengths.items c.lower_all-most.ensures.lowered few)
