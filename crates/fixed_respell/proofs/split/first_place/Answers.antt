use Rattle.std.proofs.Common.{sym, refl}
use Rattle.std.proofs.lemmas.Bool.{eq-eqb, ne_eqb, cond-true, cond-false}
use Rattle.fixed_respell.proofs.LaneLemmas.{place_is}
use Rattle.fixed_respell.proofs.split.first_place.Goals as goal

pub returns-then-found-eq0-clause-none : goal.returns-then-found-eq0-clause-none
returns-then-found-eq0-clause-none c = (place_is c.args.wanted 16 _ c.args.bytes.now c.requires refl (sym (cond-true _ _ _ (eq-eqb _ _ c.if-found-eq0.true)))).none

pub returns-else-found-eq0-clause-within : goal.returns-else-found-eq0-clause-within
returns-else-found-eq0-clause-within c = (place_is c.args.wanted _ _ c.args.bytes.now c.requires refl (sym (cond-false _ _ _ (ne_eqb _ _ c.if-found-eq0.false)))).within

pub returns-else-found-eq0-clause-none : goal.returns-else-found-eq0-clause-none
returns-else-found-eq0-clause-none c = (place_is c.args.wanted _ _ c.args.bytes.now c.requires refl (sym (cond-false _ _ _ (ne_eqb _ _ c.if-found-eq0.false)))).none

pub returns-else-found-eq0-clause-found : goal.returns-else-found-eq0-clause-found
returns-else-found-eq0-clause-found c = (place_is c.args.wanted _ _ c.args.bytes.now c.requires refl (sym (cond-false _ _ _ (ne_eqb _ _ c.if-found-eq0.false)))).found
