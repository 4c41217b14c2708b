use Rattle.std.proofs.Common.{arith, refl}
use Rattle.fixed_numeral.proofs.Public.{pow-mul}
use Rattle.fixed_read.proofs.ShortNumeralLemmas.{word_room}
use Rattle.fixed_read.proofs.short_numeral.binary_digits.Goals as goal

pub shl_u64-requires-clause-room : goal.shl_u64-requires-clause-room
shl_u64-requires-clause-room c = omega (arith, word_room c.args.bits c.args.found.places c.args.found.whole c.args.found.fraction c.requires.bits c.requires.few.fits)

pub to_u64-requires : goal.to_u64-requires
to_u64-requires c = omega (arith, word_room c.args.bits c.args.found.places c.args.found.whole c.args.found.fraction c.requires.bits c.requires.few.fits)

pub overflow_add-result : goal.overflow_add-result
overflow_add-result c = omega (arith, c.shl_u64.ensures, c.to_u64.ensures, word_room c.args.bits c.args.found.places c.args.found.whole c.args.found.fraction c.requires.bits c.requires.few.fits)

pub returns : goal.returns
returns c = rw (c.shl_u64.ensures, c.to_u64.ensures, pow-mul 2 c.args.bits c.args.found.places) refl
