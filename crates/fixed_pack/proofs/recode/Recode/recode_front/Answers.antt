use Rattle.std.proofs.Common.{[], append-nil, refl, sym}
use Rattle.fixed_pack.proofs.recode.Recode.recode_front.Goals as goal

pub returns : goal.returns
returns g c = record { words = []; all = []; rest = c.args._bytes.now; whole = tt; cut = refl; count_is = refl; are = tt; none = refl; appended = sym (append-nil c.args._out.now) }
