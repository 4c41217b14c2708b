-- What holds of every refusal.
use Rattle.std.specs.Prelude.{Err, IfErr, Ok, Result}

pub if_refused : {T E : Type 0} (asked : Result T E) (P : E → Type 0) → ((e : E) → P e) → IfErr asked P
if_refused (Ok x) P all = tt
if_refused (Err e) P all = all e
