use Rattle.std.proofs.Common.{◌≡◌, ◌+◌, ◌*◌, ◌≤◌, ◌++◌, length, take}
use Rattle.std.specs.Prelude.{flat_map}
use Rattle.fixed_show.specs.JsonText.{json_byte}
use Rattle.fixed_show.proofs.json.push_json_text.Given as goal

abbrev pub invariant-loop-byte : goal.invariant-loop-byte
invariant-loop-byte g l = (l.out ≡ l.initial.out ++ flat_map json_byte (take l.byte-index l.bytes)) × (length l.out ≤ length l.initial.out + 6 * l.byte-index)
