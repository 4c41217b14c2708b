use Rattle.std.proofs.lemmas.Str.{IsUtf8-from_ascii}
use Rattle.text_buffer.proofs.TextBuffer.as_ascii_str.Goals as goal

pub from_utf8_unchecked-requires : goal.from_utf8_unchecked-requires
from_utf8_unchecked-requires g c = rw c.as_bytes-bytes.ensures.value (IsUtf8-from_ascii _ c.requires)
