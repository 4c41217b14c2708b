use Rattle.std.proofs.Common.{ℕ, ◌+◌, ◌≤◌, ◌≡◌, List, ◌++◌, length, take, drop, arith}
use Rattle.std.proofs.lemmas.Grind.{common_steps}
use Rattle.std.proofs.lemmas.List.{take_at, length-take-le, drop-drop, take-append-drop, drop_all}
use Rattle.line_engine.proofs.memory.MemorySourceSource.read.Goals as goal

-- the bytes read, and the bytes left after them
moves : (bytes buf copied : List ℕ) (at count : ℕ) → count ≤ length (drop at bytes) → copied ≡ take count (drop at bytes)
    → drop at bytes ≡ take count (copied ++ drop count buf) ++ drop (at + count) bytes
moves bytes buf copied at count fits is =
    let long : length copied ≡ count = rw is (length-take-le count (drop at bytes) fits) in
    let first : take count (copied ++ drop count buf) ≡ copied = take_at copied (drop count buf) count long in
    let rest : drop count (drop at bytes) ≡ drop (at + count) bytes = drop-drop count at bytes in
    let whole : take count (drop at bytes) ++ drop count (drop at bytes) ≡ drop at bytes = take-append-drop count (drop at bytes) in
    cc

pub returns-clause-bytes : goal.returns-clause-bytes
returns-clause-bytes c = (
  moves c.args.self.now.bytes.items c.args.buf.now c.copy_from_slice.new.self c.args.self.now.at c.min-count.result (grind (arith, common_steps)) (grind (arith, common_steps)),
  λ none some. grind (arith, common_steps, drop_all (c.args.self.now.at) c.args.self.now.bytes.items),
)
