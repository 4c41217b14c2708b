-- Rows that each leave an item and a code, one after another.
use Rattle.std.proofs.Common.{◌≢◌, ◌+◌, ◌<◌, ℕ, List, length, set, get_or, arith, below_more, get_or-set_other, get_or-set_same}

pub item_more : {T : Type 0} (Row : ℕ → T → ℕ → Type 0) (items : List T) (codes : List ℕ) (i : ℕ) (n : T) (c : ℕ) → i < length items → i < length codes
    → ((d : T) (k : ℕ) → k < i → Row k (get_or items k d) (get_or codes k 0)) → Row i n c
    → (d : T) (k : ℕ) → k < i + 1 → Row k (get_or (set items i n) k d) (get_or (set codes i c) k 0)
item_more Row items codes i n c lt less before here d =
    below_more (λ k. Row k (get_or (set items i n) k d) (get_or (set codes i c) k 0)) i
    (λ k h. let ne : k ≢ i = omega arith in rw (get_or-set_other items i k n d ne, get_or-set_other codes i k c 0 ne) (before d k h))
    (rw (get_or-set_same items i n d lt, get_or-set_same codes i c 0 less) here)
