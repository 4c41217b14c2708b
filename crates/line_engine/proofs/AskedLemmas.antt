-- The requests to a source so far, while a run reads.
use Rattle.std.proofs.Common.{◌≡◌, ℕ, ◌+◌, ◌≤◌, Option, Some, None, Result, refl, sym, subst, arith}
use Rattle.line_engine.specs.Asked.{Asked, AskedWithin, HasAsked, IsAskedWithin, count_given, longest_chunk, one_more}

-- the source gave `taken` bytes since `old`, and no read requested too much
pub record IsAskedSoFar (limit taken : ℕ) (old now : Asked) : Type 0 where
  pub given : now.given ≡ old.given + taken
  pub within : IsAskedWithin limit old now

-- the same for a source that may not expose its requests
abbrev pub AskedSoFar : ℕ → ℕ → Option Asked → Option Asked → Type 0
AskedSoFar limit taken None now = now ≡ None
AskedSoFar limit taken (Some old) None = ⊥
AskedSoFar limit taken (Some old) (Some now) = IsAskedSoFar limit taken old now

-- before the first read
pub so_far_none : (limit : ℕ) (asked : Option Asked) → AskedSoFar limit 0 asked asked
so_far_none limit None = refl
so_far_none limit (Some asked) = record { given = omega arith; within = record { furthest = omega arith; longest = omega arith } }

-- one more read
more : (limit taken room n : ℕ) (old now : Asked) → room ≤ longest_chunk → taken + room ≤ limit + 1 → IsAskedSoFar limit taken old now → IsAskedSoFar limit (taken + n) old (one_more now room n)
more limit taken room n old now chunk fits is = record {
  given = omega (arith, is.given);
  within = record { furthest = omega (arith, is.given, is.within.furthest, fits); longest = omega (arith, is.within.longest, chunk) };
}

pub so_far_more : {E : Type 0} (limit taken room : ℕ) (old now next : Option Asked) (result : Result ℕ E) → room ≤ longest_chunk → taken + room ≤ limit + 1
    → AskedSoFar limit taken old now → HasAsked now next room result → AskedSoFar limit (taken + count_given result) old next
so_far_more limit taken room None None next result chunk fits is asks = asks
so_far_more limit taken room None (Some now) next result chunk fits is asks = absurd cc
so_far_more limit taken room (Some old) None next result chunk fits is asks = absurd is
so_far_more limit taken room (Some old) (Some now) next result chunk fits is asks =
    let P : Option Asked → Type 0 = λ a. AskedSoFar limit (taken + count_given result) (Some old) a in
    subst P (sym asks) (more limit taken room (count_given result) old now chunk fits is)

-- at the end of a run its requests are within the limit
pub so_far_within : (limit taken : ℕ) (old now : Option Asked) → AskedSoFar limit taken old now → AskedWithin limit old now
so_far_within limit taken None now is = is
so_far_within limit taken (Some old) None is = is
so_far_within limit taken (Some old) (Some now) is = is.within
