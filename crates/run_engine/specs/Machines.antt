-- What a machine does with its input.
use Rattle.std.specs.Prelude.{◌≡◌, ◌+◌, ◌≤◌, ℕ, Bool, true, false, List, [], ◌++◌, Result, Ok, Err}
use Rattle.run_engine.specs.Seen.{Breaks, Moment, Puts}
use Rattle.run_engine.specs.declared.machine.Halt.{Halt}
use Rattle.run_engine.specs.declared.machine.Halt.TheVariants.{WriteFault, NoMemory, Stopped}

-- how a machine stands with its input: it goes on; it has finished (true: something was refused); it lacks memory; or
-- it has stopped for a reason of its own, before the end of the input or (true) at it
pub data How (T : Type 0) : Type 0 where
  going : How T
  finished : Bool → How T
  lacking : How T
  stopped : Bool → T → How T

-- The meaning of a machine is a relation `Makes bytes text spent how last`: of these bytes it has made this text in at
-- most `spent` steps, it stands with its input as `how` says, and it is now `last`.

-- the machine goes on after some bytes
abbrev pub IsGoing : {M T : Type 0} → (M → List ℕ → List ℕ → ℕ → How T → M → Type 0) → M → Type 0
IsGoing {M = M} Makes m = (first : M) × (bytes : List ℕ) × (made : List ℕ) × (spent : ℕ)
    × Makes first bytes made spent going m

-- a machine that had made `made` of `bytes` also took `next`, and put the text that it made of it
pub record Goes {M T : Type 0} (Makes : List ℕ → List ℕ → ℕ → How T → M → Type 0)
    (bytes made : List ℕ) (spent : ℕ) (next : List ℕ) (how : How T) (last : M) (a b : Moment) : Type 0 where
  pub more : List ℕ
  pub cost : ℕ
  pub makes : Makes (bytes ++ next) (made ++ more) (spent + cost) how last
  pub puts : Puts a.seen b.seen a.held b.held more
  pub steps : b.steps ≤ a.steps + cost

-- only a prefix of the next bytes was taken, for lack of memory
pub record GoesAmong {M T : Type 0} (Makes : List ℕ → List ℕ → ℕ → How T → M → Type 0)
    (bytes made : List ℕ) (spent : ℕ) (next : List ℕ) (last : M) (a b : Moment) : Type 0 where
  pub some : List ℕ
  pub rest : List ℕ
  pub cut : next ≡ some ++ rest
  pub goes : Goes Makes bytes made spent some lacking last a b

-- a machine that has finished has used all of the next bytes
abbrev pub UsesNext : {T : Type 0} → Bool → How T → List ℕ → Type 0
UsesNext ended going rest = Unit {0}
UsesNext ended (finished fault) rest = (ended ≡ true) × (rest ≡ [])
UsesNext ended lacking rest = Unit {0}
UsesNext ended (stopped late why) rest = Unit {0}

-- a write failed with what was made of a prefix of the next bytes or at the end of the input
pub record BreaksAmong {M T : Type 0} (Makes : List ℕ → List ℕ → ℕ → How T → M → Type 0)
    (ended : Bool) (bytes made : List ℕ) (spent : ℕ) (next : List ℕ) (last : M) (a b : Moment) : Type 0 where
  pub some : List ℕ
  pub rest : List ℕ
  pub cut : next ≡ some ++ rest
  pub how : How T
  pub uses : UsesNext ended how rest
  pub more : List ℕ
  pub cost : ℕ
  pub makes : Makes (bytes ++ some) (made ++ more) (spent + cost) how last
  pub breaks : Breaks a.seen b.seen a.held more
  pub steps : b.steps ≤ a.steps + cost

-- the effect of the next bytes on a machine that halts for this reason
abbrev pub Halts : {M T : Type 0} → (List ℕ → List ℕ → ℕ → How T → M → Type 0) → Bool → List ℕ → List ℕ → ℕ → List ℕ
    → M → Moment → Moment → Halt T → Type 0
Halts Makes ended bytes made spent next last a b WriteFault = BreaksAmong Makes ended bytes made spent next last a b
Halts Makes ended bytes made spent next last a b NoMemory = GoesAmong Makes bytes made spent next last a b
Halts Makes ended bytes made spent next last a b (Stopped why) = Goes Makes bytes made spent next (stopped ended why)
    last a b

-- the effect of the next bytes on a machine
abbrev pub Feeds : {M T : Type 0} → (List ℕ → List ℕ → ℕ → How T → M → Type 0) → List ℕ → List ℕ → ℕ → List ℕ → M
    → Moment → Moment → Result (Unit {0}) (Halt T) → Type 0
Feeds Makes bytes made spent next last a b (Ok _) = Goes Makes bytes made spent next going last a b
Feeds Makes bytes made spent next last a b (Err halt) = Halts Makes false bytes made spent next last a b halt

-- the effect of the end of the input on a machine
abbrev pub Finishes : {M T : Type 0} → (List ℕ → List ℕ → ℕ → How T → M → Type 0) → List ℕ → List ℕ → ℕ → M
    → Moment → Moment → Result Bool (Halt T) → Type 0
Finishes Makes bytes made spent last a b (Ok fault) = Goes Makes bytes made spent [] (finished fault) last a b
Finishes Makes bytes made spent last a b (Err halt) = Halts Makes true bytes made spent [] last a b halt

-- ---- the text made of some bytes is determined
abbrev pub Agree : {T : Type 0} → How T → List ℕ → How T → List ℕ → Type 0
Agree going a going b = a ≡ b
Agree going a (finished g) b = Unit {0}
Agree going a lacking b = Unit {0}
Agree going a (stopped late t) b = late ≡ true
Agree (finished f) a going b = Unit {0}
Agree (finished f) a (finished g) b = (a ≡ b) × (f ≡ g)
Agree (finished f) a lacking b = Unit {0}
Agree (finished f) a (stopped late t) b = ⊥
Agree lacking a then b = Unit {0}
Agree (stopped late s) a going b = late ≡ true
Agree (stopped late s) a (finished g) b = ⊥
Agree (stopped late s) a lacking b = Unit {0}
Agree (stopped late s) a (stopped later t) b = (late ≡ later) × (a ≡ b) × (s ≡ t)
