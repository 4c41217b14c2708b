-- What a run leaves, by its end, for every machine.
use Rattle.std.specs.Prelude.{◌≡◌, ◌+◌, ◌≤◌, ℕ, Bool, true, false, List, [], ◌++◌, length, take}
use Rattle.std.specs.declared.option.Option.{Option}
use Rattle.std.specs.Io.KnownBytes.{Appends, Consumes, IsAtEnd}
use Rattle.line_engine.specs.Appended.{AppendsPrefix}
use Rattle.line_engine.specs.Asked.{AskedWithin}
use Rattle.line_engine.specs.Failures.{HasFailed}
use Rattle.run_engine.specs.Machines.{How, going, finished, lacking, stopped}
use Rattle.run_engine.specs.Seen.{Moment, SameDevices, Seen}
use Rattle.run_engine.specs.declared.engine.End.{End}
use Rattle.run_engine.specs.declared.engine.End.TheVariants.{Done, Faults, ReadFault, WriteFault, NoMemory, TooLong}
use Rattle.run_engine.specs.declared.engine.End.TheVariants.{Stopped}

-- the bytes `taken` were taken, and the text made of `used` was written, in at most `spent` steps
pub record Made {M T : Type 0} (Makes : List ℕ → List ℕ → ℕ → How T → M → Type 0)
    (how : How T) (last : M) (a b : Moment) (taken used : List ℕ) : Type 0 where
  pub text : List ℕ
  pub spent : ℕ
  pub consumed : Consumes a.seen.left b.seen.left taken
  pub makes : Makes used text spent how last
  pub output : Appends a.seen.written b.seen.written text
  pub steps : b.steps ≤ a.steps + spent

-- an input within the limit was read to its end, and all that was made of it was written
pub record Completes {M T : Type 0} (Makes : List ℕ → List ℕ → ℕ → How T → M → Type 0)
    (last : M) (limit : ℕ) (a b : Moment) (fault : Bool) : Type 0 where
  pub input : List ℕ
  pub within : length input ≤ limit
  pub at_end : IsAtEnd b.seen.left
  pub made : Made Makes (finished fault) last a b input input

-- what was made of the bytes taken, without the end of the input, was written
pub record Interrupts {M T : Type 0} (Makes : List ℕ → List ℕ → ℕ → How T → M → Type 0)
    (last : M) (limit : ℕ) (a b : Moment) : Type 0 where
  pub bytes : List ℕ
  pub within : length bytes ≤ limit
  pub made : Made Makes going last a b bytes bytes

-- one byte past the limit was taken, and what was made of those before it was written
pub record Exceeds {M T : Type 0} (Makes : List ℕ → List ℕ → ℕ → How T → M → Type 0)
    (last : M) (limit : ℕ) (a b : Moment) : Type 0 where
  pub bytes : List ℕ
  pub past : length bytes ≡ limit + 1
  pub made : Made Makes going last a b bytes (take limit bytes)

-- the machine stopped within the bytes taken or, if `late`, at the end of the input
pub record Stops {M T : Type 0} (Makes : List ℕ → List ℕ → ℕ → How T → M → Type 0)
    (last : M) (limit : ℕ) (a b : Moment) (why : T) : Type 0 where
  pub bytes : List ℕ
  pub bound : length bytes ≤ limit + 1
  pub late : Bool
  pub at_end : late ≡ true → (IsAtEnd b.seen.left × (length bytes ≤ limit))
  pub made : Made Makes (stopped late why) last a b bytes (take limit bytes)

-- memory ran out: what was made of a prefix of the bytes taken was written
pub record Lacks {M T : Type 0} (Makes : List ℕ → List ℕ → ℕ → How T → M → Type 0)
    (last : M) (limit : ℕ) (a b : Moment) : Type 0 where
  pub bytes : List ℕ
  pub some : List ℕ
  pub rest : List ℕ
  pub bound : length bytes ≤ limit + 1
  pub cut : take limit bytes ≡ some ++ rest
  pub made : Made Makes lacking last a b bytes some

-- a machine that had finished when a write failed has used all of an input within the limit
abbrev pub UsesAll : {T : Type 0} → How T → ℕ → List ℕ → List ℕ → Option (List ℕ) → Type 0
UsesAll going limit bytes rest left = Unit {0}
UsesAll (finished fault) limit bytes rest left = IsAtEnd left × (length bytes ≤ limit) × (rest ≡ [])
UsesAll lacking limit bytes rest left = Unit {0}
UsesAll (stopped late why) limit bytes rest left = Unit {0}

-- a write failed: part of what was made of a prefix of the bytes taken was written
pub record Fails {M T : Type 0} (Makes : List ℕ → List ℕ → ℕ → How T → M → Type 0)
    (last : M) (limit : ℕ) (a b : Moment) : Type 0 where
  pub bytes : List ℕ
  pub some : List ℕ
  pub rest : List ℕ
  pub text : List ℕ
  pub spent : ℕ
  pub how : How T
  pub bound : length bytes ≤ limit + 1
  pub cut : take limit bytes ≡ some ++ rest
  pub consumed : Consumes a.seen.left b.seen.left bytes
  pub makes : Makes some text spent how last
  pub uses : UsesAll how limit bytes rest b.seen.left
  pub output : AppendsPrefix a.seen.written b.seen.written text
  pub steps : b.steps ≤ a.steps + spent

-- what a run with this end has taken, made and written
abbrev pub Leaves : {M T : Type 0} → (List ℕ → List ℕ → ℕ → How T → M → Type 0) → M → ℕ → Moment → Moment → End T
    → Type 0
Leaves Makes last limit a b Done = Completes Makes last limit a b false
Leaves Makes last limit a b Faults = Completes Makes last limit a b true
Leaves Makes last limit a b ReadFault = Interrupts Makes last limit a b
Leaves Makes last limit a b WriteFault = Fails Makes last limit a b
Leaves Makes last limit a b TooLong = Exceeds Makes last limit a b
Leaves Makes last limit a b NoMemory = Lacks Makes last limit a b
Leaves Makes last limit a b (Stopped why) = Stops Makes last limit a b why

-- neither count of failures rose
pub record NoneFailed (a b : Seen) : Type 0 where
  pub read : b.read_failures ≡ a.read_failures
  pub write : b.write_failures ≡ a.write_failures

-- a read failed, and no write
pub record ReadFailed (a b : Seen) : Type 0 where
  pub read : HasFailed a.read_failures b.read_failures
  pub write : b.write_failures ≡ a.write_failures

pub record WriteFailed (a b : Seen) : Type 0 where
  pub read : b.read_failures ≡ a.read_failures
  pub write : HasFailed a.write_failures b.write_failures

-- which count of failures rose in a run with this end
abbrev pub Failed : {T : Type 0} → Seen → Seen → End T → Type 0
Failed a b Done = NoneFailed a b
Failed a b Faults = NoneFailed a b
Failed a b ReadFault = ReadFailed a b
Failed a b WriteFault = WriteFailed a b
Failed a b TooLong = NoneFailed a b
Failed a b NoMemory = NoneFailed a b
Failed a b (Stopped why) = NoneFailed a b

-- what a run leaves
pub record HasRun {M T : Type 0} (Makes : List ℕ → List ℕ → ℕ → How T → M → Type 0)
    (last : M) (limit : ℕ) (a b : Moment) (end : End T) : Type 0 where
  pub leaves : Leaves Makes last limit a b end
  pub failed : Failed a.seen b.seen end
  pub asked : AskedWithin limit a.seen.asked b.seen.asked
  pub same : SameDevices a.seen b.seen
