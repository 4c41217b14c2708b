-- Progress of a run, between two reads.
use Rattle.std.specs.Prelude.{◌≡◌, ◌≤◌, ◌+◌, ◌⊎◌, ℕ, Bool, true, false, List, [], Result, Ok, Err, length, take, IfOk}
use Rattle.std.specs.Prelude.{OnErr}
use Rattle.std.specs.Io.KnownBytes.{Appends, Consumes, IsAtEnd, Keeps}
use Rattle.line_engine.specs.Asked.{HasAsked}
use Rattle.line_engine.specs.Failures.{FailsOnlyCounted}
use Rattle.run_engine.specs.Machines.{BreaksAmong, Goes, GoesAmong, How, going, finished, stopped}
use Rattle.run_engine.specs.Seen.{Breaks, KeepsSink, Moment, Puts, SameDevices, Seen}
use Rattle.run_engine.specs.declared.machine.Halt.{Halt}
use Rattle.run_engine.specs.declared.machine.Halt.TheVariants as halt
use Rattle.run_engine.specs.declared.engine.End.{End}
use Rattle.run_engine.specs.declared.engine.End.TheVariants.{Done, Faults, ReadFault, WriteFault, NoMemory, TooLong}
use Rattle.run_engine.specs.declared.engine.End.TheVariants.{Stopped}

-- a read of at most `most` bytes into the start of `chunk`
pub record ReadsSome {E : Type 0} (before after : Seen) (most : ℕ) (chunk : List ℕ) (result : Result ℕ E) : Type 0 where
  pub bytes : IfOk result (λ count. Consumes before.left after.left (take count chunk))
  pub end : IfOk result (λ count. count ≡ 0 → IsAtEnd after.left)
  pub kept : OnErr result (Keeps before.left after.left)
  pub failures : FailsOnlyCounted before.read_failures after.read_failures result
  pub asked : HasAsked before.asked after.asked most result
  pub sink : KeepsSink before after

-- the gathered bytes were written and the call ended as `ending`, or a write failed
abbrev pub Flushes : {T : Type 0} → End T → Seen → Seen → List ℕ → List ℕ → End T → Type 0
Flushes ending a b held held' end = ((end ≡ ending) × Puts a b held held' [] × (held' ≡ []))
    ⊎ ((end ≡ WriteFault) × Breaks a b held [])

-- how a run ends if its machine halts for this reason
abbrev pub Settles : {T : Type 0} → Halt T → Seen → Seen → List ℕ → List ℕ → End T → Type 0
Settles halt.WriteFault a b held held' end = (end ≡ WriteFault) × (b ≡ a)
Settles halt.NoMemory a b held held' end = Flushes NoMemory a b held held' end
Settles (halt.Stopped why) a b held held' end = Flushes (Stopped why) a b held held' end

-- how a run ends within the next bytes or, if `ended`, at the end of the input
abbrev pub EndsBy : {M T : Type 0} → (List ℕ → List ℕ → ℕ → How T → M → Type 0) → Bool → List ℕ → List ℕ → ℕ
    → List ℕ → M → Moment → Moment → End T → Type 0
EndsBy Makes ended bytes made spent next last a b Done = (ended ≡ true)
    × Goes Makes bytes made spent next (finished false) last a b × (b.held ≡ [])
EndsBy Makes ended bytes made spent next last a b Faults = (ended ≡ true)
    × Goes Makes bytes made spent next (finished true) last a b × (b.held ≡ [])
EndsBy Makes ended bytes made spent next last a b ReadFault = ⊥
EndsBy Makes ended bytes made spent next last a b WriteFault = BreaksAmong Makes ended bytes made spent next last a b
EndsBy Makes ended bytes made spent next last a b TooLong = ⊥
EndsBy Makes ended bytes made spent next last a b NoMemory = GoesAmong Makes bytes made spent next last a b
    × (b.held ≡ [])
EndsBy Makes ended bytes made spent next last a b (Stopped why) = Goes Makes bytes made spent next (stopped ended why)
    last a b × (b.held ≡ [])

-- the result of feeding the next bytes
abbrev pub EndsFed : {M T : Type 0} → (List ℕ → List ℕ → ℕ → How T → M → Type 0) → List ℕ → List ℕ → ℕ
    → List ℕ → M → Moment → Moment → Result (Unit {0}) (End T) → Type 0
EndsFed Makes bytes made spent next last a b (Ok _) = Goes Makes bytes made spent next going last a b × (b.held ≡ [])
EndsFed Makes bytes made spent next last a b (Err end) = EndsBy Makes false bytes made spent next last a b end

-- `taken` bytes were taken, what is made of those within the limit was written, and the machine goes on
pub record HasCome {M T : Type 0} (Makes : List ℕ → List ℕ → ℕ → How T → M → Type 0)
    (limit taken : ℕ) (last : M) (a b : Moment) : Type 0 where
  pub bytes : List ℕ
  pub text : List ℕ
  pub spent : ℕ
  pub consumed : Consumes a.seen.left b.seen.left bytes
  pub count : taken ≡ length bytes
  pub bound : taken ≤ limit + 1
  pub read_same : b.seen.read_failures ≡ a.seen.read_failures
  pub write_same : b.seen.write_failures ≡ a.seen.write_failures
  pub same : SameDevices a.seen b.seen
  pub none : b.held ≡ []
  pub makes : Makes (take limit bytes) text spent going last
  pub output : Appends a.seen.written b.seen.written text
  pub steps : b.steps ≤ a.steps + spent
