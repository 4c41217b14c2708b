-- What a run leaves, by a part of its machine: the rest of the machine says nothing of its input.
use Rattle.std.proofs.Common.{ℕ, List, false, true, take}
use Rattle.run_engine.specs.Machines.{How, going, finished, lacking, stopped}
use Rattle.run_engine.specs.Run.{HasRun, Leaves, Made}
use Rattle.run_engine.specs.Seen.{Moment}
use Rattle.run_engine.specs.declared.engine.End.{End}
use Rattle.run_engine.specs.declared.engine.End.TheVariants.{Done, Faults, ReadFault, WriteFault, NoMemory, TooLong, Stopped}

module _ {M N T : Type 0} (P : List ℕ → List ℕ → ℕ → How T → M → Type 0) (Q : List ℕ → List ℕ → ℕ → How T → N → Type 0) (m : M) (n : N)
    (part : (used text : List ℕ) (spent : ℕ) (how : How T) → P used text spent how m → Q used text spent how n) (limit : ℕ) (a b : Moment) where
  made_of : (how : How T) (taken used : List ℕ) → Made P how m a b taken used → Made Q how n a b taken used
  made_of how taken used x = record { text = x.text; spent = x.spent; consumed = x.consumed; makes = part used x.text x.spent how x.makes; output = x.output; steps = x.steps }

  leaves_of : (end : End T) → Leaves P m limit a b end → Leaves Q n limit a b end
  leaves_of Done x = record { input = x.input; within = x.within; at_end = x.at_end; made = made_of (finished false) x.input x.input x.made }
  leaves_of Faults x = record { input = x.input; within = x.within; at_end = x.at_end; made = made_of (finished true) x.input x.input x.made }
  leaves_of ReadFault x = record { bytes = x.bytes; within = x.within; made = made_of going x.bytes x.bytes x.made }
  leaves_of WriteFault x = record { bytes = x.bytes; some = x.some; rest = x.rest; text = x.text; spent = x.spent; how = x.how; bound = x.bound; cut = x.cut; consumed = x.consumed; makes = part x.some x.text x.spent x.how x.makes; uses = x.uses; output = x.output; steps = x.steps }
  leaves_of TooLong x = record { bytes = x.bytes; past = x.past; made = made_of going x.bytes (take limit x.bytes) x.made }
  leaves_of NoMemory x = record { bytes = x.bytes; some = x.some; rest = x.rest; bound = x.bound; cut = x.cut; made = made_of lacking x.bytes x.some x.made }
  leaves_of (Stopped why) x = record { bytes = x.bytes; bound = x.bound; late = x.late; at_end = x.at_end; made = made_of (stopped x.late why) x.bytes (take limit x.bytes) x.made }

  -- a run leaves the same of a part of its machine
  pub run_of : (end : End T) → HasRun P m limit a b end → HasRun Q n limit a b end
  run_of end x = record { leaves = leaves_of end x.leaves; failed = x.failed; asked = x.asked; same = x.same }
