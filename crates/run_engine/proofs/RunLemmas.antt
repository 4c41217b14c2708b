-- From the bytes taken so far to those taken next, and to the end of a run.
use Rattle.std.proofs.Common.{◌≡◌, ℕ, zero, suc, ◌+◌, ◌-◌, ◌≤◌, ◌<◌, min, Bool, true, false, List, [], ◌++◌, length, take, refl, sym, ap, ◌∙◌, subst, arith, length-append, append-nil, append_assoc, ⊎_elim, Option}
use Rattle.std.proofs.lemmas.Bool.{cases_lt}
use Rattle.std.proofs.lemmas.List.{take_all, length-take, take-take}
use Rattle.std.proofs.Math.Seq.{take-append-add}
use Rattle.std.proofs.KnownBytes.{Appends-nil, Appends-trans, Consumes-nil, Consumes-trans}
use Rattle.std.specs.Io.KnownBytes.{Appends, Consumes, IsAtEnd, Keeps}
use Rattle.line_engine.specs.Appended.{AppendsPrefix}
use Rattle.line_engine.specs.Asked.{Asked, AskedWithin}
use Rattle.line_engine.specs.Failures.{HasFailed}
use Rattle.run_engine.specs.Inner.Progress.{EndsBy, HasCome, Settles}
use Rattle.run_engine.specs.Machines.{BreaksAmong, Goes, Halts, How, UsesNext, going, finished, lacking, stopped}
use Rattle.run_engine.specs.Run.{Completes, HasRun, Made, UsesAll}
use Rattle.run_engine.specs.Seen.{Breaks, KeepsSink, KeepsSource, Moment, moment, Puts, SameDevices, Seen}
use Rattle.run_engine.specs.declared.machine.Halt.{Halt}
use Rattle.run_engine.specs.declared.machine.Halt.TheVariants as halt
use Rattle.run_engine.specs.declared.engine.End.{End}
use Rattle.run_engine.specs.declared.engine.End.TheVariants.{Done, Faults, ReadFault, WriteFault, NoMemory, TooLong, Stopped}
use Rattle.run_engine.proofs.PutLemmas.{breaks_second, puts_both}
use Rattle.line_engine.proofs.Public.{AskedSoFar, Consumes-kept, Consumes-none}

-- ---- from the end of a machine to the end of its run
module _ {M T : Type 0} (Makes : List ℕ → List ℕ → ℕ → How T → M → Type 0) (bytes made : List ℕ) (spent : ℕ) (last : M) (a : Moment) (b c : Seen) (held held' : List ℕ) (steps : ℕ) where
  -- the bytes put are written
  pub goes_flushed : (next : List ℕ) (how : How T) → Goes Makes bytes made spent next how last a (moment b held steps) → Puts b c held held' [] → Goes Makes bytes made spent next how last a (moment c held' steps)
  goes_flushed next how goes puts = record {
    more = goes.more;
    cost = goes.cost;
    makes = goes.makes;
    puts = subst (λ m. Puts a.seen c a.held held' m) (append-nil goes.more) (puts_both a.seen b c a.held held held' goes.more [] goes.puts puts);
    steps = goes.steps;
  }

  -- a write fails
  pub goes_broken : (ended : Bool) (next some rest : List ℕ) (how : How T) → next ≡ some ++ rest → UsesNext ended how rest → Goes Makes bytes made spent some how last a (moment b held steps) → Breaks b c held []
      → BreaksAmong Makes ended bytes made spent next last a (moment c held' steps)
  goes_broken ended next some rest how cut uses goes breaks = record {
    some = some;
    rest = rest;
    cut = cut;
    how = how;
    uses = uses;
    more = goes.more;
    cost = goes.cost;
    makes = goes.makes;
    breaks = subst (Breaks a.seen c a.held) (append-nil goes.more) (breaks_second a.seen b c a.held held goes.more [] goes.puts breaks);
    steps = goes.steps;
  }

  pub settled : (ended : Bool) (next : List ℕ) (h : Halt T) (end : End T) → Halts Makes ended bytes made spent next last a (moment b held steps) h → Settles h b c held held' end → EndsBy Makes ended bytes made spent next last a (moment c held' steps) end
  settled ended next halt.WriteFault end p s =
      let P : End T → Type 0 = EndsBy Makes ended bytes made spent next last a (moment c held' steps) in
      subst P (sym s.0) (record {
        some = p.some;
        rest = p.rest;
        cut = p.cut;
        how = p.how;
        uses = p.uses;
        more = p.more;
        cost = p.cost;
        makes = p.makes;
        breaks = subst (λ d. Breaks a.seen d a.held p.more) (sym s.1) p.breaks;
        steps = p.steps;
      })
  settled ended next halt.NoMemory end p s =
      let P : End T → Type 0 = EndsBy Makes ended bytes made spent next last a (moment c held' steps) in
      ⊎_elim
      (λ (w : (end ≡ NoMemory) × Puts b c held held' [] × (held' ≡ [])). subst P (sym w.0) (record { some = p.some; rest = p.rest; cut = p.cut; goes = goes_flushed p.some lacking p.goes w.1 }, w.2))
      (λ (w : (end ≡ WriteFault) × Breaks b c held []). subst P (sym w.0) (goes_broken ended next p.some p.rest lacking p.cut tt p.goes w.1))
      s
  settled ended next (halt.Stopped why) end p s =
      let P : End T → Type 0 = EndsBy Makes ended bytes made spent next last a (moment c held' steps) in
      ⊎_elim
      (λ (w : (end ≡ Stopped why) × Puts b c held held' [] × (held' ≡ [])). subst P (sym w.0) (goes_flushed next (stopped ended why) p w.1, w.2))
      (λ (w : (end ≡ WriteFault) × Breaks b c held []). subst P (sym w.0) (goes_broken ended next next [] (stopped ended why) (sym (append-nil next)) tt p w.1))
      s

-- ---- the bytes within the limit
within_limit : (limit count : ℕ) (bytes buf : List ℕ) → length bytes ≤ limit → take limit (bytes ++ take count buf) ≡ bytes ++ take (min count (limit - length bytes)) buf
within_limit limit count bytes buf fits =
    let room = limit - length bytes in
    let whole : limit ≡ length bytes + room = omega arith in
    ap (λ n. take n (bytes ++ take count buf)) whole ∙ take-append-add bytes (take count buf) room
    ∙ ap (λ l. bytes ++ l) (both room count buf)
  where
    both : (room count : ℕ) (buf : List ℕ) → take room (take count buf) ≡ take (min count room) buf
    both room count buf =
        ⊎_elim
        (λ (past : room < count). let is : room ≡ min count room = omega arith in take-take room count buf (omega arith) ∙ ap (λ n. take n buf) is)
        (λ (fits : count ≤ room). let is : count ≡ min count room = omega arith in take_all room (take count buf) (omega (arith, length-take count buf)) ∙ ap (λ n. take n buf) is)
        (cases_lt room count)

-- the bytes read that are fed
pub fed : (limit count within taken : ℕ) (bytes buf : List ℕ) → length bytes ≤ limit → taken ≡ length bytes → within ≡ min count (limit - taken) → take limit (bytes ++ take count buf) ≡ take limit bytes ++ take within buf
fed limit count within taken bytes buf fits is here =
    within_limit limit count bytes buf fits ∙ ap (λ n. bytes ++ take n buf) (ap (λ n. min count (limit - n)) (sym is) ∙ sym here)
    ∙ ap (λ l. l ++ take within buf) (sym (take_all limit bytes fits))

pub nothing_taken : (n : ℕ) → ◌≡◌ {A = List ℕ} (take n []) []
nothing_taken zero = refl
nothing_taken (suc n) = refl

-- ---- a run
module _ {M T : Type 0} (Makes : List ℕ → List ℕ → ℕ → How T → M → Type 0) (limit : ℕ) where
  -- before the first read
  pub come_none : (first : M) (a : Moment) → a.held ≡ [] → Makes [] [] 0 going first → HasCome Makes limit 0 first a a
  come_none first a none fresh = record {
    bytes = [];
    text = [];
    spent = 0;
    consumed = Consumes-nil a.seen.left;
    count = refl;
    bound = omega arith;
    read_same = refl;
    write_same = refl;
    same = record { source = refl; sink = refl };
    none = none;
    makes = subst (λ l. Makes l [] 0 going first) (sym (nothing_taken limit)) fresh;
    output = Appends-nil a.seen.written;
    steps = omega arith;
  }

  -- a read failed, or the limit was passed
  pub interrupted : (taken : ℕ) (last : M) (a : Moment) (b c : Seen) (held : List ℕ) (steps : ℕ) → HasCome Makes limit taken last a (moment b held steps) → taken ≤ limit → Keeps b.left c.left → KeepsSink b c
      → HasFailed a.seen.read_failures c.read_failures → AskedWithin limit a.seen.asked c.asked → HasRun Makes last limit a (moment c held steps) ReadFault
  interrupted taken last a b c held steps come fits kept sink rose asked =
      let few : length come.bytes ≤ limit = omega (arith, come.count) in
      record {
        leaves = record {
          bytes = come.bytes;
          within = few;
          made = record {
            text = come.text;
            spent = come.spent;
            consumed = Consumes-kept a.seen.left b.left c.left come.bytes come.consumed kept;
            makes = subst (λ l. Makes l come.text come.spent going last) (take_all limit come.bytes few) come.makes;
            output = subst (λ w. Appends a.seen.written w come.text) (sym sink.written) come.output;
            steps = come.steps;
          };
        };
        failed = record { read = rose; write = sink.failures ∙ come.write_same };
        asked = asked;
        same = record { source = sink.same.source ∙ come.same.source; sink = sink.same.sink ∙ come.same.sink };
      }

  pub exceeded : (taken : ℕ) (last : M) (a b : Moment) → HasCome Makes limit taken last a b → limit < taken → AskedWithin limit a.seen.asked b.seen.asked → HasRun Makes last limit a b TooLong
  exceeded taken last a b come past asked = record {
    leaves = record {
      bytes = come.bytes;
      past = omega (arith, come.count, come.bound);
      made = record { text = come.text; spent = come.spent; consumed = come.consumed; makes = come.makes; output = come.output; steps = come.steps };
    };
    failed = record { read = come.read_same; write = come.write_same };
    asked = asked;
    same = come.same;
  }

-- the next bytes were read and are not yet fed
pub record Ready (limit : ℕ) (text : List ℕ) (spent : ℕ) (used next bytes : List ℕ) (a b : Moment) : Type 0 where
  pub consumed : Consumes a.seen.left b.seen.left bytes
  pub bound : length bytes ≤ limit + 1
  pub cut : take limit bytes ≡ used ++ next
  pub read_same : b.seen.read_failures ≡ a.seen.read_failures
  pub write_same : b.seen.write_failures ≡ a.seen.write_failures
  pub same : SameDevices a.seen b.seen
  pub none : b.held ≡ []
  pub output : Appends a.seen.written b.seen.written text
  pub steps : b.steps ≤ a.steps + spent

-- if the input ended, all of it was taken and is within the limit
abbrev pub Whole : ℕ → List ℕ → Moment → Bool → Type 0
Whole limit bytes b ended = ended ≡ true → (IsAtEnd b.seen.left × (length bytes ≤ limit))

-- the bytes put are written, since nothing is gathered
put_out : (a b : Seen) (held held' more : List ℕ) → held ≡ [] → held' ≡ [] → Puts a b held held' more → Appends a.written b.written more
put_out a b held held' more none none' puts =
    subst (Appends a.written b.written) (sym (append-nil puts.gone) ∙ sym (ap (λ l. l ++ more) (sym none) ∙ puts.split ∙ ap (λ l. puts.gone ++ l) none')) puts.written

broken_out : (a b : Seen) (held more : List ℕ) → held ≡ [] → Breaks a b held more → AppendsPrefix a.written b.written more
broken_out a b held more none breaks = subst (λ l. AppendsPrefix a.written b.written (l ++ more)) none breaks.part

part_second : (a b c : Option (List ℕ)) (bs cs : List ℕ) → Appends a b bs → AppendsPrefix b c cs → AppendsPrefix a c (bs ++ cs)
part_second a b c bs cs first part = record {
  prefix = bs ++ part.prefix;
  rest = part.rest;
  split = ap (λ l. bs ++ l) part.split ∙ sym (append_assoc bs part.prefix part.rest);
  appends = Appends-trans a b c bs part.prefix first part.appends;
}

module _ {M T : Type 0} (Makes : List ℕ → List ℕ → ℕ → How T → M → Type 0) (limit : ℕ) where
  -- after a read
  pub ready : (taken room count within : ℕ) (buf : List ℕ) (m : M) (a : Moment) (b c : Seen) (held : List ℕ) (steps : ℕ) → (come : HasCome Makes limit taken m a (moment b held steps)) → taken ≤ limit
      → count ≤ room → taken + room ≤ limit + 1 → within ≡ min count (limit - taken) → Consumes b.left c.left (take count buf) → c.read_failures ≡ b.read_failures → KeepsSink b c
      → Ready limit come.text come.spent (take limit come.bytes) (take within buf) (come.bytes ++ take count buf) a (moment c held steps)
  ready taken room count within buf m a b c held steps come fits few enough here consumed unfailed sink = record {
    consumed = Consumes-trans a.seen.left b.left c.left come.bytes (take count buf) come.consumed consumed;
    bound = omega (arith, length-append come.bytes (take count buf), length-take count buf, come.count);
    cut = fed limit count within taken come.bytes buf (omega (arith, come.count)) come.count here;
    read_same = unfailed ∙ come.read_same;
    write_same = sink.failures ∙ come.write_same;
    same = record { source = sink.same.source ∙ come.same.source; sink = sink.same.sink ∙ come.same.sink };
    none = come.none;
    output = subst (λ w. Appends a.seen.written w come.text) (sym sink.written) come.output;
    steps = come.steps;
  }

  -- after a read that found the end
  pub ready_end : (taken count : ℕ) (buf : List ℕ) (m : M) (a : Moment) (b c : Seen) (held : List ℕ) (steps : ℕ) → (come : HasCome Makes limit taken m a (moment b held steps)) → taken ≤ limit
      → count ≡ 0 → Consumes b.left c.left (take count buf) → c.read_failures ≡ b.read_failures → KeepsSink b c
      → Ready limit come.text come.spent (take limit come.bytes) [] come.bytes a (moment c held steps)
  ready_end taken count buf m a b c held steps come fits none consumed unfailed sink = record {
    consumed = Consumes-none a.seen.left b.left c.left come.bytes buf count come.consumed consumed none;
    bound = omega (arith, come.count);
    cut = sym (append-nil (take limit come.bytes));
    read_same = unfailed ∙ come.read_same;
    write_same = sink.failures ∙ come.write_same;
    same = record { source = sink.same.source ∙ come.same.source; sink = sink.same.sink ∙ come.same.sink };
    none = come.none;
    output = subst (λ w. Appends a.seen.written w come.text) (sym sink.written) come.output;
    steps = come.steps;
  }

  module _ (text : List ℕ) (spent : ℕ) (used next bytes : List ℕ) (a b : Moment) (is : Ready limit text spent used next bytes a b) (last : M) (c : Moment) where
    devices : KeepsSource b.seen c.seen → SameDevices a.seen c.seen
    devices k = record { source = k.same.source ∙ is.same.source; sink = k.same.sink ∙ is.same.sink }

    -- the text put for the bytes that were fed
    made_of : (some : List ℕ) (how : How T) → Goes Makes used text spent some how last b c → c.held ≡ [] → Made Makes how last a c bytes (used ++ some)
    made_of some how goes none = record {
      text = text ++ goes.more;
      spent = spent + goes.cost;
      consumed = subst (λ l. Consumes a.seen.left l bytes) (sym goes.puts.source.left) is.consumed;
      makes = goes.makes;
      output = Appends-trans a.seen.written b.seen.written c.seen.written text goes.more is.output (put_out b.seen c.seen b.held c.held goes.more is.none none goes.puts);
      steps = omega (arith, is.steps, goes.steps);
    }

    pub goes_on : (taken : ℕ) → Goes Makes used text spent next going last b c → c.held ≡ [] → taken ≡ length bytes → HasCome Makes limit taken last a c
    goes_on taken goes none count =
        let made = made_of next going goes none in
        record {
          bytes = bytes;
          text = made.text;
          spent = made.spent;
          consumed = made.consumed;
          count = count;
          bound = omega (arith, is.bound);
          read_same = goes.puts.source.failures ∙ is.read_same;
          write_same = goes.puts.failures ∙ is.write_same;
          same = devices goes.puts.source;
          none = none;
          makes = subst (λ l. Makes l made.text made.spent going last) (sym is.cut) made.makes;
          output = made.output;
          steps = made.steps;
        }

    all_used : (rest : List ℕ) → length bytes ≤ limit → (some : List ℕ) → next ≡ some ++ rest → rest ≡ [] → used ++ some ≡ bytes
    all_used rest fits some cut none = ap (λ l. used ++ l) (sym (append-nil some) ∙ ap (λ l. some ++ l) (sym none) ∙ sym cut) ∙ sym is.cut ∙ take_all limit bytes fits

    uses : (ended : Bool) → Whole limit bytes b ended → (how : How T) (some rest : List ℕ) → next ≡ some ++ rest → c.seen.left ≡ b.seen.left → UsesNext ended how rest → UsesAll how limit bytes rest c.seen.left
    uses ended whole going some rest cut same u = tt
    uses ended whole (finished fault) some rest cut same u = (subst IsAtEnd (sym same) (whole u.0).0, (whole u.0).1, u.1)
    uses ended whole lacking some rest cut same u = tt
    uses ended whole (stopped late why) some rest cut same u = tt

    completes : (fault ended : Bool) → Whole limit bytes b ended → ended ≡ true → Goes Makes used text spent next (finished fault) last b c → c.held ≡ [] → Completes Makes last limit a c fault
    completes fault ended whole true_is goes none =
        let end = whole true_is in
        let all : used ++ next ≡ bytes = sym is.cut ∙ take_all limit bytes end.1 in
        record {
          input = bytes;
          within = end.1;
          at_end = subst IsAtEnd (sym goes.puts.source.left) end.0;
          made = subst (Made Makes (finished fault) last a c bytes) all (made_of next (finished fault) goes none);
        }

    pub ends : (ended : Bool) → Whole limit bytes b ended → AskedWithin limit a.seen.asked b.seen.asked → (end : End T) → EndsBy Makes ended used text spent next last b c end → HasRun Makes last limit a c end
    ends ended whole asked Done (true_is, goes, none) = record {
      leaves = completes false ended whole true_is goes none;
      failed = record { read = goes.puts.source.failures ∙ is.read_same; write = goes.puts.failures ∙ is.write_same };
      asked = subst (AskedWithin limit a.seen.asked) (sym goes.puts.source.asked) asked;
      same = devices goes.puts.source;
    }
    ends ended whole asked Faults (true_is, goes, none) = record {
      leaves = completes true ended whole true_is goes none;
      failed = record { read = goes.puts.source.failures ∙ is.read_same; write = goes.puts.failures ∙ is.write_same };
      asked = subst (AskedWithin limit a.seen.asked) (sym goes.puts.source.asked) asked;
      same = devices goes.puts.source;
    }
    ends ended whole asked ReadFault e = absurd e
    ends ended whole asked WriteFault e = record {
      leaves = record {
        bytes = bytes;
        some = used ++ e.some;
        rest = e.rest;
        text = text ++ e.more;
        spent = spent + e.cost;
        how = e.how;
        bound = is.bound;
        cut = is.cut ∙ ap (λ l. used ++ l) e.cut ∙ sym (append_assoc used e.some e.rest);
        consumed = subst (λ l. Consumes a.seen.left l bytes) (sym e.breaks.source.left) is.consumed;
        makes = e.makes;
        uses = uses ended whole e.how e.some e.rest e.cut e.breaks.source.left e.uses;
        output = part_second a.seen.written b.seen.written c.seen.written text e.more is.output (broken_out b.seen c.seen b.held e.more is.none e.breaks);
        steps = omega (arith, is.steps, e.steps);
      };
      failed = record {
        read = e.breaks.source.failures ∙ is.read_same;
        write = subst (λ n. HasFailed n c.seen.write_failures) is.write_same e.breaks.failed;
      };
      asked = subst (AskedWithin limit a.seen.asked) (sym e.breaks.source.asked) asked;
      same = devices e.breaks.source;
    }
    ends ended whole asked TooLong e = absurd e
    ends ended whole asked NoMemory (p, none) = record {
      leaves = record {
        bytes = bytes;
        some = used ++ p.some;
        rest = p.rest;
        bound = is.bound;
        cut = is.cut ∙ ap (λ l. used ++ l) p.cut ∙ sym (append_assoc used p.some p.rest);
        made = made_of p.some lacking p.goes none;
      };
      failed = record { read = p.goes.puts.source.failures ∙ is.read_same; write = p.goes.puts.failures ∙ is.write_same };
      asked = subst (AskedWithin limit a.seen.asked) (sym p.goes.puts.source.asked) asked;
      same = devices p.goes.puts.source;
    }
    ends ended whole asked (Stopped why) (goes, none) = record {
      leaves = record {
        bytes = bytes;
        bound = is.bound;
        late = ended;
        at_end = λ at. (subst IsAtEnd (sym goes.puts.source.left) (whole at).0, (whole at).1);
        made = subst (Made Makes (stopped ended why) last a c bytes) (sym is.cut) (made_of next (stopped ended why) goes none);
      };
      failed = record { read = goes.puts.source.failures ∙ is.read_same; write = goes.puts.failures ∙ is.write_same };
      asked = subst (AskedWithin limit a.seen.asked) (sym goes.puts.source.asked) asked;
      same = devices goes.puts.source;
    }

-- the requests so far, if no read follows
pub asked_on : (limit taken : ℕ) (old now next : Option Asked) → next ≡ now → AskedSoFar limit taken old now → AskedSoFar limit taken old next
asked_on limit taken old now next same is = subst (AskedSoFar limit taken old) (sym same) is
