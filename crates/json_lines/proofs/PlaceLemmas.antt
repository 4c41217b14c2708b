-- How a place follows the open objects and arrays.
use Rattle.std.proofs.Common.{◌≡◌, ◌⊎◌, ◌∙◌, ◌==◌, ◌+◌, ◌-◌, ◌^◌, ◌<◌, ◌≤◌, ◌∷◌, [], ℕ, zero, suc, Bool, true, false, List, None, Some, ap, arith, drop, eq-eqb, eqb-true, get_or, length, map, min, ne_eqb, refl, subst, sym, true≢false, ⊎_elim}
use Rattle.std.proofs.lemmas.Bool.{cases_lt}
use Rattle.json_lines.specs.Inner.Tracked.{IsOff, Tracks, off_path}
use Rattle.json_lines.specs.Path.{PathStep, element as element_step, every, member, step_of}
use Rattle.json_lines.specs.Places.{Frame, after, element, matches, matches_at, named, object, on_path, passed}
use Rattle.json_lines.specs.Pieces.{is_name}
use Rattle.json_lines.specs.declared.path.Step.{Step}
use Rattle.json_lines.specs.declared.path.Step.TheVariants.{Element, Every, Member}
use Rattle.json_lines.specs.declared.place.Off.{Off}
use Rattle.json_lines.specs.declared.place.Off.TheVariants.{Array, Object}
use Rattle.json_lines.specs.declared.place.Place.{Place}

-- ---- the step with an index
pub none_at : (steps : List Step) (k : ℕ) (frame : Frame) → length steps ≤ k → matches_at (map step_of steps) k frame ≡ false
none_at [] k frame high = refl
none_at (s ∷ ss) zero frame high = absurd (omega (arith, high))
none_at (s ∷ ss) (suc k) frame high = none_at ss k frame (omega (arith, high))

pub step_at : (steps : List Step) (k : ℕ) (frame : Frame) (d : Step) → k < length steps
    → matches_at (map step_of steps) k frame ≡ matches (step_of (get_or steps k d)) frame
step_at [] k frame d low = absurd (omega (arith, low))
step_at (s ∷ ss) zero frame d low = refl
step_at (s ∷ ss) (suc k) frame d low = step_at ss k frame d (omega (arith, low))

-- a step that is not the number of an element and leads to one leads to each
each_element : (step : Step) → ((x : ℕ) → step ≡ Element x → ⊥) → (n m : ℕ) → matches (step_of step) (element n) ≡ true
    → matches (step_of step) (element m) ≡ true
each_element (Member name) other n m is = absurd (true≢false (sym is))
each_element (Element x) other n m is = absurd (other x refl)
each_element Every other n m is = refl

pub every_element : (steps : List Step) (k : ℕ) (d : Step) → k < length steps → ((x : ℕ) → get_or steps k d ≡ Element x → ⊥) → (n m : ℕ)
    → matches_at (map step_of steps) k (element n) ≡ true → matches_at (map step_of steps) k (element m) ≡ true
every_element steps k d low other n m is =
    step_at steps k (element m) d low ∙ each_element (get_or steps k d) other n m (sym (step_at steps k (element n) d low) ∙ is)

-- a brace or a bracket closes
pub after_close : (frames : List Frame) (piece rest : List ℕ) → is_name piece rest ≡ false → ((get_or piece 0 0 ≡ 93) ⊎ (get_or piece 0 0 ≡ 125)) → after frames piece rest ≡ drop 1 frames
after_close frames [] rest other is = absurd (⊎_elim (λ (e : 0 ≡ 93). omega (arith, e)) (λ (e : 0 ≡ 125). omega (arith, e)) is)
after_close frames (b ∷ bs) rest other is = ⊎_elim
    (λ (e : b ≡ 93). rw (other, e) refl)
    (λ (e : b ≡ 125). rw (other, e) refl)
    is

-- no step leads to an object before its first name
pub unnamed : (steps : List PathStep) (k : ℕ) → matches_at steps k (object None) ≡ false
unnamed [] k = refl
unnamed (member name ∷ steps) zero = refl
unnamed (element_step n ∷ steps) zero = refl
unnamed (every ∷ steps) zero = refl
unnamed (s ∷ steps) (suc k) = unnamed steps k

module _ (steps : List PathStep) where
  -- ---- one more open object or array
  next_on : (frame : Frame) (frames : List Frame) → on_path steps frames ≡ length frames → matches_at steps (length frames) frame ≡ true
      → on_path steps (frame ∷ frames) ≡ length frames + 1
  next_on frame frames on is = rw (eq-eqb (on_path steps frames) (length frames) on, is) refl

  next_stop : (frame : Frame) (frames : List Frame) → on_path steps frames ≡ length frames → matches_at steps (length frames) frame ≡ false
      → on_path steps (frame ∷ frames) ≡ length frames
  next_stop frame frames on is = rw (eq-eqb (on_path steps frames) (length frames) on, is) on

  next_below : (frame : Frame) (frames : List Frame) → on_path steps frames < length frames → on_path steps (frame ∷ frames) ≡ on_path steps frames
  next_below frame frames low = rw (ne_eqb (on_path steps frames) (length frames) (λ e. omega (arith, low, e))) refl

  off_stop : (frame : Frame) (frames : List Frame) → on_path steps frames ≡ length frames → off_path steps (frame ∷ frames) ≡ frame
  off_stop frame frames on = rw (eq-eqb (on_path steps frames) (length frames) on) refl

  off_below : (frame : Frame) (frames : List Frame) → on_path steps frames < length frames → off_path steps (frame ∷ frames) ≡ off_path steps frames
  off_below frame frames low = rw (ne_eqb (on_path steps frames) (length frames) (λ e. omega (arith, low, e))) refl

  most_by : (frame : Frame) (frames : List Frame) (m : Bool) → on_path steps frames ≤ length frames → matches_at steps (length frames) frame ≡ m → on_path steps (frame ∷ frames) ≤ suc (length frames)
  most_by frame frames m most is = ⊎_elim
      (λ (low : on_path steps frames < length frames). omega (arith, low, next_below frame frames low))
      (λ (high : length frames ≤ on_path steps frames). most_at m is (omega (arith, most, high)))
      (cases_lt (on_path steps frames) (length frames))
    where
      most_at : (m : Bool) → matches_at steps (length frames) frame ≡ m → on_path steps frames ≡ length frames → on_path steps (frame ∷ frames) ≤ suc (length frames)
      most_at true is on = omega (arith, next_on frame frames on is)
      most_at false is on = omega (arith, next_stop frame frames on is)

  pub on_most : (frames : List Frame) → on_path steps frames ≤ length frames
  on_most [] = omega arith
  on_most (frame ∷ frames) = most_by frame frames (matches_at steps (length frames) frame) (on_most frames) refl

  -- ---- the place after one more
  pub track_on : (frame : Frame) (frames : List Frame) (depth on : ℕ) (off : Off) → on_path steps frames ≡ length frames → matches_at steps (length frames) frame ≡ true
      → depth ≡ length frames + 1 → on ≡ length frames + 1 → Tracks steps (frame ∷ frames) (record { depth = depth; on = on; off = off })
  track_on frame frames depth on off here is depth_is on_is = record {
    depth = omega (arith, depth_is);
    on = on_is ∙ sym (next_on frame frames here is);
    off = λ low. absurd (omega (arith, low, next_on frame frames here is));
  }

  pub track_stop : (frame : Frame) (frames : List Frame) (depth on : ℕ) (off : Off) → on_path steps frames ≡ length frames → matches_at steps (length frames) frame ≡ false
      → depth ≡ length frames + 1 → on ≡ length frames → IsOff frame off → Tracks steps (frame ∷ frames) (record { depth = depth; on = on; off = off })
  track_stop frame frames depth on off here is depth_is on_is off_is = record {
    depth = omega (arith, depth_is);
    on = on_is ∙ sym (next_stop frame frames here is);
    off = λ low. subst (λ f. IsOff f off) (sym (off_stop frame frames here)) off_is;
  }

  pub track_below : (frame : Frame) (frames : List Frame) (p : Place) (depth : ℕ) → Tracks steps frames p → p.on < length frames → depth ≡ length frames + 1
      → Tracks steps (frame ∷ frames) (record { depth = depth; on = p.on; off = p.off })
  track_below frame frames p depth tracks low depth_is =
      let below : on_path steps frames < length frames = omega (arith, low, tracks.on) in
      record {
        depth = omega (arith, depth_is);
        on = tracks.on ∙ sym (next_below frame frames below);
        off = λ _. subst (λ f. IsOff f p.off) (sym (off_below frame frames below)) (tracks.off below);
      }

  -- the same after the frames that a place follows
  pub enter_on : (frame : Frame) (frames : List Frame) (p : Place) (off : Off) → Tracks steps frames p → p.on ≡ p.depth → matches_at steps p.depth frame ≡ true
      → Tracks steps (frame ∷ frames) (record { depth = p.depth + 1; on = p.on + 1; off = off })
  enter_on frame frames p off tracks here is =
      track_on frame frames (p.depth + 1) (p.on + 1) off (sym tracks.on ∙ here ∙ tracks.depth) (subst (λ n. matches_at steps n frame ≡ true) tracks.depth is)
      (omega (arith, tracks.depth)) (omega (arith, tracks.depth, here))

  pub enter_stop : (frame : Frame) (frames : List Frame) (p : Place) (off : Off) → Tracks steps frames p → p.on ≡ p.depth → matches_at steps p.depth frame ≡ false → IsOff frame off
      → Tracks steps (frame ∷ frames) (record { depth = p.depth + 1; on = p.on; off = off })
  enter_stop frame frames p off tracks here is off_is =
      track_stop frame frames (p.depth + 1) p.on off (sym tracks.on ∙ here ∙ tracks.depth) (subst (λ n. matches_at steps n frame ≡ false) tracks.depth is)
      (omega (arith, tracks.depth)) (omega (arith, tracks.depth, here)) off_is

  pub enter_below : (frame : Frame) (frames : List Frame) (p : Place) → Tracks steps frames p → (p.on ≡ p.depth → ⊥)
      → Tracks steps (frame ∷ frames) (record { depth = p.depth + 1; on = p.on; off = p.off })
  enter_below frame frames p tracks other =
      track_below frame frames p (p.depth + 1) tracks (omega (arith, tracks.depth, tracks.on, on_most frames, other)) (omega (arith, tracks.depth))

  -- ---- the place after one less
  least_by : (frame : Frame) (frames : List Frame) (m : Bool) → on_path steps frames ≡ length frames → matches_at steps (length frames) frame ≡ m → length frames ≤ on_path steps (frame ∷ frames)
  least_by frame frames true here is = omega (arith, next_on frame frames here is)
  least_by frame frames false here is = omega (arith, next_stop frame frames here is)

  -- the same frames without the innermost
  pub leave : (frames : List Frame) (p : Place) → Tracks steps frames p → 0 < p.depth → (on : ℕ) → on ≡ min p.on (p.depth - 1) → Tracks steps (drop 1 frames) (record { depth = p.depth - 1; on = on; off = p.off })
  leave [] p tracks some on on_is = absurd (omega (arith, some, tracks.depth))
  leave (frame ∷ frames) p tracks some on on_is = ⊎_elim
      (λ (low : on_path steps frames < length frames). leave_below low)
      (λ (high : length frames ≤ on_path steps frames). leave_on (omega (arith, high, on_most frames)))
      (cases_lt (on_path steps frames) (length frames))
    where
      leave_below : on_path steps frames < length frames → Tracks steps frames (record { depth = p.depth - 1; on = on; off = p.off })
      leave_below low =
          let same : on_path steps (frame ∷ frames) ≡ on_path steps frames = next_below frame frames low in
          record {
            depth = omega (arith, tracks.depth);
            on = omega (arith, on_is, tracks.on, same, low, tracks.depth);
            off = λ _. subst (λ f. IsOff f p.off) (off_below frame frames low) (tracks.off (omega (arith, same, low)));
          }

      leave_on : on_path steps frames ≡ length frames → Tracks steps frames (record { depth = p.depth - 1; on = on; off = p.off })
      leave_on here =
          let least : length frames ≤ on_path steps (frame ∷ frames) = least_by frame frames (matches_at steps (length frames) frame) here refl in
          record {
            depth = omega (arith, tracks.depth);
            on = omega (arith, on_is, tracks.on, least, here, tracks.depth);
            off = λ low. absurd (omega (arith, low, here));
          }

  -- ---- the place with another innermost frame
  was_below : (frame : Frame) (frames : List Frame) → on_path steps (frame ∷ frames) < length frames → on_path steps frames ≡ on_path steps (frame ∷ frames)
  was_below frame frames few = ⊎_elim
      (λ (low : on_path steps frames < length frames). sym (next_below frame frames low))
      (λ (high : length frames ≤ on_path steps frames). absurd (omega (arith, few, least_by frame frames (matches_at steps (length frames) frame) (omega (arith, high, on_most frames)) refl)))
      (cases_lt (on_path steps frames) (length frames))

  was_here : (frame : Frame) (frames : List Frame) → length frames ≤ on_path steps (frame ∷ frames) → on_path steps frames ≡ length frames
  was_here frame frames many = ⊎_elim
      (λ (low : on_path steps frames < length frames). absurd (omega (arith, many, low, next_below frame frames low)))
      (λ (high : length frames ≤ on_path steps frames). omega (arith, high, on_most frames))
      (cases_lt (on_path steps frames) (length frames))

  was_on : (frame : Frame) (frames : List Frame) (m : Bool) → on_path steps (frame ∷ frames) ≡ length frames + 1 → matches_at steps (length frames) frame ≡ m → m ≡ true
  was_on frame frames true many is = refl
  was_on frame frames false many is = absurd (omega (arith, many, next_stop frame frames (was_here frame frames (omega (arith, many))) is))

  pub swap_below : (frame next : Frame) (frames : List Frame) (p : Place) → Tracks steps (frame ∷ frames) p → p.on < length frames → Tracks steps (next ∷ frames) p
  swap_below frame next frames p tracks low =
      let few : on_path steps (frame ∷ frames) < length frames = omega (arith, low, tracks.on) in
      let same : on_path steps frames ≡ on_path steps (frame ∷ frames) = was_below frame frames few in
      let below : on_path steps frames < length frames = omega (arith, same, few) in
      record {
        depth = tracks.depth;
        on = tracks.on ∙ sym same ∙ sym (next_below next frames below);
        off = λ _. subst (λ f. IsOff f p.off) (off_below frame frames below ∙ sym (off_below next frames below)) (tracks.off (omega (arith, few)));
      }

  -- ---- after a name
  pub name_below : (frames : List Frame) (p : Place) (name : List ℕ) → Tracks steps frames p → p.on < p.depth - 1 → Tracks steps (named name frames) p
  name_below [] p name tracks low = absurd (omega (arith, low, tracks.depth))
  name_below (frame ∷ frames) p name tracks low = swap_below frame (object (Some name)) frames p tracks (omega (arith, low, tracks.depth))

  pub name_on : (frames : List Frame) (p : Place) (name : List ℕ) → Tracks steps frames p → 0 < p.depth → p.depth - 1 ≤ p.on → matches_at steps (p.depth - 1) (object (Some name)) ≡ true
      → Tracks steps (named name frames) (record { depth = p.depth; on = p.depth; off = p.off })
  name_on [] p name tracks some high is = absurd (omega (arith, some, tracks.depth))
  name_on (frame ∷ frames) p name tracks some high is =
      let index : p.depth - 1 ≡ length frames = omega (arith, tracks.depth) in
      track_on (object (Some name)) frames p.depth p.depth p.off (was_here frame frames (omega (arith, high, tracks.on, tracks.depth)))
      (subst (λ n. matches_at steps n (object (Some name)) ≡ true) index is) (omega (arith, tracks.depth)) (omega (arith, tracks.depth))

  pub name_stop : (frames : List Frame) (p : Place) (name : List ℕ) → Tracks steps frames p → 0 < p.depth → p.depth - 1 ≤ p.on → matches_at steps (p.depth - 1) (object (Some name)) ≡ false
      → Tracks steps (named name frames) (record { depth = p.depth; on = p.depth - 1; off = Object })
  name_stop [] p name tracks some high is = absurd (omega (arith, some, tracks.depth))
  name_stop (frame ∷ frames) p name tracks some high is =
      let index : p.depth - 1 ≡ length frames = omega (arith, tracks.depth) in
      track_stop (object (Some name)) frames p.depth (p.depth - 1) Object (was_here frame frames (omega (arith, high, tracks.on, tracks.depth)))
      (subst (λ n. matches_at steps n (object (Some name)) ≡ false) index is) (omega (arith, tracks.depth)) index tt

  -- ---- after a comma
  -- the last count is not passed
  abbrev pub next_number : ℕ → ℕ
  next_number n = min (n + 1) (2 ^ 64 - 1)

  pub comma_same : (frames : List Frame) (p : Place) → Tracks steps frames p → p.on ≡ p.depth
      → ((n m : ℕ) → matches_at steps (p.depth - 1) (element n) ≡ true → matches_at steps (p.depth - 1) (element m) ≡ true) → Tracks steps (passed frames) p
  comma_same [] p tracks here all = tracks
  comma_same (object name ∷ frames) p tracks here all = tracks
  comma_same (element n ∷ frames) p tracks here all =
      let index : p.depth - 1 ≡ length frames = omega (arith, tracks.depth) in
      let full : on_path steps (element n ∷ frames) ≡ length frames + 1 = omega (arith, tracks.on, here, tracks.depth) in
      let was : matches_at steps (length frames) (element n) ≡ true = was_on (element n) frames (matches_at steps (length frames) (element n)) full refl in
      let is : matches_at steps (length frames) (element (next_number n)) ≡ true =
      subst (λ k. matches_at steps k (element (next_number n)) ≡ true) index (all n (next_number n) (subst (λ k. matches_at steps k (element n) ≡ true) (sym index) was)) in
      track_on (element (next_number n)) frames p.depth p.on p.off (was_here (element n) frames (omega (arith, full))) is (omega (arith, tracks.depth)) (omega (arith, tracks.on, full))

  pub comma_left : (frames : List Frame) (p : Place) (number : ℕ) → Tracks steps frames p → 0 < p.depth → p.on ≡ p.depth → ((f : Frame) → matches_at steps (p.depth - 1) f ≡ matches (element_step number) f) → number < 2 ^ 32
      → Tracks steps (passed frames) (record { depth = p.depth; on = p.depth - 1; off = Array (next_number number) })
  comma_left [] p number tracks some here step small = absurd (omega (arith, some, tracks.depth))
  comma_left (object name ∷ frames) p number tracks some here step small =
      let index : p.depth - 1 ≡ length frames = omega (arith, tracks.depth) in
      let full : on_path steps (object name ∷ frames) ≡ length frames + 1 = omega (arith, tracks.on, here, tracks.depth) in
      let was : matches_at steps (length frames) (object name) ≡ true = was_on (object name) frames (matches_at steps (length frames) (object name)) full refl in
      absurd (true≢false (sym was ∙ (subst (λ k. matches_at steps k (object name) ≡ false) index (step (object name) ∙ refl))))
  comma_left (element n ∷ frames) p number tracks some here step small =
      let index : p.depth - 1 ≡ length frames = omega (arith, tracks.depth) in
      let full : on_path steps (element n ∷ frames) ≡ length frames + 1 = omega (arith, tracks.on, here, tracks.depth) in
      let was : matches_at steps (length frames) (element n) ≡ true = was_on (element n) frames (matches_at steps (length frames) (element n)) full refl in
      let equal : (number == n) ≡ true = sym (step (element n)) ∙ subst (λ k. matches_at steps k (element n) ≡ true) (sym index) was in
      let same : number ≡ n = eqb-true number n equal in
      let other : (number == next_number n) ≡ false = ne_eqb number (next_number n) (λ e. omega (arith, e, same, small)) in
      let is : matches_at steps (length frames) (element (next_number n)) ≡ false = subst (λ k. matches_at steps k (element (next_number n)) ≡ false) index (step (element (next_number n)) ∙ other) in
      track_stop (element (next_number n)) frames p.depth (p.depth - 1) (Array (next_number number)) (was_here (element n) frames (omega (arith, full))) is
      (omega (arith, tracks.depth)) index (ap next_number same)

  stopped : (frame : Frame) (frames : List Frame) (p : Place) → Tracks steps (frame ∷ frames) p → p.on ≡ p.depth - 1 → IsOff frame p.off
  stopped frame frames p tracks here =
      let on : on_path steps (frame ∷ frames) ≡ length frames = omega (arith, here, tracks.on, tracks.depth) in
      subst (λ f. IsOff f p.off) (off_stop frame frames (was_here frame frames (omega (arith, on)))) (tracks.off (omega (arith, on)))

  pub comma_on : (frames : List Frame) (p : Place) (number : ℕ) → Tracks steps frames p → 0 < p.depth → p.on ≡ p.depth - 1 → p.off ≡ Array number → matches_at steps (p.depth - 1) (element (next_number number)) ≡ true
      → Tracks steps (passed frames) (record { depth = p.depth; on = p.depth; off = p.off })
  comma_on [] p number tracks some here off is = absurd (omega (arith, some, tracks.depth))
  comma_on (object name ∷ frames) p number tracks some here off is = absurd (subst (IsOff (object name)) off (stopped (object name) frames p tracks here))
  comma_on (element n ∷ frames) p number tracks some here off is =
      let index : p.depth - 1 ≡ length frames = omega (arith, tracks.depth) in
      let same : number ≡ n = subst (IsOff (element n)) off (stopped (element n) frames p tracks here) in
      track_on (element (next_number n)) frames p.depth p.depth p.off (was_here (element n) frames (omega (arith, here, tracks.on, tracks.depth)))
      (subst (λ m. matches_at steps (length frames) (element (next_number m)) ≡ true) same (subst (λ k. matches_at steps k (element (next_number number)) ≡ true) index is))
      (omega (arith, tracks.depth)) (omega (arith, tracks.depth))

  pub comma_stop : (frames : List Frame) (p : Place) (number : ℕ) → Tracks steps frames p → 0 < p.depth → p.on ≡ p.depth - 1 → p.off ≡ Array number → matches_at steps (p.depth - 1) (element (next_number number)) ≡ false
      → Tracks steps (passed frames) (record { depth = p.depth; on = p.on; off = Array (next_number number) })
  comma_stop [] p number tracks some here off is = absurd (omega (arith, some, tracks.depth))
  comma_stop (object name ∷ frames) p number tracks some here off is = absurd (subst (IsOff (object name)) off (stopped (object name) frames p tracks here))
  comma_stop (element n ∷ frames) p number tracks some here off is =
      let index : p.depth - 1 ≡ length frames = omega (arith, tracks.depth) in
      let same : number ≡ n = subst (IsOff (element n)) off (stopped (element n) frames p tracks here) in
      track_stop (element (next_number n)) frames p.depth p.on (Array (next_number number)) (was_here (element n) frames (omega (arith, here, tracks.on, tracks.depth)))
      (subst (λ m. matches_at steps (length frames) (element (next_number m)) ≡ false) same (subst (λ k. matches_at steps k (element (next_number number)) ≡ false) index is))
      (omega (arith, tracks.depth)) (omega (arith, here, index)) (ap next_number same)
