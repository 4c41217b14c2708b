use Rattle.std.proofs.Common.{◌≡◌, ◌++◌, List, ℕ, Option, None, Some, Bor, subst, sym, refl, ap, ◌∙◌}
use Rattle.std.specs.Prelude.{codes, option_map}
use Rattle.command_line.specs.Said.{IsBegun, IsFirstPart, Shows, first_line}
use Rattle.command_line.specs.declared.report.Report.{Report}
use Rattle.command_line.proofs.report.Report.of.Goals as goal
use Rattle.command_line.proofs.report.Report.of.Goals.{in-Some, in_default}

-- without a file
begun : (start after : List ℕ) → start ≡ codes "fixed" → Shows 1024 (first_line (codes ": ")) start after → IsBegun None after
begun start after e shows = (after, subst (λ (l : List ℕ). Shows 1024 (first_line (codes ": ")) l after) e shows, refl)

-- with a file
begun_of : (file : Bor (List ℕ)) (part bytes start first second after : List ℕ) → IsFirstPart file.now part → bytes ≡ part → start ≡ codes "fixed"
    → Shows 1024 (first_line (codes ": ")) start first → Shows 256 bytes first second → Shows 1024 (first_line (codes ": ")) second after
    → IsBegun (Some file.now) after
begun_of file part bytes start first second after is same e one two three =
    (part, is, (first, subst (λ (l : List ℕ). Shows 1024 (first_line (codes ": ")) l first) e one, (second, subst (λ (l : List ℕ). Shows 256 l first second) same two, (after, three, refl))))

pub returns : goal.returns
returns c =
    let fixed : c.push_bytes.new.self ≡ codes "fixed" = c.push_bytes.ensures ∙ ap (λ (l : List ℕ). l ++ codes "fixed") c.new-line.ensures in
    elim c.match-file.branch [
      | in-Some w ↦
          subst (λ (f : Option (Bor (List ℕ))). IsBegun (option_map (λ s. s.now) f) c.text-2.new.self.line) (sym w.in-Some.is)
          (begun_of w.in-Some.file w.first_part.result.now w.as_bytes.result.now c.push_bytes.new.self w.text.new.self.line c.match-file.report.line c.text-2.new.self.line
          w.first_part.ensures w.as_bytes.ensures.value fixed w.text.ensures
          (subst (λ (l : List ℕ). Shows 256 w.as_bytes.result.now w.text.new.self.line l) (ap (λ (r : Report). r.line) (sym w.report-is)) w.name.ensures)
          c.text-2.ensures)
      | in_default w ↦
          subst (λ (f : Option (Bor (List ℕ))). IsBegun (option_map (λ s. s.now) f) c.text-2.new.self.line) (sym w.in_default.is)
          (begun c.match-file.report.line c.text-2.new.self.line (ap (λ (r : Report). r.line) w.report-is ∙ fixed) c.text-2.ensures)
    ]
