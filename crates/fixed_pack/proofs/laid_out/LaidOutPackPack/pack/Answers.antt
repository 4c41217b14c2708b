use Rattle.std.proofs.Common.{◌≡◌, ◌∙◌, ℕ, Bool, false, true, List, [], append-nil, refl, subst, sym}
use Rattle.std.specs.Prelude.{Result}
use Rattle.fixed_command.specs.Layout.{LineLayout, is_skipped, without_blanks}
use Rattle.fixed_pack.specs.LaidOut.{PacksBy, RefusesBy}
use Rattle.fixed_pack.specs.Packed.{IsPackedInto}
use Rattle.fixed_pack.proofs.laid_out.LaidOutPackPack.pack.Goals as goal

-- a line that is not skipped is packed as the line without blanks
laid_into : {C : Type 0} (l : LineLayout) (P : List ℕ → List ℕ → Type 0) (F : List ℕ → C → Type 0) (line bare a b : List ℕ) (r : Result (Unit {0}) C) → is_skipped l line ≡ false → bare ≡ without_blanks l line → IsPackedInto (P bare) (F bare) a b r
    → IsPackedInto (PacksBy (is_skipped l line) l P line) (RefusesBy (is_skipped l line) l F line) a b r
laid_into l P F line bare a b r off is x =
    subst (λ (s : Bool). IsPackedInto (PacksBy s l P line) (RefusesBy s l F line) a b r) (sym off) (subst (λ (n : List ℕ). IsPackedInto (P n) (F n) a b r) is x)

pub returns-then-is_skipped : goal.returns-then-is_skipped
returns-then-is_skipped g c =
    let l = c.args.self.now.layout.now in
    let line = c.args.line.now in
    let skipped : is_skipped l line ≡ true = sym c.is_skipped.ensures ∙ c.if-is_skipped.true in
    record {
      word = [];
      is = subst (λ (s : Bool). PacksBy s l (g.R.Pack.Packs c.args.self.now.rule.now) line []) (sym skipped) refl;
      appended = sym (append-nil c.args.out.now);
    }

pub returns : goal.returns
returns g c =
    let rule = c.args.self.now.rule.now in
    laid_into c.args.self.now.layout.now (g.R.Pack.Packs rule) (g.R.Pack.Refuses rule) c.args.line.now c.without_blanks.result.now c.args.out.now c.pack.new.out c.pack.result
    (sym c.is_skipped.ensures ∙ c.if-is_skipped.false) c.without_blanks.ensures.value c.pack.ensures
