-- Words that are passed over one after another, because they are not refused.
use Rattle.std.proofs.Common.{◌≡◌, ℕ, ◌+◌, ◌==◌, map, List, [], ◌∷◌, ◌++◌, true, length, arith, refl, sym, ap, ◌∙◌, subst, append_assoc, append-nil, length-append}
use Rattle.std.specs.Prelude.{All}
use Rattle.std.proofs.lemmas.Bool.{eqb-true}
use Rattle.std.proofs.lemmas.List.Elements.{All-append, All-cons, All-nil}
use Rattle.fixed_show.specs.Forms.{refusal}
use Rattle.fixed_show.specs.declared.form.Form.TheVariants.{Lines}
use Rattle.fixed_command.specs.Blocks.{IsBlock}
use Rattle.fixed_command.specs.Refused.{IsClean, IsFirstRefused}
use Rattle.fixed_command.specs.declared.blocks.Question.{Question}

-- the first `place` words are not refused, and `rest` are the other words
pub record HasPassed (q : Question) (words rest : List (List ℕ)) (place : ℕ) : Type 0 where
  pub some : List (List ℕ)
  pub cut : words ≡ some ++ rest
  pub counted : length some ≡ place
  pub clean : All (IsClean q) some

pub none_passed : (q : Question) (words : List (List ℕ)) → HasPassed q words words 0
none_passed q words = record { some = []; cut = refl; counted = refl; clean = All-nil (IsClean q) }

pub one_passed : (q : Question) (words rest : List (List ℕ)) (word : List ℕ) (place : ℕ) → HasPassed q words (word ∷ rest) place → IsClean q word → HasPassed q words rest (place + 1)
one_passed q words rest word place so_far clean = record {
  some = so_far.some ++ word ∷ [];
  cut = so_far.cut ∙ sym (append_assoc so_far.some (word ∷ []) rest);
  counted = length-append so_far.some (word ∷ []) ∙ ap (λ n. n + 1) so_far.counted;
  clean = All-append (IsClean q) so_far.some (word ∷ []) so_far.clean (All-cons (IsClean q) word [] clean (All-nil (IsClean q)));
}

pub all_passed : (q : Question) (words : List (List ℕ)) (place : ℕ) → HasPassed q words [] place → All (IsClean q) words
all_passed q words place so_far = subst (All (IsClean q)) (sym (so_far.cut ∙ append-nil so_far.some)) so_far.clean

pub stopped : (q : Question) (words rest : List (List ℕ)) (word cause : List ℕ) (place : ℕ) → HasPassed q words (word ∷ rest) place → IsBlock q word (record { text = refusal Lines cause; fault = true }) → IsFirstRefused q words place cause
stopped q words rest word cause place so_far refused = record {
  some = so_far.some;
  word = word;
  more = rest;
  cut = so_far.cut;
  counted = so_far.counted;
  clean = so_far.clean;
  refused = refused;
}

pub none_left : {X : Type 0} (f : X → List ℕ) (xs : List X) → true ≡ (length xs == 0) → map f xs ≡ []
none_left f [] none = refl
none_left f (x ∷ xs) none = absurd (omega (arith, eqb-true (length (x ∷ xs)) 0 (sym none)))
