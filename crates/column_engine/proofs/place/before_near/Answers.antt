use Rattle.std.proofs.Common.{ℕ, ◌≡◌, ◌+◌, eqb, get_or, ap, ◌∙◌, arith, subst, w8}
use Rattle.std.proofs.lemmas.Simd.{bitmask_splat, first_set_mask_l, length-chunk, run_in_chunk_fails, run_in_chunk_le, run_in_chunk_stops}
use Rattle.std.proofs.lemmas.Bool.{eqb-true}
use lib.Lanes.{chunk}
use Rattle.column_engine.specs.Places.{first_set}
use Rattle.column_engine.proofs.place.before_near.Goals as goal

pub returns : goal.returns
returns c =
    let bytes = c.args.bytes.now in
    let is_it = λ (x : ℕ). eqb x c.args.byte in
    let near = chunk 0 16 bytes in
    let long = length-chunk 0 16 bytes c.requires in
    let counted = c.first_set.ensures ∙ ap first_set (bitmask_splat w8 eqb near 16 c.args.byte long (omega arith))
    ∙ first_set_mask_l is_it near 16 long (omega arith) in
    record {
      within = run_in_chunk_le is_it bytes 0 16 c.first_set.result 0 c.requires counted;
      none = λ j low. run_in_chunk_fails is_it bytes 0 16 c.first_set.result 0 c.requires counted j (omega arith) (omega (arith, low));
      found = λ low.
          let from : 0 + c.first_set.result ≡ c.first_set.result = omega arith in
          subst (λ n. get_or bytes n 0 ≡ c.args.byte) from (eqb-true _ c.args.byte (run_in_chunk_stops is_it bytes 0 16 c.first_set.result 0 c.requires counted low));
    }
