use Rattle.avc_syntax_tests.proofs.Following.{[], length, take, false, refl, arith, negsuc, pos, sym, subst, ints, replicate, parts_of, partitions, IsMvd}
use Rattle.avc_syntax_tests.proofs.Following.{IsRefIdx, has_ref_idx, Mvd, each_first, each_same, taken}
use Rattle.avc_syntax_tests.proofs.macroblock_types.p_inter.Goals as goal

pub returns : goal.returns
returns c = λ context is_p count.
    let t = c.args.mb_type in
    let d : Mvd = record { x = negsuc 2; y = pos 64 } in
    let fits : IsMvd d = ((omega (arith, ints), omega (arith, ints)), (omega (arith, ints), omega (arith, ints))) in
    record {
      in_p = is_p;
      quarters = c.requires.quarters;
      ref_idx = subst (λ m. IsRefIdx m (partitions t) (has_ref_idx m t) (take (partitions t) c.args.ref_idx)) (sym count) c.requires.ref_idx;
      all = taken (length (parts_of t)) (replicate 16 d) c.requires.parts;
      mvd = each_first IsMvd (length (parts_of t)) (replicate 16 d) (each_same IsMvd d fits 16);
      pattern = record {
        residual = c.levels.ensures.residual false [] refl refl;
        no_delta = λ none. absurd (omega (arith, none, c.levels.ensures.pattern));
      };
    }
