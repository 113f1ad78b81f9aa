use Rattle.avc_picture.proofs.Slices.{◌≡◌, ◌∙◌, ◌≤◌, ◌*◌, sym, ap, arith, w8, w32, to_z, of_z, ints, max_macroblocks, planes_of, FilterInfo, IsSized, PictureInfo}
use Rattle.avc_picture.proofs.Slices.{holds_none, kept_none, whole_plane}
use Rattle.avc_picture.specs.Memory.{with_info}
use Rattle.std.proofs.lemmas.Bool.{false≢true}
use Rattle.avc_picture.proofs.SpareMemory.{has_begun, is_refused, no_info_had, no_planes_had}
use Rattle.avc_picture.proofs.macroblocks.Macroblocks.new.Goals as goal

pub invariant_of-result : goal.invariant_of-result
invariant_of-result g c =
    let w = c.width_in_mbs-columns.result in
    let h = c.height_in_mbs-height.result in
    let offset = to_z w8 (of_z w8 (to_z w32 (of_z w32 c.args.pps.now.chroma_qp_index_offset))) in
    let size : w * h ≤ max_macroblocks = rw (c.width_in_mbs-columns.ensures, c.height_in_mbs-height.ensures) c.requires.sps.size in
    record {
      sized = c.in-Ok.ensures.sized;
      filter_width = ap (λ (f : FilterInfo). f.width) c.in_ok-info.ensures.filter_rows;
      kept = rw (c.in_ok-info.ensures.row, c.in_ok-info.ensures.filter_rows)
          (kept_none w h offset c.args.pps.now.constrained_intra_pred_flag (planes_of c.in-Ok.planes) (omega (arith, c.width_in_mbs-columns.ensures))
          (omega (arith, c.height_in_mbs-height.ensures)) size);
    }

pub returns-clause-holds : goal.returns-clause-holds
returns-clause-holds g c = λ coded names sets.
    let w = c.width_in_mbs-columns.result in
    let h = c.height_in_mbs-height.result in
    let x = c.args.pps.now.chroma_qp_index_offset in
    let p = c.requires.pps in
    let cast : to_z w8 (of_z w8 (to_z w32 (of_z w32 x))) ≡ x = omega (arith, ints, p.chroma_low, p.chroma_high) in
    let planes = planes_of c.in-Ok.planes in
    let size = c.in-Ok.ensures.sized in
    let whole : IsSized w h planes = record {
      luma = whole_plane (16 * w) (16 * h) planes.luma size.luma_width size.luma_height c.holds_bytes.ensures.all;
      cb = whole_plane (8 * w) (8 * h) planes.cb size.cb_width size.cb_height c.holds_bytes-2.ensures.all;
      cr = whole_plane (8 * w) (8 * h) planes.cr size.cr_width size.cr_height c.holds_bytes-3.ensures.all;
    } in
    rw (c.in_ok-info.ensures.row, c.in_ok-info.ensures.filter_rows)
    (holds_none w h _ c.args.pps.now.constrained_intra_pred_flag planes coded names whole (sets.width ∙ sym c.width_in_mbs-columns.ensures)
    (sets.height ∙ sym c.height_in_mbs-height.ensures) (sets.offset ∙ sym cast) sets.constrained)

pub returns-in_err-info-clause-kept : goal.returns-in_err-info-clause-kept
returns-in_err-info-clause-kept g c =
    let w = c.width_in_mbs-columns.result in
    let h = c.height_in_mbs-height.result in
    rw (← c.width_in_mbs-columns.ensures, ← c.height_in_mbs-height.ensures)
    (is_refused w h c.args.memory.now c.info.new.self c.from_residual.result c.from_residual.ensures.0
    (no_info_had w h c.args.memory.now c.info.new.self c.info.ensures.taken (λ had. false≢true (c.in_err-info.ensures.memory had))))

pub returns-in-Err-clause-kept : goal.returns-in-Err-clause-kept
returns-in-Err-clause-kept g c =
    let w = c.width_in_mbs-columns.result in
    let row = ap (λ (r : PictureInfo). r.width) c.in_ok-info.ensures.row in
    rw (← c.width_in_mbs-columns.ensures, ← c.height_in_mbs-height.ensures)
    (no_planes_had w c.height_in_mbs-height.result c.args.memory.now c.info.new.self c.planes.new.self c.keep_info.new.self c.info.ensures.taken
    c.in-Err.ensures.stay (c.keep_info.ensures ∙ ap (λ n. with_info n c.planes.new.self) row))

pub returns-clause-kept : goal.returns-clause-kept
returns-clause-kept g c =
    rw (← c.width_in_mbs-columns.ensures, ← c.height_in_mbs-height.ensures)
    (has_begun c.width_in_mbs-columns.result c.height_in_mbs-height.result c.args.memory.now c.info.new.self c.planes.new.self (planes_of c.in-Ok.planes)
    c.info.ensures.taken c.in-Ok.ensures.had c.planes.ensures.info)
