use Rattle.avc_picture.proofs.Slices.{Err, suc, ◌≡◌, ◌∙◌, ◌<◌, ◌*◌, refl, sym, ap, rules, add-one, w8, to_z, of_z, planes_of, AreInfoOf}
use Rattle.avc_picture.proofs.Slices.{FilterInfo, FiltersUpTo, filtered_rows, state_of, with_planes, kept_more, modes_above, modes_left, build_fault, decoded_more}
use Rattle.avc_picture.proofs.Slices.{vector_fault, inl, inr}
use Rattle.avc_picture_core.specs.Canvas.{address_of}
use Rattle.avc_picture.proofs.Slices.{arith, AreUsable, late_room, row_below}
use Rattle.avc_picture.specs.StillRuns.{AreCopiedFrom, GoesOnStill}
use Rattle.avc_picture.proofs.StillRuns.{copied_here, copied_next, goes_on_behind, holds_again, kept_again}
use Rattle.avc_picture.proofs.macroblocks.Macroblocks.decode.Goals as goal

pub returns-in_err-build-clause-decoded : goal.returns-in_err-build-clause-decoded
returns-in_err-build-clause-decoded g c = rw (← c.self.view_is) (λ coded names holds is slice.
    let f = c.in_err-build.field-0.0 in
    let e : c.from_residual.result ≡ Err f = search rules in
    let w = c.self.invariant in
    let here = ap (λ v. address_of v c.place.result) (sym w.filter_width) ∙ c.place.ensures.address ∙ w.kept.filter_count in
    rw e (elim c.in_err-build.ensures.built [
      | inl out ↦ vector_fault holds w.kept slice is refl f out
      | inr told ↦
          let ahead = rw here at told.ahead in
          let held = holds_again holds w.kept ahead.between ahead.earlier in
          let agree = kept_again holds w.kept ahead.between ahead.earlier in
          build_fault held agree slice is refl _ told.motion told.told refl f (with_planes c.self.inside.canvas (planes_of c.build.new.planes)) ahead.built
    ]))

pub invariant_of-self-2 : goal.invariant_of-self-2
invariant_of-self-2 g c =
    let i = c.self.inside in
    let w = c.self.invariant in
    let adds = c.put.ensures.info in
    let told = rw (← c.info-info.ensures) at c.in_ok-build.ensures.built in
    let room : i.next < i.canvas.width * i.canvas.height = rw (← c.self.view_is) at c.requires.room in
    record {
      sized = c.filter_late.ensures.sized i.canvas.width i.canvas.height c.build.ensures.sized;
      filter_width = ap (λ (f : FilterInfo). f.width) adds.new_is ∙ w.filter_width;
      kept = rw adds.new_is (kept_more (state_of i) w.kept (with_planes i.canvas (planes_of c.filter_late.new.planes)) refl refl c.info-info.result.now
          (told.told.in_range
          (modes_left i.row c.args.slice.now.number w.kept.modes)
          (modes_above i.row c.args.slice.now.number w.kept.modes))
          adds.info room c.put-2.new.self c.put-2.ensures);
    }

pub returns-clause-decoded : goal.returns-clause-decoded
returns-clause-decoded g c = rw (← c.self.view_is) (λ coded names holds is slice.
    let i = c.self.inside in
    let w = c.self.invariant in
    let told = rw (← c.info-info.ensures) at c.in_ok-build.ensures.built in
    let adds = c.put.ensures.info in
    let room : i.next < i.canvas.width * i.canvas.height = rw (← c.self.view_is) at c.requires.room in
    let after = planes_of c.filter_late.new.planes in
    let here = ap (λ v. address_of v c.place.result) (sym w.filter_width) ∙ c.place.ensures.address ∙ w.kept.filter_count in
    let same : to_z w8 (of_z w8 i.canvas.chroma_qp_index_offset) ≡ i.canvas.chroma_qp_index_offset = search rules in
    let width : i.filter_rows.width ≡ coded.width = w.filter_width ∙ holds.width in
    let of : AreInfoOf coded names (to_z w8 (of_z w8 i.canvas.chroma_qp_index_offset)) i.filter_rows =
    record { width_is = sym width; offset_is = sym holds.offset ∙ sym same; info_are = holds.filter } in
    let filters : FiltersUpTo coded (filtered_rows coded.width i.next) (filtered_rows coded.width (suc i.next)) (planes_of c.build.new.planes) after =
    rw (width, w.kept.filter_count) at (c.filter_late.ensures.lines coded names of) in
    let ahead = rw here at told.ahead in
    let held = holds_again holds w.kept ahead.between ahead.earlier in
    let agree = kept_again holds w.kept ahead.between ahead.earlier in
    let more = decoded_more held agree slice is refl c.info-info.result.now told.motion
    told.told refl (with_planes i.canvas (planes_of c.build.new.planes))
    c.in_ok-build.field-0 ahead.built c.put.ensures.blocks adds.info adds.told room after filters in
    (more.0, rw (adds.new_is, c.put-2.ensures, add-one) more.1))

pub returns-clause-copied : goal.returns-clause-copied
returns-clause-copied g c =
    let i = c.self.inside in
    let w = c.self.invariant in
    let here = ap (λ v. address_of v c.place.result) (sym w.filter_width) ∙ c.place.ensures.address ∙ w.kept.filter_count in
    copied_next c.args.slice.now.references i.canvas.width c.place.result.column c.place.result.row i.next c.build.new.run.copied
    (planes_of c.build.new.planes) (planes_of c.filter_late.new.planes) here (rw (w.filter_width, w.kept.filter_count) at c.filter_late.ensures.inside)
    c.in_ok-build.ensures.copied

pub returns-clause-still : goal.returns-clause-still
returns-clause-still g c =
    let i = c.self.inside in
    let w = c.self.invariant in
    let place = c.place.result in
    let done = c.in_ok-build.ensures in
    let here = ap (λ v. address_of v place) (sym w.filter_width) ∙ c.place.ensures.address ∙ w.kept.filter_count in
    rw (c.put-2.ensures, c.info-info.ensures) (goes_on_behind c.args.slice.now.references i.canvas.width place.column place.row i.next c.build.new.run.copied
    (planes_of c.build.new.planes) i.row c.args.slice.now.number c.build.new.info here w.kept.row_width w.kept.count done.copied done.still)

pub build-requires : goal.build-requires
build-requires g c =
    let i = c.self.inside in
    let w = c.self.invariant in
    let r = c.requires in
    let place = c.place.result in
    let references = c.args.slice.now.references in
    let count = c.args.run.now.copied in
    let here = ap (λ v. address_of v place) (sym w.filter_width) ∙ c.place.ensures.address ∙ w.kept.filter_count in
    let room : i.next < i.canvas.width * i.canvas.height = rw (← c.self.view_is) at r.room in
    let narrow : place.column < i.canvas.width = rw w.filter_width at c.place.ensures.column in
    let low = row_below i.canvas.width i.canvas.height place.column place.row i.next here room in
    let usable : AreUsable i.canvas.width i.canvas.height references = rw (← c.self.view_is) at r.references in
    let copied : AreCopiedFrom references i.canvas.width i.next count (planes_of i.planes) = rw (← c.self.view_is) at r.copied in
    let still : GoesOnStill count c.args.slice.now.number i.row c.args.info.now = rw (← c.self.view_is) at r.still in
    let ahead = copied_here references i.canvas.width place.column place.row i.next count (planes_of i.planes) narrow here copied in
    (omega arith, (omega arith, (narrow, (low, (w.sized, (r.mb, (w.kept.modes, (usable, (ahead, still)))))))))

pub filter_late-requires : goal.filter_late-requires
filter_late-requires g c =
    let i = c.self.inside in
    let w = c.self.invariant in
    (omega arith, λ column low. late_room (state_of i) w.kept i.filter_rows.width w.filter_width (planes_of c.build.new.planes) c.build.ensures.sized column low)

pub put-requires : goal.put-requires
put-requires g c =
    let w = c.self.invariant in
    let room = rw (← c.self.view_is) at c.requires.room in
    let told = rw (← c.info-info.ensures) at c.in_ok-build.ensures.built in
    let one = rw (← c.info-info.ensures) at c.in_ok-build.ensures.one in
    let skipped = c.stands_still-stands_still.ensures.skipped in
    let still = rw (← c.info-info.ensures) at c.stands_still-stands_still.ensures.still in
    (omega arith, (omega (arith, w.kept.small, w.kept.filter_count, room), (told.told.total_coeffs_is, (one, (skipped, still)))))
