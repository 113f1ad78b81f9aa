use Rattle.avc_reflist.proofs.ReferenceLists.{◌<◌, ◌++◌, ◌∷◌, [], ℕ, length, map, ◌∙◌, arith, All-take, All-push, reference_at, references_at}
use Rattle.avc_reflist.proofs.ReferenceLists.{length-take, names-step, map-cut}
use Rattle.avc_reflist.proofs.named_frames.modification_places.Goals as goal

pub loop-modification-preserved : goal.loop-modification-preserved
loop-modification-preserved c =
    let loop = c.loop-modification in
    let P = λ (p : ℕ). p < length c.args.frames.now in
    record {
      few = rw c.add.ensures (omega (arith, length-take {A = ℕ}));
      within = rw c.add.ensures (All-take P c.args.count (loop.list.items ++ c.in_ok-place.place ∷ [])
          (All-push P loop.list.items c.in_ok-place.place loop.invariant.within c.in_ok-place.ensures.within));
      frames = λ indices stand.
          let ref = reference_at indices c.args.frames.now in
          loop.invariant.frames indices stand
          ∙ rw (c.add.ensures, map-cut ref c.args.count loop.list.items c.in_ok-place.place)
          (names-step c.args.count (references_at indices c.args.frames.now) (map ref loop.list.items) c.args.current loop.number
          c.pic_num_no_wrap-number.result loop.modification-index c.args.modifications.now (ref c.in_ok-place.place) (omega arith) c.pic_num_no_wrap-number.ensures
          (c.in_ok-place.ensures.named indices stand));
    }
