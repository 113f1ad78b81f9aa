-- Each picture that is handed out is whole: each step shows whole pictures where histories are good.
use Rattle.std.proofs.Common.{ap, ap₂, sym, subst, ◌∙◌, arith}
use Rattle.std.proofs.lemmas.List.{map-append}
use Rattle.std.specs.Prelude.{◌≡◌, refl, ℕ, ◌+◌, ◌-◌, ◌*◌, ◌/◌, ◌≤◌, zero, suc, Bool, true, false, not, ◌&&◌, if◌then◌else◌}
use Rattle.std.specs.Prelude.{List, [], ◌∷◌, ◌++◌, length, slice_get, Option, Some, None, IfSome, Result, Ok, Err}
use Rattle.avc_types.specs.Results.{◌>>=◌}
use Rattle.avc_types.specs.Whole.{IsWhole}
use Rattle.avc_types.specs.declared.fault.Fault.{Fault}
use Rattle.avc_types.specs.declared.picture.Picture.{Picture as Decoded}
use Rattle.avc_types.specs.declared.picture_info.PictureInfo.{PictureInfo}
use Rattle.avc_annexb.specs.Units.{units}
use Rattle.avc_annexb.specs.declared.unit.Unit.{Unit as Piece}
use Rattle.avc_plane.specs.Planes.{Planes}
use Rattle.avc_params.specs.Limits.{height_in_mbs, width_in_mbs}
use Rattle.avc_params.specs.Tables.{sets_after}
use Rattle.avc_params.specs.Within.{IsCropping, IsSps, SpsInForceKeepsLimits}
use Rattle.avc_params.specs.declared.pps.Pps.{Pps}
use Rattle.avc_params.specs.declared.set_unit.SetUnit.{SetUnit}
use Rattle.avc_params.specs.declared.sps.Cropping.{Cropping}
use Rattle.avc_params.specs.declared.sps.Sps.{Sps}
use Rattle.avc_slice.specs.Header.{is_idr}
use Rattle.avc_slice.specs.declared.header.Header.{Header}
use Rattle.avc_slice.specs.declared.slice.Slice.{Slice}
use Rattle.avc_units.specs.Grouping.{set_units, step}
use Rattle.avc_units.specs.declared.step.Next.{Next}
use Rattle.avc_units.specs.declared.step.Next.TheVariants.{Begins, Continues, FaultOfOpen, FaultOfOwn, Nothing, Refusal}
use Rattle.avc_units.specs.declared.step.Step.{Step}
use Rattle.avc_marking.specs.Marks.{Marks}
use Rattle.avc_dpb.specs.declared.output.Output.{Output}
use Rattle.avc_picture.specs.Sizes.{IsSized, PicturesAreSized}
use Rattle.avc_decoder_core.proofs.Sequences.MissingNumbers.{ok_same, opened_by}
use Rattle.avc_decoder_core.specs.History.{Entry, History, all_held, decoded_picture, earlier_in_sequence, entry_at, marks_of}
use Rattle.avc_decoder_core.specs.History.{missing_frame, new_output, with_missing}
use Rattle.avc_decoder_core.specs.Pictures.{crop_of, entry_pictures, held_pictures, no_output_of_prior_pics, picture_of, pictures_at}
use Rattle.avc_decoder.proofs.Events.{closing_is, either, has_closed, history_by, if_either, slice_outcome}
use Rattle.avc_decoder.specs.Events.{Outcome, Phase, after_closing, after_first_slice, after_next, at_end, base_in, both, closed_outcome}
use Rattle.avc_decoder.specs.Events.{closing_result, events, events_from, failed_at, followed_by, held_after, history_in, in_phase}
use Rattle.avc_decoder.specs.Events.{is_running, is_waiting, open_facts_in, pictures, running, sets_named, waiting, with_slice}
use Rattle.avc_decoder.specs.FirstFault.{OpenPicture, first_fault, first_header, first_slice, history_at_opening_of, history_of}
use Rattle.avc_decoder.specs.FirstFault.{picture_planes, read_of, slices_of, start_on}
use Rattle.avc_decoder.specs.Laws.{PicturesAreWhole}
use Rattle.avc_decoder.specs.SeenEvents.{Event}
use Rattle.avc_decoder.specs.declared.event.Event.TheVariants.{Picture, Refused}

-- ---- a picture, and the pictures of a history

half : (n : ℕ) → 16 * n / 2 ≡ 8 * n
half n = omega arith

crop_fits : (width height : ℕ) (c : Option Cropping) → IfSome c (IsCropping width height)
    → ((crop_of c).left + (crop_of c).right ≤ width) × ((crop_of c).top + (crop_of c).bottom ≤ height)
crop_fits width height None w = (omega arith, omega arith)
crop_fits width height (Some c) w = (omega (arith, w.columns), omega (arith, w.rows))

picture_whole : (sps : Sps) (info : PictureInfo) (planes : Planes) → IsSps sps → IsSized (width_in_mbs sps) (height_in_mbs sps) planes
    → IsWhole (picture_of sps info planes)
picture_whole sps info planes is s =
    let size = ap₂ (λ m n. m * n) (sym s.luma.columns) (sym s.luma.rows) in
    let halves = ap₂ (λ m n. m * n) (sym (ap (λ m. m / 2) s.luma.columns ∙ half (width_in_mbs sps))) (sym (ap (λ m. m / 2) s.luma.rows ∙ half (height_in_mbs sps))) in
    let fits = crop_fits (16 * width_in_mbs sps) (16 * height_in_mbs sps) sps.frame_cropping is.crop in
    record {
      luma = s.luma.all ∙ size;
      cb = s.cb.all ∙ halves;
      cr = s.cr.all ∙ halves;
      columns = subst (λ m. (crop_of sps.frame_cropping).left + (crop_of sps.frame_cropping).right ≤ m) (sym s.luma.columns) fits.0;
      rows = subst (λ m. (crop_of sps.frame_cropping).top + (crop_of sps.frame_cropping).bottom ≤ m) (sym s.luma.rows) fits.1;
    }

abbrev WholeEvent : Event → Type 0
WholeEvent (Picture p) = IsWhole p
WholeEvent (Refused unit f) = Prim.Unit {0}

abbrev AllWhole : List Event → Type 0
AllWhole [] = Prim.Unit {0}
AllWhole (e ∷ es) = WholeEvent e × AllWhole es

whole-append : (a b : List Event) → AllWhole a → AllWhole b → AllWhole (a ++ b)
whole-append [] b w v = v
whole-append (e ∷ a) b w v = (w.0, whole-append a b w.1 v)

-- a closed picture has the size of its parameter set
abbrev Good : Entry → Type 0
Good (decoded_picture sps h info planes) = IsSps sps × IsSized (width_in_mbs sps) (height_in_mbs sps) planes
Good (missing_frame sps frame_num) = Prim.Unit {0}

abbrev AllGood : History → Type 0
AllGood [] = Prim.Unit {0}
AllGood (e ∷ h) = Good e × AllGood h

abbrev GoodAt : Option Entry → Type 0
GoodAt (Some e) = Good e
GoodAt None = Prim.Unit {0}

good_get : (h : History) (n : ℕ) → AllGood h → GoodAt (slice_get h n)
good_get [] n g = tt
good_get (e ∷ h) zero g = g.0
good_get (e ∷ h) (suc n) g = good_get h n g.1

good_at : (h : History) (index : ℕ) → AllGood h → GoodAt (entry_at h index)
good_at h index g = by_difference (length h - index)
  where
    by_difference : (d : ℕ) → GoodAt (elim d [ zero ↦ None | suc n ↦ slice_get h n ])
    by_difference zero = tt
    by_difference (suc n) = good_get h n g

shown_whole : (e : Option Entry) (more : List Decoded) → GoodAt e → AllWhole (pictures more) → AllWhole (pictures (entry_pictures e ++ more))
shown_whole (Some (decoded_picture sps h info planes)) more g w = (picture_whole sps info planes g.0 g.1, w)
shown_whole _ more g w = w

pictures_whole : (h : History) (indices : List ℕ) → AllGood h → AllWhole (pictures (pictures_at h indices))
pictures_whole h [] g = tt
pictures_whole h (index ∷ indices) g = shown_whole (entry_at h index) (pictures_at h indices) (good_at h index g) (pictures_whole h indices g)

-- ---- the history on which a picture stands, and that with it

missing_good : (sps : Sps) (numbers : List ℕ) (h full : History) → AllGood h → with_missing sps numbers h ≡ Ok full → AllGood full
missing_good sps [] h full g e = subst AllGood (ok_same h full e) g
missing_good sps (n ∷ numbers) h full g e = by_marks (marks_of next) (missing_good sps numbers next full (tt, g)) e
  where
    next : History
    next = missing_frame sps n ∷ h

    by_marks : (r : Result Marks Fault) → (with_missing sps numbers next ≡ Ok full → AllGood full)
        → (r >>= λ m. with_missing sps numbers next) ≡ Ok full → AllGood full
    by_marks (Ok m) others e' = others e'
    by_marks (Err f) others e' = cc

base_good : (o : OpenPicture) → AllGood o.before → AllGood (history_of o)
base_good o g = by_address (first_header o).first_mb_in_slice (history_at_opening_of o) (λ h e.
    let opened = opened_by o.sps (first_header o) o.before h e in
    missing_good o.sps opened.numbers o.before h g opened.missing)
  where
    by_address : (address : ℕ) (opened : Result History Fault) → ((h : History) → opened ≡ Ok h → AllGood h)
        → AllGood (history_by address opened o.before)
    by_address zero (Ok h) good = good h refl
    by_address _ opened good = g

closed_good : PicturesAreSized → (o : OpenPicture) (full : History) → AllGood o.before → IsSps o.sps → closing_result o ≡ Ok full → AllGood full
closed_good sized o full g is e =
    let base = history_of o in
    let hd = first_header o in
    let closing = closing_is o.sps hd (first_slice o).unit (picture_planes o base) base full (has_closed o full e).1 in
    let earlier = either AllGood (is_idr hd) [] base (λ _. tt) (λ _. base_good o g) in
    subst AllGood (sym closing.0) ((is, sized (start_on o base) (slices_of o)), earlier)

-- ---- a step

-- The phase's histories are good.
abbrev GoodPhase : Phase → Type 0
GoodPhase waiting = Prim.Unit {0}
GoodPhase (running h None) = AllGood h
GoodPhase (running h (Some o)) = AllGood h × AllGood o.before × IsSps o.sps

good_in : (p : Phase) → GoodPhase p → AllGood (history_in p)
good_in waiting g = tt
good_in (running h None) g = g
good_in (running h (Some o)) g = base_good o g.1

good_base : (p : Phase) → GoodPhase p → AllGood (base_in p)
good_base waiting g = tt
good_base (running h None) g = g
good_base (running h (Some o)) g = g.0

-- It shows whole pictures, and leaves such histories.
record GoesWhole (x : Outcome) : Type 0 where
  whole : AllWhole x.events
  good : GoodPhase x.phase

followed_whole : (x y : Outcome) → GoesWhole x → GoesWhole y → GoesWhole (followed_by x y)
followed_whole x y g k = record { whole = whole-append x.events y.events g.whole k.whole; good = k.good }

held_whole : (output : Output) (p : Phase) → GoodPhase p → AllWhole (held_after output p)
held_whole output waiting g = tt
held_whole output (running h o) g = pictures_whole h (all_held output h) (good_base (running h o) g)

fails_whole : (output : Output) (h : History) (unit : ℕ) (f : Fault) (read : ℕ) → AllGood h → GoesWhole (failed_at output h unit f read)
fails_whole output h unit f read g =
    record { whole = whole-append (pictures (held_pictures output h)) (Refused unit f ∷ []) (pictures_whole h (all_held output h) g) (tt, tt); good = tt }

-- a slice more
slice_whole : (output : Output) (before : History) (already : ℕ) (o : OpenPicture) → AllGood before → AllGood o.before → IsSps o.sps
    → GoesWhole (with_slice output before already o)
slice_whole output before already o b g is = by_fault (first_fault o false)
  where
    by_fault : (found : Option (ℕ × Fault)) → GoesWhole (slice_outcome output found before o (history_of o) (read_of o - already))
    by_fault (Some found) = fails_whole output before found.0 found.1 (read_of o - already) b
    by_fault None = record { whole = pictures_whole (history_of o) (new_output output before (history_of o)) (base_good o g); good = (g, g, is) }

-- ---- the parameter set of a picture that begins

abbrev GoodNamed : Option (Pps × Sps) → Type 0
GoodNamed None = Prim.Unit {0}
GoodNamed (Some named) = IsSps named.1

good_named : SpsInForceKeepsLimits → (units : List SetUnit) (hd : Header) → GoodNamed (sets_named (sets_after units) hd)
good_named keeps units hd = by_pps ((sets_after units).pps hd.pic_parameter_set_id)
  where
    by_sps : (pps : Pps) (s : Option Sps) → ((sps : Sps) → s ≡ Some sps → IsSps sps) → GoodNamed (both (Some pps) s)
    by_sps pps (Some sps) good = good sps refl
    by_sps pps None good = tt

    by_pps : (p : Option Pps) → GoodNamed (elim p [ None ↦ None | Some pps ↦ both (Some pps) ((sets_after units).sps pps.seq_parameter_set_id) ])
    by_pps None = tt
    by_pps (Some pps) = by_sps pps ((sets_after units).sps pps.seq_parameter_set_id) (λ sps same. (keeps units pps.seq_parameter_set_id sps same).within)

first_whole : (output : Output) (named : Option (Pps × Sps)) (before : History) (s : Slice) → AllGood before → GoodNamed named
    → GoesWhole (after_first_slice output named before s)
first_whole output None before s b is = record { whole = tt; good = b }
first_whole output (Some named) before s b is =
    slice_whole output before 0 (record { before = before; sps = named.1; pps = named.0; last = s; earlier = [] }) b b is

-- ---- a unit, and the end

module _ (sized : PicturesAreSized) (keeps : SpsInForceKeepsLimits) (output : Output) where
  next_whole : (units : List SetUnit) (unit : ℕ) (p : Phase) (n : Next) → GoodPhase p → GoesWhole (after_next output (sets_after units) unit p n)
  next_whole units unit p Nothing g = record { whole = tt; good = g }
  next_whole units unit p (Refusal f) g = record { whole = (tt, tt); good = g }
  next_whole units unit p (FaultOfOpen f) g = fails_whole output (history_in p) unit f 0 (good_in p g)
  next_whole units unit p (FaultOfOwn f) g = fails_whole output (history_in p) unit f 0 (good_in p g)
  next_whole units unit p (Begins s) g =
      first_whole output (sets_named (sets_after units) s.header) (base_in p) s (good_base p g) (good_named keeps units s.header)
  next_whole units unit (running h (Some o)) (Continues s) g =
      slice_whole output (history_of o) (read_of o) (record o { last = s; earlier = o.last ∷ o.earlier }) (base_good o g.1) g.1 g.2
  next_whole units unit p (Continues s) g = record { whole = tt; good = g }

  -- the open picture is closed
  closed_whole : (o : OpenPicture) (r : Result History (ℕ × Fault)) → AllGood o.before → ((full : History) → r ≡ Ok full → AllGood full)
      → GoesWhole (closed_outcome output o r)
  closed_whole o (Err found) g closed = fails_whole output (history_of o) found.0 found.1 0 (base_good o g)
  closed_whole o (Ok full) g closed =
      let base = history_of o in
      let hd = first_header o in
      let Whole : List Decoded → Type 0 = λ out. AllWhole (pictures out) in
      let held = pictures_whole base (all_held output base) (base_good o g) in
      let dropped = if_either Whole (no_output_of_prior_pics hd.marking) [] (held_pictures output base) tt held in
      let first = either Whole (is_idr hd) (if no_output_of_prior_pics hd.marking then [] else held_pictures output base) [] (λ _. dropped) (λ _. tt) in
      let indices = new_output output (earlier_in_sequence hd base) full in
      record {
        whole =
            subst AllWhole (sym (map-append (λ p. Picture p) _ (pictures_at full indices)))
            (whole-append _ _ first (pictures_whole full indices (closed full refl)));
        good = closed full refl;
      }

  closing_whole : (o : OpenPicture) → AllGood o.before → IsSps o.sps → GoesWhole (closed_outcome output o (closing_result o))
  closing_whole o g is = closed_whole o (closing_result o) g (λ full e. closed_good sized o full g is e)

  then_whole : (units : List SetUnit) (unit : ℕ) (what : Step) (x : Outcome) → GoesWhole x
      → GoesWhole (after_closing output (sets_after units) unit what x)
  then_whole units unit what x g =
      let next = after_next output (sets_after units) unit x.phase what.next in
      either GoesWhole (is_waiting x.phase && not what.even_after_fault) x (followed_by x next) (λ _. g)
      (λ _. followed_whole x next g (next_whole units unit x.phase what.next g.good))

  unit_whole : (units : List SetUnit) (unit : ℕ) (what : Step) (p : Phase) → GoodPhase p → GoesWhole (in_phase output (sets_after units) unit what p)
  unit_whole units unit what waiting g = next_whole units unit waiting what.next g
  unit_whole units unit what (running h None) g = next_whole units unit (running h None) what.next g
  unit_whole units unit what (running h (Some o)) g =
      let x = closed_outcome output o (closing_result o) in
      either GoesWhole what.closes (after_closing output (sets_after units) unit what x) (after_next output (sets_after units) unit (running h (Some o)) what.next)
      (λ _. then_whole units unit what x (closing_whole o g.1 g.2)) (λ _. next_whole units unit (running h (Some o)) what.next g)

  end_whole : (p : Phase) → GoodPhase p → AllWhole (at_end output p)
  end_whole waiting g = tt
  end_whole (running h None) g = held_whole output (running h None) g
  end_whole (running h (Some o)) g =
      let x = closed_outcome output o (closing_result o) in
      let closed = closing_whole o g.1 g.2 in
      whole-append x.events (held_after output x.phase) closed.whole (held_whole output x.phase closed.good)

  all_whole : (us : List Piece) (units : List SetUnit) (p : Phase) (ended : Bool) → GoodPhase p
      → AllWhole (events_from (record { output = output; sets = units; phase = p }) us ended)
  all_whole [] units p true g = end_whole p g
  all_whole [] units p false g = tt
  all_whole (u ∷ us) units p ended g =
      let what = step (sets_after units) (is_running p) (open_facts_in p) u in
      let x = in_phase output (sets_after units) u.index what p in
      let goes = unit_whole units u.index what p g in
      whole-append x.events _ goes.whole (all_whole us (units ++ set_units (u ∷ [])) x.phase ended goes.good)

-- ---- the law

one_whole : (es : List Event) (k : ℕ) (p : Decoded) → AllWhole es → slice_get es k ≡ Some (Picture p) → IsWhole p
one_whole [] k p w e = cc
one_whole (x ∷ es) zero p w e = subst WholeEvent (let same : x ≡ Picture p = cc in same) w.0
one_whole (x ∷ es) (suc k) p w e = one_whole es k p w.1 e

pub are_whole : PicturesAreSized → SpsInForceKeepsLimits → PicturesAreWhole
are_whole sized keeps output max bytes ended k p =
    one_whole (events output max bytes ended) k p (all_whole sized keeps output (units max bytes ended) [] waiting ended tt)
