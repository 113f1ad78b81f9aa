-- Parameter sets and slice headers, read from their bits.
pub mod Words
unfoldable pub use Words.*
use Rattle.avc_make_headers.specs.SpsWriting.{IsWritable}

-- ---- the table of explicit weights read from its bits

back-coded_weight : GivesEach coded_weight coded_weight_bits IsCodedWeight
back-coded_weight = gives_each (λ c is.
    back-bind _ (back-se_within (negsuc 127) (pos 127) refl is.weight_low is.weight_high) (back-last _ (back-se_within (negsuc 127) (pos 127) refl is.offset_low is.offset_high)))

back-chroma_weights : GivesEach chroma_weights chroma_weights_bits IsChromaWeights
back-chroma_weights = record { each = λ c is. back-bind _ (back-coded_weight.each c.cb is.cb) (back-last _ (back-coded_weight.each c.cr is.cr)) }

back-entry_weights : GivesEach entry_weights entry_weights_bits IsEntryWeights
back-entry_weights = record { each = λ e is. back-bind _ (back-optional back-coded_weight is.luma) (back-last _ (back-optional back-chroma_weights is.chroma)) }

pub each_of_all : {A : Type 0} (P : A → Type 0) (xs : List A) → All P xs → Each P xs
each_of_all P [] all = tt
each_of_all P (x ∷ xs) all = (All-head P x xs all, each_of_all P xs (All-tail P x xs all))

pub back-table : (n : ℕ) → GivesEach (pred_weight_table n) pred_weight_table_bits (IsPredWeightTable n)
back-table n = gives_each (λ t is.
    back-bind _ (back-ue_to 7 refl is.luma_denom) (back-bind _ (back-ue_to 7 refl is.chroma_denom)
    (back-last _ (back-times n is.count back-entry_weights (each_of_all IsEntryWeights t.entries is.entries)))))

-- ---- video usability information read from its bits

back-entry : GivesEach hrd_entry hrd_entry_bits IsHrdEntry
back-entry = record { each = λ e is. back-bind _ (back-ue is.0) (back-bind _ (back-ue is.1) (back-last _ back-flag)) }

back-sample_size : GivesEach sample_size sample_size_bits IsSampleSize
back-sample_size = record { each = λ s is. back-bind _ (back-u 16 is.0) (back-last _ (back-u 16 is.1)) }

back-aspect : GivesEach sample_aspect aspect_bits IsAspect
back-aspect = record { each = λ a is. back-bind _ (back-u 8 is.idc) (back-last _ (back-where (a.aspect_ratio_idc == 255) is.is_extended back-sample_size is.size)) }

back-colour : GivesEach colour colour_bits IsColour
back-colour = record { each = λ c is. back-bind _ (back-u 8 is.0) (back-bind _ (back-u 8 is.1) (back-last _ (back-u 8 is.2))) }

back-video_signal : GivesEach video_signal video_signal_bits IsVideoSignal
back-video_signal = record { each = λ v is. back-bind _ (back-u 3 is.0) (back-bind _ back-flag (back-last _ (back-optional back-colour is.1))) }

back-chroma_location : GivesEach chroma_location chroma_location_bits IsChromaLocation
back-chroma_location = record { each = λ l is. back-bind _ (back-ue is.0) (back-last _ (back-ue is.1)) }

back-timing : GivesEach timing timing_bits IsTiming
back-timing = record { each = λ t is. back-bind _ (back-u 32 is.0) (back-bind _ (back-u 32 is.1) (back-last _ back-flag)) }

back-restriction : GivesEach restriction restriction_bits IsRestriction
back-restriction = gives_each (λ r is.
    back-bind _ back-flag (back-bind _ (back-ue is.bytes) (back-bind _ (back-ue is.bits) (back-bind _ (back-ue is.horizontal)
    (back-bind _ (back-ue is.vertical) (back-bind _ (back-ue is.reorder) (back-last _ (back-ue is.buffering))))))))

back-hrd : GivesEach hrd hrd_bits IsHrd
back-hrd = gives_each (λ h is.
    back-bind _ (back-ue_to 31 refl (omega (arith, is.few))) (back-bind _ (back-u 4 is.rate) (back-bind _ (back-u 4 is.size)
    (back-bind _ (back-times (length h.entries - 1 + 1) (omega (arith, is.some)) back-entry is.entries) (back-bind _ (back-u 5 is.initial)
    (back-bind _ (back-u 5 is.removal) (back-bind _ (back-u 5 is.output) (back-last _ (back-u 5 is.offset)))))))))

-- any flag, where there is one
back-flags : GivesEach flag flag_bits (λ _. Unit {0})
back-flags = record { each = λ b any. back-flag }

any_flag : (o : Option Bool) → IfSome o (λ _. Unit {0})
any_flag None = tt
any_flag (Some b) = tt

pub back-vui : GivesEach vui vui_bits IsVui
back-vui = gives_each (λ v is.
    back-bind _ (back-optional back-aspect is.is_aspect) (back-bind _ (back-optional back-flags (any_flag v.overscan_appropriate_flag))
    (back-bind _ (back-optional back-video_signal is.signal) (back-bind _ (back-optional back-chroma_location is.location)
    (back-bind _ (back-optional back-timing is.clock) (back-bind _ (back-optional back-hrd is.nal) (back-bind _ (back-optional back-hrd is.vcl)
    (back-bind _ (back-where (is_some v.nal_hrd || is_some v.vcl_hrd) is.low_delay back-flags (any_flag v.low_delay_hrd_flag))
    (back-bind _ back-flag (back-last _ (back-optional back-restriction is.limits)))))))))))

-- ---- sequence parameter sets read from their bits

back-constraints : {c : ConstraintFlags} → GivesBack constraint_flags (constraint_bits c) c
back-constraints = back-bind _ back-flag (back-bind _ back-flag (back-bind _ back-flag (back-bind _ back-flag (back-bind _ back-flag (back-last _ back-flag)))))

abbrev size_in : Sps → of_part size
size_in s = record { pic_width_in_mbs_minus1 = s.pic_width_in_mbs_minus1; pic_height_in_map_units_minus1 = s.pic_height_in_map_units_minus1 }

back-se_value : GivesEach se se_word IsSeValue
back-se_value = record { each = λ v is. back-se is.0 is.1 }

back-order : (k : OrderCount) → IsOrderCount k → HasSeValues k → GivesBack order_count (order_bits k) k
back-order (orders.Type0 lsb) is values = back-bind order_count_of (back-ue_to 2 {v = 0} refl (omega arith)) (back-last _ (back-ue_to 12 refl is))
back-order (orders.Type1 zero_flag non_ref top_to_bottom offsets) is values =
    back-bind order_count_of (back-ue_to 2 {v = 1} refl (omega arith)) (back-bind _ back-flag (back-bind _ (back-se values.0.0 values.0.1) (back-bind _ (back-se values.1.0 values.1.1)
    (back-bind _ (back-ue_to 255 refl is) (back-last _ (back-times (length offsets) refl back-se_value values.2))))))
back-order orders.Type2 is values = back-then order_count_of (back-ue_to 2 {v = 2} refl (omega arith)) back-give

both : (a b : Bool) → a ≡ true → b ≡ true → (a && b) ≡ true
both a b first second = grind arith

back-size : (s : Sps) → IsSps s → GivesBack size (size_bits s) (size_in s)
back-size s is =
    let w = s.pic_width_in_mbs_minus1 in
    let h = s.pic_height_in_map_units_minus1 in
    let wide : nat_lt w max_side ≡ true = lt-ltb w max_side (omega (arith, is.width)) in
    let high : nat_lt h max_side ≡ true = lt-ltb h max_side (omega (arith, is.height)) in
    let large : nat_le ((w + 1) * (h + 1)) max_macroblocks ≡ true = le-leb ((w + 1) * (h + 1)) max_macroblocks is.size in
    back-bind _ (back-ue (omega (arith, is.width))) (back-bind _ (back-check _ wide) (back-then _ (back-ue (omega (arith, is.height))) (back-then _ (back-check _ (both _ _ high large)) back-give)))

back-cropping : (width height : ℕ) → width < 2 ^ 17 → height < 2 ^ 17 → GivesEach (cropping width height) cropping_bits (IsCropping width height)
back-cropping width height narrow low = gives_each (λ c is.
    let columns = lt-ltb _ width is.columns in
    let rows = lt-ltb _ height is.rows in
    back-bind _ (back-ue (omega (arith, is.columns, narrow))) (back-bind _ (back-ue (omega (arith, is.columns, narrow))) (back-bind _ (back-check _ columns)
    (back-bind _ (back-ue (omega (arith, is.rows, low))) (back-then _ (back-ue (omega (arith, is.rows, low))) (back-then _ (back-check _ rows) back-give))))))

back-sps : (s : Sps) → IsWritable s → IsSps s → GivesBack sps (sps_bits s) s
back-sps s is within =
    let narrow : 16 * (s.pic_width_in_mbs_minus1 + 1) < 2 ^ 17 = omega (arith, is.width) in
    let low : 16 * (s.pic_height_in_map_units_minus1 + 1) < 2 ^ 17 = omega (arith, is.height) in
    back-bind _ (back-bind _ (back-u 8 is.profile_fits) (back-bind _ back-constraints (back-bind _ (back-u 2 is.reserved) (back-bind _ (back-u 8 is.level_fits)
    (back-last _ (back-ue_to 31 refl is.id))))))
    (back-bind _ (back-check _ is.profile) (back-bind _ (back-check _ is.level) (back-bind _ (back-ue_to 12 refl is.frame_num)
    (back-bind _ (back-order s.order_count is.order is.order_values) (back-bind _ (back-ue_to 16 refl is.references) (back-bind _ back-flag (back-bind _ (back-size s within)
    (back-bind _ (back-flag {b = true}) (back-bind _ back-flag (back-bind _ (back-optional (back-cropping _ _ narrow low) is.crop) (back-last _ (back-optional back-vui is.usability))))))))))))

pub sps_unit_is_read : (s : Sps) (unit : List ℕ) → IsWritable s → IsSps s → IsUnit sps_header (sps_bits s) unit → sps_of (rbsp (drop 1 unit)) ≡ Ok s
sps_unit_is_read s unit is within written =
    let first : start (rbsp (drop 1 unit)) ≡ record { position = 0; ahead = sps_bits s ++ [] } = unit_start sps_header (sps_bits s) unit written ∙ ap (λ t. record { position = 0; ahead = t }) (sym (append-nil (sps_bits s))) in
    ap (λ b. whole sps (sps_id (rbsp (drop 1 unit))) b) first ∙ rw (whole, ((back-sps s is within).back 0 []).read) refl

-- ---- picture parameter sets read from their bits

-- nothing may stand after it
at-pps : (p : Pps) → IsPps p → ReadsAt 0 [] (pps_bits p) pps p
at-pps p is =
    at-bind pps_after (at-of (back-ue_to 255 refl is.id)) (at-bind _ (at-of (back-ue_to 31 refl is.sps_id)) (at-bind _ (at-of (back-flag {b = false}))
    (at-bind _ (at-of back-flag) (at-bind _ (at-of (back-ue {v = 0} (omega arith)))
    (at-bind _ (at-of (back-bind _ (back-ue_to 31 refl is.l0) (back-last _ (back-ue_to 31 refl is.l1))))
    (at-bind _ (at-of (back-bind _ back-flag (back-bind _ (back-u_to 2 2 is.weighted (omega (arith, is.weighted)))
    (back-bind _ (back-se_within (negsuc 25) (pos 25) refl is.qp_low is.qp_high) (back-bind _ (back-se_within (negsuc 25) (pos 25) refl is.qs_low is.qs_high)
    (back-last _ (back-se_within (negsuc 11) (pos 12) refl is.chroma_low is.chroma_high)))))))
    (at-then _ (at-of (back-bind _ back-flag (back-bind _ back-flag (back-last _ back-flag))))
    (at-then (λ extension. check (not extension) faults.PpsExtension >> give p) at-no_more at-give))))))))

pub pps_unit_is_read : (p : Pps) (unit : List ℕ) → IsPps p → IsUnit pps_header (pps_bits p) unit → pps_of (rbsp (drop 1 unit)) ≡ Ok p
pps_unit_is_read p unit is written =
    let first : start (rbsp (drop 1 unit)) ≡ record { position = 0; ahead = pps_bits p ++ [] } = unit_start pps_header (pps_bits p) unit written ∙ ap (λ t. record { position = 0; ahead = t }) (sym (append-nil (pps_bits p))) in
    ap (λ b. whole pps (pps_id (rbsp (drop 1 unit))) b) first ∙ rw (whole, (at-pps p is).read) refl

-- ---- slice headers read from their bits: up to the picture parameter set's id

-- the value that must be there
abbrev found_in : {A : Type 0} → Option A → Fault → Read A
found_in (Some a) f = give a
found_in None f = refuse f

back-found : {A : Type 0} {o : Option A} {x : A} (f : Fault) → o ≡ Some x → GivesBack (found_in o f) [] x
back-found f is = rw is back-give

type_found : (t : SliceType) → (slice_type_of (slice_type_number t) ≡ Some t) × (slice_type_number t ≤ 9)
type_found t = grind arith

idr_passes : (h : Header) (o : Option ℕ) → IfSome o (IsIdr h) → not (is_some o && (h.nal_ref_idc == 0 || is_p_type h.slice_type)) ≡ true
idr_passes h o is = grind (arith, nat_tests)

-- ---- order counts

back-se_where : (coded : Bool) {v : ℤ} → IsSeWhere coded v → GivesBack (optional_se coded) (se_where coded v) v
back-se_where true is = back-se is.0 is.1
back-se_where false is = rw is back-give

back-coded_order : (k : OrderCount) (present : Bool) (o : CodedOrder) → IsOrderOf k present o → GivesBack (coded_order k present) (coded_order_bits k present o) o
back-coded_order (orders.Type0 log2) present (Type0 lsb bottom) is = back-bind _ (back-u (log2 + 4) is.0) (back-last (λ b. Type0 lsb b) (back-se_where present is.1))
back-coded_order (orders.Type1 zero_flag non_ref top_to_bottom offsets) present (Type1 delta_0 delta_1) is =
    back-bind _ (back-se_where (not zero_flag) is.0) (back-last (λ d. Type1 delta_0 d) (back-se_where (not zero_flag && present) is.1))
back-coded_order orders.Type2 present Type2 is = back-give
back-coded_order _ present _ is = absurd is

-- ---- what tells the slice's picture from others

idr_frame_num : (h : Header) (o : Option ℕ) → IfSome o (IsIdr h) → not (is_some o && not (h.frame_num == 0)) ≡ true
idr_frame_num h o is = grind (arith, nat_tests)

back-id : (h : Header) → GivesEach (ue_to 65535) ue_word (IsIdr h)
back-id h = record { each = λ id is. back-ue_to 65535 refl is.id }

back-redundant : (present : Bool) {o : Option ℕ} → o ≡ (if present then Some 0 else None) → GivesBack (redundant_pic_cnt present) (where_bits ue_word o) o
back-redundant true is = rw is (back-last (λ v. Some v) (back-then (λ v. check (v == 0) faults.RedundantSlice >> give v) (back-ue_to 127 {v = 0} refl (omega arith)) back-give))
back-redundant false is = rw is back-give

-- ---- lists that a code ends

-- an item behind its code
record IsCoded {A : Type 0} (code : Read ℕ) (stop : ℕ) (item : ℕ → Read A) (word : List Bool) (x : A) : Type 0 where
  number : ℕ
  first : List Bool
  second : List Bool
  is_word : word ≡ first ++ second
  goes_on : (number == stop) ≡ false
  code_back : GivesBack code first number
  item_back : GivesBack (item number) second x

-- whose code is one of those up to `most`
item_coded : {A : Type 0} (most stop number : ℕ) (item : ℕ → Read A) {word second : List Bool} {x : A} →
    word ≡ ue_word number ++ second → (number == stop) ≡ false → (nat_le number most && nat_le most 6) ≡ true → GivesBack (item number) second x → IsCoded (ue_to most) stop item word x
item_coded most stop number item is other few back =
    record { number = number; first = ue_word number; second = _; is_word = is; goes_on = other; code_back = back-ue_to most (grind (arith, nat_tests)) (grind (arith, nat_tests)); item_back = back }

back-up_to : {A : Type 0} {code : Read ℕ} {item : ℕ → Read A} {word : A → List Bool} {P : A → Type 0} {last : List Bool} (stop : ℕ) (fault : Fault) (room : ℕ) (xs : List A) →
    ((x : A) → P x → IsCoded code stop item (word x) x) → GivesBack code last stop → (stop == stop) ≡ true → length xs ≤ room → Each P xs → GivesBack (up_to code stop item fault room) (flat_map word xs ++ last) xs
back-up_to stop fault zero [] coded ends same few all = back-then _ ends (back-then _ (back-check fault same) back-give)
back-up_to stop fault (suc room) [] coded ends same few all = back-then _ ends (rw same back-give)
back-up_to stop fault zero (x ∷ xs) coded ends same few all = absurd (omega (arith, few))
back-up_to {A} {code} {item} {word} {P} {last} stop fault (suc room) (x ∷ xs) coded ends same few all =
    let c = coded x all.0 in
    let others = back-up_to stop fault room xs coded ends same (omega (arith, few)) all.1 in
    let sum : (c.first ++ (c.second ++ (flat_map word xs ++ last))) ≡ flat_map word (x ∷ xs) ++ last = rw (c.is_word) (simp append_assoc) in
    with_word sum (back-bind _ c.code_back (rw (c.goes_on) (back-bind _ c.item_back (back-last _ others))))

-- ---- what RefPicList0 is made by

modification_coded : (n : ℕ) → n ≤ 65536 → (m : Modification) → IsModification n m → IsCoded (ue_to 3) 3 (modification (n - 1)) (modification_bits m) m
modification_coded n few (Subtract v) is = item_coded 3 3 0 _ refl refl refl (back-last (λ k. Subtract k) (back-ue_to (n - 1) (lt-ltb (n - 1) 4294967295 (omega arith)) (omega (arith, is))))
modification_coded n few (Add v) is = item_coded 3 3 1 _ refl refl refl (back-last (λ k. Add k) (back-ue_to (n - 1) (lt-ltb (n - 1) 4294967295 (omega arith)) (omega (arith, is))))
modification_coded n few (LongTerm v) is = item_coded 3 3 2 _ refl refl refl (back-last (λ k. LongTerm k) (back-ue is))

back-modifications : (n room : ℕ) → n ≤ 65536 → GivesEach (modifications n room) modifications_bits (IsModificationList n room)
back-modifications n room few = gives_each (λ list is.
    back-up_to 3 faults.BadRefList room list (modification_coded n few) (back-ue_to 3 {v = 3} refl (omega arith)) refl is.0 is.1)

back-override : (pps : Pps) {o : Option ℕ} → IsOverride pps o → GivesBack (active_override pps) (optional_bits ue_word o) o
back-override pps {o = Some n} is = back-bind _ (back-flag {b = true}) (back-last (λ k. Some k) (back-ue_to 15 refl (omega (arith, is))))
back-override pps {o = None} is =
    back-then _ (back-flag {b = false}) (back-then _ (back-check faults.OutOfRange (lt-ltb pps.num_ref_idx_l0_default_active_minus1 16 is)) back-give)

abbrev list_of : Option ℕ → ℕ → Option (List Modification) → Option PredWeightTable → ListPart
list_of override count list weights = record { active_override = override; num_ref_idx_active = count; modifications = list; pred_weight_table = weights }

abbrev list_in : Header → ListPart
list_in h = list_of h.active_override h.num_ref_idx_active h.modifications h.pred_weight_table

pub max_frame_num_few : (sps : Sps) → IsSps sps → max_frame_num sps ≤ 65536
max_frame_num_few sps is =
    let some : 0 < 2 = omega arith in
    let few : sps.log2_max_frame_num_minus4 + 4 ≤ 16 = omega (arith, is.frame_num) in
    pow-le-pow_right some few

back-list : (p : Bool) (sps : Sps) (pps : Pps) (h : Header) → IsSps sps → IsListWhere p sps pps h → GivesBack (list_part p pps sps) (list_bits_where p h) (list_in h)
back-list true sps pps h within is =
    let room = num_ref_idx_active pps h.active_override in
    let same : list_of h.active_override room h.modifications h.pred_weight_table ≡ list_in h = ap (λ k. list_of h.active_override k h.modifications h.pred_weight_table) (sym is.count) in
    let weights : IfSome h.pred_weight_table (IsPredWeightTable room) = subst (λ k. IfSome h.pred_weight_table (IsPredWeightTable k)) is.count is.weights in
    with_value same
    (back-bind _ (back-override pps is.override) (back-bind _ (back-optional (back-modifications (max_frame_num sps) room (max_frame_num_few sps within)) is.list)
    (back-last _ (back-where pps.weighted_pred_flag is.is_weighted (back-table room) weights))))
back-list false sps pps h within is =
    let same : list_in h ≡ list_of None 0 None None = rw (is.override, is.count, is.list, is.weights) refl in
    rw (← same) back-give

-- ---- marking

operation_coded : (o : Operation) → IsOperation o → IsCoded (ue_to 6) 0 operation (operation_bits o) o
operation_coded (UnmarkShortTerm n) is = item_coded 6 0 1 _ refl refl refl (back-last (λ k. UnmarkShortTerm k) (back-ue is))
operation_coded (UnmarkLongTerm n) is = item_coded 6 0 2 _ refl refl refl (back-last (λ k. UnmarkLongTerm k) (back-ue is))
operation_coded (AssignLongTerm n index) is = item_coded 6 0 3 _ refl refl refl (back-bind _ (back-ue is.0) (back-last (λ k. AssignLongTerm n k) (back-ue is.1)))
operation_coded (MaxLongTermFrameIdx n) is = item_coded 6 0 4 _ refl refl refl (back-last (λ k. MaxLongTermFrameIdx k) (back-ue is))
operation_coded UnmarkAll is = item_coded 6 0 5 _ (sym (append-nil (ue_word 5))) refl refl back-give
operation_coded (CurrentToLongTerm n) is = item_coded 6 0 6 _ refl refl refl (back-last (λ k. CurrentToLongTerm k) (back-ue is))

back-marking_of : (idr : Bool) (m : Marking) → IsMarkingOf idr m → GivesBack (marking idr) (marking_bits m) m
back-marking_of true (Idr a b) is = back-bind _ back-flag (back-last (λ f. Idr a f) back-flag)
back-marking_of false SlidingWindow is = back-then _ (back-flag {b = false}) back-give
back-marking_of false (Adaptive list) is =
    back-bind _ (back-flag {b = true}) (back-last (λ l. Adaptive l)
    (back-up_to 0 faults.BadMarking most_operations list operation_coded (back-ue_to 6 {v = 0} refl (omega arith)) refl is.0 is.1))
back-marking_of _ _ is = absurd is

back-marking : (idr : Bool) → GivesEach (marking idr) marking_bits (IsMarkingOf idr)
back-marking idr = record { each = back-marking_of idr }

-- ---- the quantiser and the deblocking fields

abbrev deblocked : (filtered : FilteredEdges) (alpha beta : ℤ) → Deblocking
deblocked filtered alpha beta = record { disable_deblocking_filter_idc = filtered; slice_alpha_c0_offset_div2 = alpha; slice_beta_offset_div2 = beta }

back-offset : {v : ℤ} → IsOffset v → GivesBack (se_within (negsuc 5) (pos 6)) (se_word v) v
back-offset is = back-se_within (negsuc 5) (pos 6) refl is.0 is.1

-- the offsets where edges are filtered
back-offsets : (filtered : FilteredEdges) {alpha beta : ℤ} → IsOffset alpha → IsOffset beta →
    GivesBack (se_within (negsuc 5) (pos 6) >>= λ a. se_within (negsuc 5) (pos 6) >>= λ b. give (deblocked filtered a b)) (se_word alpha ++ se_word beta) (deblocked filtered alpha beta)
back-offsets filtered is_alpha is_beta = back-bind _ (back-offset is_alpha) (back-last _ (back-offset is_beta))

back-deblocking_of : (filtered : FilteredEdges) (alpha beta : ℤ) → IsDeblockingOf filtered alpha beta → GivesBack deblocking (deblocking_bits_of filtered alpha beta) (deblocked filtered alpha beta)
back-deblocking_of edges.All alpha beta is = back-bind _ (back-ue_to 2 {v = 0} refl (omega arith)) (back-offsets edges.All is.0 is.1)
back-deblocking_of edges.WithinSlice alpha beta is = back-bind _ (back-ue_to 2 {v = 2} refl (omega arith)) (back-offsets edges.WithinSlice is.0 is.1)
back-deblocking_of edges.NoEdges alpha beta is = rw (is.0, is.1) (back-then _ (back-ue_to 2 {v = 1} refl (omega arith)) back-give)

back-deblocking : GivesEach deblocking deblocking_bits IsDeblocking
back-deblocking = record { each = λ d is. back-deblocking_of d.disable_deblocking_filter_idc d.slice_alpha_c0_offset_div2 d.slice_beta_offset_div2 is }

pub small_delta : (pps : Pps) (delta : ℤ) → IsPps pps → IsQp (slice_qp pps delta) → IsSeValue delta
small_delta pps delta is qp = (omega (arith, ints, is.qp_low, is.qp_high, qp.0, qp.1), omega (arith, ints, is.qp_low, is.qp_high, qp.0, qp.1))

qp_passes : (v : ℤ) → IsQp v → is_qp v ≡ true
qp_passes v is = grind (arith, ints, is.0, is.1)

-- ---- the header

-- the place after the header is the value of its last field
at-here : {A : Type 0} {position total : ℕ} {rest : List Bool} (f : ℕ → A) → position ≡ total → ReadsAt position rest [] (position_here >>= λ p. give (f p)) (f total)
at-here {A} {position} {total} {rest} f is =
    record { read = ap (λ k. Ok (f k, record { position = position; ahead = rest })) is ∙ ap (λ k. Ok (f total, record { position = k; ahead = rest })) (omega arith) }

-- ---- in a unit

-- nal_ref_idc and whether the type is 5, in the first byte
first_byte : (ref : ℕ) (idr : Bool) → ref < 4 → ((32 * ref + (if idr then 5 else 1)) / 32 % 4 ≡ ref) × (((32 * ref + (if idr then 5 else 1)) % 32 == 5) ≡ idr)
first_byte ref idr few = grind (arith, nat_tests)

at-slice_header : (rest : List Bool) (sets : Sets) (sps : Sps) (pps : Pps) (h : Header) → AreInForce sets sps pps → IsHeader sps pps h →
    ReadsAt 0 rest (header_bits sps pps h) (slice_header h.nal_ref_idc (is_idr h) sets) (placed_header sps pps h)
at-slice_header rest sets sps pps h force is =
    let a = numbers_bits sps pps h in
    let b = list_bits_where (is_p h) h in
    let m = where_bits marking_bits h.marking in
    let f = filtering_bits h in
    let none = length {A = Bool} [] in
    let of_pps : sets.pps h.pic_parameter_set_id ≡ Some pps = ap sets.pps is.pps_id ∙ force.has_pps in
    let of_sps : sets.sps pps.seq_parameter_set_id ≡ Some sps = ap sets.sps is.sps_id ∙ force.has_sps in
    let place : 0 + length (front_bits h) + none + none + none + length a + length b + length m + length f ≡ length (header_bits sps pps h) =
    omega (arith, length-append (front_bits h) (a ++ (b ++ (m ++ f))), length-append a (b ++ (m ++ f)), length-append b (m ++ f), length-append m f) in
    let qp = small_delta pps h.slice_qp_delta is.pps_within is.qp in
    let type_known = type_found h.slice_type in
    at-bind _ (at-of (back-bind _ (back-ue (omega (arith, is.first, is.sps_within.size))) (back-bind _ (back-ue_to 9 refl type_known.1) (back-bind _ (back-found faults.SliceType type_known.0)
    (back-bind _ (back-check _ (idr_passes h h.idr_pic_id is.idr)) (back-last _ (back-ue_to 255 refl (omega (arith, is.pps_id, is.pps_within.id)))))))))
    (at-bind _ (at-of (back-found faults.NoParameterSet of_pps)) (at-bind _ (at-of (back-found faults.NoParameterSet of_sps))
    (at-bind _ (at-of (back-check _ (lt-ltb h.first_mb_in_slice (size_in_mbs sps) is.first)))
    (at-bind _ (at-of (back-bind _ (back-u (sps.log2_max_frame_num_minus4 + 4) is.frame_num) (back-bind _ (back-check _ (idr_frame_num h h.idr_pic_id is.idr))
    (back-bind _ (back-where (is_idr h) refl (back-id h) is.idr)
    (back-bind _ (back-coded_order sps.order_count pps.bottom_field_pic_order_in_frame_present_flag h.order is.order)
    (back-last _ (back-redundant pps.redundant_pic_cnt_present_flag is.primary)))))))
    (at-bind _ (at-of (back-list (is_p h) sps pps h is.sps_within is.list)) (at-bind _ (at-of (back-where (is_reference h) is.is_marked (back-marking (is_idr h)) is.marked))
    (at-then _ (at-of (back-bind _ (back-se qp.0 qp.1) (back-bind _ (back-check _ (qp_passes (slice_qp pps h.slice_qp_delta) is.qp))
    (back-last _ (back-where pps.deblocking_filter_control_present_flag is.is_filtered back-deblocking is.filtered)))))
    (at-here (λ k. record h { position = k }) place))))))))

pub at-header : (rest : List Bool) (sets : Sets) (sps : Sps) (pps : Pps) (h : Header) → AreInForce sets sps pps → IsHeader sps pps h →
    ReadsAt 0 rest (header_bits sps pps h) (header_of (slice_unit_header h) sets) (placed_header sps pps h)
at-header rest sets sps pps h force is =
    let parts = first_byte h.nal_ref_idc (is_idr h) is.reference in
    let bits = header_bits sps pps h in
    let y = placed_header sps pps h in
    subst (λ r. ReadsAt 0 rest bits (slice_header r (slice_unit_header h % 32 == 5) sets) y) (sym parts.0)
    (subst (λ b. ReadsAt 0 rest bits (slice_header h.nal_ref_idc b sets) y) (sym parts.1) (at-slice_header rest sets sps pps h force is))

abbrev value_in : {A : Type 0} → Result (A × Bits) Fault → Result A Fault
value_in (Ok r) = Ok r.0
value_in (Err f) = Err f

pub header_unit_is_read : (sets : Sets) (sps : Sps) (pps : Pps) (h : Header) (others : List Bool) (unit : List ℕ) → AreInForce sets sps pps → IsHeader sps pps h →
    IsUnit (slice_unit_header h) (header_bits sps pps h ++ others) unit → header_in_rbsp (slice_unit_header h) sets (rbsp (drop 1 unit)) ≡ Ok (placed_header sps pps h)
header_unit_is_read sets sps pps h others unit force is written =
    let read = at-header others sets sps pps h force is in
    ap (λ b. value_in (header_of (slice_unit_header h) sets b)) (unit_start (slice_unit_header h) (header_bits sps pps h ++ others) unit written) ∙ ap value_in (read.read)

-- ---- the numbers of a header that can be written are within their codes

modification_small : (n : ℕ) → n ≤ 65536 → (m : Modification) → IsModification n m → IsModification 65536 m
modification_small n few m is = grind arith

each_small : (n : ℕ) → n ≤ 65536 → (list : List Modification) → Each (IsModification n) list → Each (IsModification 65536) list
each_small n few [] all = tt
each_small n few (m ∷ list) all = (modification_small n few m all.0, each_small n few list all.1)

some_small : (n room : ℕ) → n ≤ 65536 → (o : Option (List Modification)) → IfSome o (IsModificationList n room) → IfSome o (Each (IsModification 65536))
some_small n room few None is = tt
some_small n room few (Some list) is = each_small n few list is.1

list_small : (p : Bool) (sps : Sps) (pps : Pps) (h : Header) → IsSps sps → IsListWhere p sps pps h → IfSome h.modifications (Each (IsModification 65536))
list_small true sps pps h within is = some_small (max_frame_num sps) (num_ref_idx_active pps h.active_override) (max_frame_num_few sps within) h.modifications is.list
list_small false sps pps h within is = subst (λ o. IfSome o (Each (IsModification 65536))) (sym is.list) tt

weights_where : (p : Bool) (sps : Sps) (pps : Pps) (h : Header) → IsListWhere p sps pps h → IfSome h.pred_weight_table (IsPredWeightTable h.num_ref_idx_active)
weights_where p sps pps h is = grind arith

pub weights_small : (sps : Sps) (pps : Pps) (h : Header) → IsHeader sps pps h → IfSome h.pred_weight_table (IsPredWeightTable h.num_ref_idx_active)
weights_small sps pps h is = weights_where (is_p h) sps pps h is.list

pub modifications_small : (sps : Sps) (pps : Pps) (h : Header) → IsHeader sps pps h → IfSome h.modifications (Each (IsModification 65536))
modifications_small sps pps h is = list_small (is_p h) sps pps h is.sps_within is.list
