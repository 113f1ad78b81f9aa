-- Parameter sets that are accepted keep to their ranges, and so do the sets in force.
pub mod Common
unfoldable pub use Common.*
use Rattle.avc_params.specs.declared.sps.OrderCount.TheVariants as orders
use Rattle.avc_types.specs.declared.fault.Fault.TheVariants as faults

-- ---- what holds of what an optional part gives, and of the answer of a whole unit

pub gives-optional : {A : Type 0} (P : A → Type 0) (part : Read A) → Gives P part → Gives (λ o. IfSome o P) (optional part)
gives-optional P part g = gives-bind (λ _. Unit {0}) (λ o. IfSome o P) flag _ (gives-any flag) (λ set _. gives-where_set P set part g)

whole-by : {A : Type 0} (part : Read A) (id : Option ℕ) (r : Result (A × Bits) Fault) (b : Bits) (x : A) → part b ≡ r → whole part id b ≡ Ok x
    → (next : Bits) × (part b ≡ Ok (x, next))
whole-by part id (Ok r) b x e f = let same : r.0 ≡ x = let g = rw (e, whole) at f in cc in (r.1, rw same at e)
whole-by part id (Err fault) b x e f = let wrong = rw (e, whole) at f in cc

-- an accepted set was read
pub whole-ok : {A : Type 0} (part : Read A) (id : Option ℕ) (b : Bits) (x : A) → whole part id b ≡ Ok x → (next : Bits) × (part b ≡ Ok (x, next))
whole-ok part id b x f = whole-by part id (part b) b x refl f

-- a refused set has the id that was read
pub whole-err : {A : Type 0} (part : Read A) (id : Option ℕ) (b : Bits) (why : SetFault) → whole part id b ≡ Err why → why.id ≡ id
whole-err part id b why f = grind arith

-- of which a part is made; what it gives has to follow from the parts' ranges
pub ruleset parts_give = (gives-check, gives-bind, gives-give, gives-ue_to, gives-u_to, gives-se_within, gives-times, gives-any)

-- ---- an accepted picture parameter set keeps to the ranges of its fields, and has the id that was read

record IsCounts (c : DefaultCounts) : Type 0 where
  l0 : c.num_ref_idx_l0_default_active_minus1 ≤ 31
  l1 : c.num_ref_idx_l1_default_active_minus1 ≤ 31

gives-default_counts : Gives IsCounts default_counts
gives-default_counts = search (parts_give, rules) depth 16

record IsQuantisation (q : Quantisation) : Type 0 where
  weighted : q.weighted_bipred_idc ≤ 2
  qp : IsFrom (negsuc 25) (pos 25) q.pic_init_qp_minus26
  qs : IsFrom (negsuc 25) (pos 25) q.pic_init_qs_minus26
  chroma : IsFrom (negsuc 11) (pos 12) q.chroma_qp_index_offset

gives-quantisation : Gives IsQuantisation quantisation
gives-quantisation =
    gives-then IsQuantisation flag _ (λ explicit.
    gives-bind (λ v. v ≤ 2) IsQuantisation (u_to 2 2) _ (gives-u_to 2 2) (λ weighted is_weighted.
    gives-bind (IsFrom (negsuc 25) (pos 25)) IsQuantisation (se_within (negsuc 25) (pos 25)) _ (gives-se_within _ _) (λ qp is_qp.
    gives-bind (IsFrom (negsuc 25) (pos 25)) IsQuantisation (se_within (negsuc 25) (pos 25)) _ (gives-se_within _ _) (λ qs is_qs.
    gives-bind (IsFrom (negsuc 11) (pos 12)) IsQuantisation (se_within (negsuc 11) (pos 12)) _ (gives-se_within _ _) (λ chroma is_chroma.
    gives-give IsQuantisation _ (record { weighted = is_weighted; qp = is_qp; qs = is_qs; chroma = is_chroma }))))))

record IsAfter (id : ℕ) (p : Pps) : Type 0 where
  within : id ≤ 255 → IsPps p
  same : p.pic_parameter_set_id ≡ id

gives-pps_after : (id : ℕ) → Gives (IsAfter id) (pps_after id)
gives-pps_after id =
    gives-bind (λ v. v ≤ 31) (IsAfter id) (ue_to 31) _ (gives-ue_to 31) (λ sps_id most_sps_id.
    gives-bind (λ _. Unit {0}) (IsAfter id) flag _ (gives-any flag) (λ entropy _.
    gives-check (IsAfter id) (not entropy) _ _ (λ cavlc.
    gives-bind (λ _. Unit {0}) (IsAfter id) flag _ (gives-any flag) (λ bottom _.
    gives-bind (λ _. Unit {0}) (IsAfter id) ue _ (gives-any ue) (λ groups _.
    gives-check (IsAfter id) (groups == 0) _ _ (λ one_group.
    gives-bind IsCounts (IsAfter id) default_counts _ gives-default_counts (λ counts is_counts.
    gives-bind IsQuantisation (IsAfter id) quantisation _ gives-quantisation (λ numbers is_numbers.
    gives-bind (λ _. Unit {0}) (IsAfter id) switches _ (gives-any switches) (λ flags _.
    λ b. gives-check (IsAfter id) (not (more_data b)) _ _ (λ last.
    gives-give (IsAfter id) _ (record {
      within = λ most. record {
        id = most;
        sps_id = most_sps_id;
        l0 = is_counts.l0;
        l1 = is_counts.l1;
        weighted = is_numbers.weighted;
        qp_low = is_numbers.qp.least;
        qp_high = is_numbers.qp.most;
        qs_low = is_numbers.qs.least;
        qs_high = is_numbers.qs.most;
        chroma_low = is_numbers.chroma.least;
        chroma_high = is_numbers.chroma.most;
      };
      same = refl;
    })) b)))))))))

pub record IsAcceptedPps (rbsp : List ℕ) (p : Pps) : Type 0 where
  pub within : IsPps p
  pub id : pps_id rbsp ≡ Some p.pic_parameter_set_id

pub pps_accepted : (rbsp : List ℕ) (p : Pps) → pps_of rbsp ≡ Ok p → IsAcceptedPps rbsp p
pps_accepted rbsp p e =
    let read = whole-ok pps (pps_id rbsp) (start rbsp) p e in
    let between = bind-ok (ue_to 255) pps_after (start rbsp) read.0 p read.1 in
    let kept = gives-pps_after between.0 between.1 read.0 p between.3 in
    record {
      within = kept.within (gives-ue_to 255 (start rbsp) between.1 between.0 between.2);
      id = rw (between.2, read_value) (ap Some (sym kept.same));
    }

-- ---- an accepted sequence parameter set keeps to the ranges of its fields, and has the id that was read

pub record IsSize (s : Size) : Type 0 where
  pub width : s.pic_width_in_mbs_minus1 + 1 ≤ max_side
  pub height : s.pic_height_in_map_units_minus1 + 1 ≤ max_side
  all : (s.pic_width_in_mbs_minus1 + 1) * (s.pic_height_in_map_units_minus1 + 1) ≤ max_macroblocks

pub gives-size : Gives IsSize size
gives-size =
    gives-bind (λ _. Unit {0}) IsSize ue _ (gives-any ue) (λ w _.
    gives-check IsSize (nat_lt w max_side) _ _ (λ wide.
    gives-bind (λ _. Unit {0}) IsSize ue _ (gives-any ue) (λ h _.
    gives-check IsSize (nat_lt h max_side && nat_le ((w + 1) * (h + 1)) max_macroblocks) _ _ (λ high.
    gives-give IsSize (record { pic_width_in_mbs_minus1 = w; pic_height_in_map_units_minus1 = h }) (record {
      width = grind (arith, nat_tests);
      height = grind (arith, nat_tests);
      all = grind (arith, nat_tests);
    })))))

gives-cropping : (width height : ℕ) → Gives (IsCropping width height) (cropping width height)
gives-cropping width height =
    gives-bind (λ _. Unit {0}) (IsCropping width height) ue _ (gives-any ue) (λ left _.
    gives-bind (λ _. Unit {0}) (IsCropping width height) ue _ (gives-any ue) (λ right _.
    gives-check (IsCropping width height) (nat_lt (2 * (left + right)) width) _ _ (λ across.
    gives-bind (λ _. Unit {0}) (IsCropping width height) ue _ (gives-any ue) (λ top _.
    gives-bind (λ _. Unit {0}) (IsCropping width height) ue _ (gives-any ue) (λ bottom _.
    gives-check (IsCropping width height) (nat_lt (2 * (top + bottom)) height) _ _ (λ down.
    gives-give (IsCropping width height) (record { frame_crop_left_offset = left; frame_crop_right_offset = right; frame_crop_top_offset = top; frame_crop_bottom_offset = bottom }) (record {
      columns = grind (arith, nat_tests);
      rows = grind (arith, nat_tests);
    })))))))

gives-lsb : Gives IsOrderCount lsb
gives-lsb = gives-bind (λ v. v ≤ 12) IsOrderCount (ue_to 12) _ (gives-ue_to 12) (λ v most. gives-give IsOrderCount (orders.Type0 v) most)

gives-cycle : Gives IsOrderCount cycle
gives-cycle =
    gives-bind (λ _. Unit {0}) IsOrderCount flag _ (gives-any flag) (λ zero_flag _.
    gives-bind (λ _. Unit {0}) IsOrderCount se _ (gives-any se) (λ non_ref _.
    gives-bind (λ _. Unit {0}) IsOrderCount se _ (gives-any se) (λ bottom _.
    gives-bind (λ v. v ≤ 255) IsOrderCount (ue_to 255) _ (gives-ue_to 255) (λ count most.
    gives-bind (λ xs. length xs ≡ count) IsOrderCount (times count se) _ (gives-times count se) (λ offsets long.
    gives-give IsOrderCount (orders.Type1 zero_flag non_ref bottom offsets) (omega arith))))))

gives-order_count_of : (first second : Bool) → Gives IsOrderCount (elim first [ true ↦ lsb | false ↦ elim second [ true ↦ cycle | false ↦ give orders.Type2 ] ])
gives-order_count_of true second = gives-lsb
gives-order_count_of false true = gives-cycle
gives-order_count_of false false = gives-give IsOrderCount orders.Type2 tt

gives-order_count : Gives IsOrderCount order_count
gives-order_count = gives-bind (λ _. Unit {0}) IsOrderCount (ue_to 2) _ (gives-any (ue_to 2)) (λ kind _. gives-order_count_of _ _)

some_of : {A : Type 0} (o : Option A) → is_some o ≡ true → IsSome o
some_of (Some x) e = refl
some_of None e = cc

record IsAfterIdentity (head : Identity) (s : Sps) : Type 0 where
  within : head.seq_parameter_set_id ≤ 31 → IsSps s
  same : s.seq_parameter_set_id ≡ head.seq_parameter_set_id

gives-sps_after : (head : Identity) → Gives (IsAfterIdentity head) (sps_after head)
gives-sps_after head =
    gives-check (IsAfterIdentity head) (head.profile_idc == 66 || head.profile_idc == 77 || head.profile_idc == 88) _ _ (λ profile.
    gives-check (IsAfterIdentity head) (is_some (max_dpb_mbs head.level_idc head.constraint_flags.constraint_set3_flag)) _ _ (λ level.
    gives-bind (λ v. v ≤ 12) (IsAfterIdentity head) (ue_to 12) _ (gives-ue_to 12) (λ log most_log.
    gives-bind IsOrderCount (IsAfterIdentity head) order_count _ gives-order_count (λ order is_order.
    gives-bind (λ v. v ≤ 16) (IsAfterIdentity head) (ue_to 16) _ (gives-ue_to 16) (λ references most_references.
    gives-bind (λ _. Unit {0}) (IsAfterIdentity head) flag _ (gives-any flag) (λ gaps _.
    gives-bind IsSize (IsAfterIdentity head) size _ gives-size (λ mbs is_size.
    gives-bind (λ _. Unit {0}) (IsAfterIdentity head) flag _ (gives-any flag) (λ frames _.
    gives-check (IsAfterIdentity head) frames _ _ (λ progressive.
    gives-bind (λ _. Unit {0}) (IsAfterIdentity head) flag _ (gives-any flag) (λ direct _.
    gives-bind (λ c. IfSome c (IsCropping (16 * (mbs.pic_width_in_mbs_minus1 + 1)) (16 * (mbs.pic_height_in_map_units_minus1 + 1)))) (IsAfterIdentity head) (optional (cropping (16 * (mbs.pic_width_in_mbs_minus1 + 1)) (16 * (mbs.pic_height_in_map_units_minus1 + 1)))) _
    (gives-optional (IsCropping (16 * (mbs.pic_width_in_mbs_minus1 + 1)) (16 * (mbs.pic_height_in_map_units_minus1 + 1))) (cropping (16 * (mbs.pic_width_in_mbs_minus1 + 1)) (16 * (mbs.pic_height_in_map_units_minus1 + 1))) (gives-cropping _ _)) (λ crop is_crop.
    gives-bind (λ _. Unit {0}) (IsAfterIdentity head) (optional vui) _ (gives-any (optional vui)) (λ usability _.
    gives-give (IsAfterIdentity head) _ (record {
      within = λ least. record {
        level = some_of (max_dpb_mbs head.level_idc head.constraint_flags.constraint_set3_flag) level;
        id = least;
        frame_num = most_log;
        order = is_order;
        references = most_references;
        width = is_size.width;
        height = is_size.height;
        size = is_size.all;
        crop = is_crop;
      };
      same = refl;
    })))))))))))))

gives-identity : Gives (λ head. head.seq_parameter_set_id ≤ 31) identity
gives-identity =
    gives-bind (λ _. Unit {0}) (λ head. head.seq_parameter_set_id ≤ 31) (u 8) _ (gives-any (u 8)) (λ profile _.
    gives-bind (λ _. Unit {0}) (λ head. head.seq_parameter_set_id ≤ 31) constraint_flags _ (gives-any constraint_flags) (λ flags _.
    gives-bind (λ _. Unit {0}) (λ head. head.seq_parameter_set_id ≤ 31) (u 2) _ (gives-any (u 2)) (λ reserved _.
    gives-bind (λ _. Unit {0}) (λ head. head.seq_parameter_set_id ≤ 31) (u 8) _ (gives-any (u 8)) (λ level _.
    gives-bind (λ id. id ≤ 31) (λ head. head.seq_parameter_set_id ≤ 31) (ue_to 31) _ (gives-ue_to 31) (λ id least.
    gives-give (λ head. head.seq_parameter_set_id ≤ 31) _ least)))))

pub record IsAcceptedSps (rbsp : List ℕ) (s : Sps) : Type 0 where
  pub within : IsSps s
  pub id : sps_id rbsp ≡ Some s.seq_parameter_set_id

pub sps_accepted : (rbsp : List ℕ) (s : Sps) → sps_of rbsp ≡ Ok s → IsAcceptedSps rbsp s
sps_accepted rbsp s e =
    let read = whole-ok sps (sps_id rbsp) (start rbsp) s e in
    let between = bind-ok identity sps_after (start rbsp) read.0 s read.1 in
    let kept = gives-sps_after between.0 between.1 read.0 s between.3 in
    record {
      within = kept.within (gives-identity (start rbsp) between.1 between.0 between.2);
      id = rw (between.2, read_value) (ap Some (sym kept.same));
    }

-- ---- the sets in force: after one unit more, and what each keeps to

last_more : {A : Type 0} (xs : List A) (x : A) → last (xs ++ x ∷ []) ≡ Some x
last_more [] x = refl
last_more (y ∷ []) x = refl
last_more (y ∷ z ∷ xs) x = last_more (z ∷ xs) x

-- what f makes of the last one that is taken, where one more may be
last_taken : {A B : Type 0} (f : Option A → B) (p : A → Bool) (xs : List A) (x : A)
    → f (last (filter p (xs ++ x ∷ []))) ≡ (if p x then f (Some x) else f (last (filter p xs)))
last_taken f p xs x = grind (arith, filter-append, last_more, append-nil)

-- What a table of one kind keeps, after one unit more that changes what is stored as the unit says.
stored_more : {A : Type 0} (record_of : Option SetUnit → Option A) (test : ℕ → SetUnit → Bool) (units : List SetUnit) (unit : SetUnit) (old new : List (Option A))
    → ((k : ℕ) → stored old k ≡ record_of (last (filter (test k) units))) → ((k : ℕ) → stored new k ≡ (if test k unit then record_of (Some unit) else stored old k))
    → (k : ℕ) → stored new k ≡ record_of (last (filter (test k) (units ++ unit ∷ [])))
stored_more record_of test units unit old new keeps put k = rw (last_taken record_of (test k) units unit, ← keeps k) (put k)

chosen : {A : Type 0} (k : ℕ) (id read : Option ℕ) (x y kept : Option A) → id ≡ read → x ≡ y → (if is_id k id then x else kept) ≡ (if is_id k read then y else kept)
chosen k id read x y kept same_id same = rw (same_id, same) refl

keeps_sps : (units more : List SetUnit) (seen rbsp : List ℕ) (old new : List (Option Sps)) (other : List (Option Pps)) → Keeps units old other → seen ≡ rbsp → more ≡ units ++ OfSps seen ∷ []
    → ((k : ℕ) → stored new k ≡ (if is_id k (sps_id rbsp) then accepted (sps_of rbsp) else stored old k)) → Keeps more new other
keeps_sps units more seen rbsp old new other keeps same is put = rw (is, same) (record {
  sequence = stored_more sps_record is_sps units (OfSps rbsp) old new keeps.sequence put;
  picture = stored_more pps_record is_pps units (OfSps rbsp) other other keeps.picture (λ k. refl);
})

pub keeps_accepted_sps : (units more : List SetUnit) (seen rbsp : List ℕ) (old new : List (Option Sps)) (other : List (Option Pps)) (set : Sps) → Keeps units old other → seen ≡ rbsp → more ≡ units ++ OfSps seen ∷ []
    → sps_of rbsp ≡ Ok set → ((k : ℕ) → stored new k ≡ (if is_id k (Some set.seq_parameter_set_id) then Some set else stored old k)) → Keeps more new other
keeps_accepted_sps units more seen rbsp old new other set keeps same is read put =
    keeps_sps units more seen rbsp old new other keeps same is (λ k. put k ∙ chosen k _ _ _ _ _ (sym (sps_accepted rbsp set read).id) (sym (ap accepted read)))

pub keeps_refused_sps : (units more : List SetUnit) (seen rbsp : List ℕ) (old new : List (Option Sps)) (other : List (Option Pps)) (why : SetFault) → Keeps units old other → seen ≡ rbsp → more ≡ units ++ OfSps seen ∷ []
    → sps_of rbsp ≡ Err why → ((k : ℕ) → stored new k ≡ (if is_id k why.id then None else stored old k)) → Keeps more new other
keeps_refused_sps units more seen rbsp old new other why keeps same is read put =
    keeps_sps units more seen rbsp old new other keeps same is (λ k. put k ∙ chosen k _ _ _ _ _ (whole-err sps (sps_id rbsp) (start rbsp) why read) (sym (ap accepted read)))

keeps_pps : (units more : List SetUnit) (seen rbsp : List ℕ) (old new : List (Option Pps)) (other : List (Option Sps)) → Keeps units other old → seen ≡ rbsp → more ≡ units ++ OfPps seen ∷ []
    → ((k : ℕ) → stored new k ≡ (if is_id k (pps_id rbsp) then accepted (pps_of rbsp) else stored old k)) → Keeps more other new
keeps_pps units more seen rbsp old new other keeps same is put = rw (is, same) (record {
  sequence = stored_more sps_record is_sps units (OfPps rbsp) other other keeps.sequence (λ k. refl);
  picture = stored_more pps_record is_pps units (OfPps rbsp) old new keeps.picture put;
})

pub keeps_accepted_pps : (units more : List SetUnit) (seen rbsp : List ℕ) (old new : List (Option Pps)) (other : List (Option Sps)) (set : Pps) → Keeps units other old → seen ≡ rbsp → more ≡ units ++ OfPps seen ∷ []
    → pps_of rbsp ≡ Ok set → ((k : ℕ) → stored new k ≡ (if is_id k (Some set.pic_parameter_set_id) then Some set else stored old k)) → Keeps more other new
keeps_accepted_pps units more seen rbsp old new other set keeps same is read put =
    keeps_pps units more seen rbsp old new other keeps same is (λ k. put k ∙ chosen k _ _ _ _ _ (sym (pps_accepted rbsp set read).id) (sym (ap accepted read)))

pub keeps_refused_pps : (units more : List SetUnit) (seen rbsp : List ℕ) (old new : List (Option Pps)) (other : List (Option Sps)) (why : SetFault) → Keeps units other old → seen ≡ rbsp → more ≡ units ++ OfPps seen ∷ []
    → pps_of rbsp ≡ Err why → ((k : ℕ) → stored new k ≡ (if is_id k why.id then None else stored old k)) → Keeps more other new
keeps_refused_pps units more seen rbsp old new other why keeps same is read put =
    keeps_pps units more seen rbsp old new other keeps same is (λ k. put k ∙ chosen k _ _ _ _ _ (whole-err pps (pps_id rbsp) (start rbsp) why read) (sym (ap accepted read)))

-- what holds of the set that is lent
pub lent : {A : Type 0} (P : A → Type 0) (set : Option (Bor A)) (found : Option A) → option_copied set ≡ found → ((x : A) → found ≡ Some x → P x) → IfSome set (λ x. P x.now)
lent P (Some x) found is kept = kept x.now (sym is)
lent P None found is kept = tt

-- the last one that is taken was taken
last-kept : {A : Type 0} (p : A → Bool) (xs : List A) (x : A) → last (filter p xs) ≡ Some x → p x ≡ true
last-kept {A = A} p xs x e = last-all (filter p xs) (filter_passes p xs) e
  where
    last-all : (ys : List A) → All (λ y. p y ≡ true) ys → last ys ≡ Some x → p x ≡ true
    last-all [] all is = cc
    last-all (y ∷ []) all is = let same : y ≡ x = cc in rw same at (All-head (λ z. p z ≡ true) y [] all)
    last-all (y ∷ z ∷ ys) all is = last-all (z ∷ ys) (All-tail (λ z. p z ≡ true) y (z ∷ ys) all) is

sps-of-unit : (id : ℕ) (unit : Option SetUnit) (s : Sps) → ((u : SetUnit) → unit ≡ Some u → is_sps id u ≡ true) → sps_record unit ≡ Some s → SpsIsInForce id s
sps-of-unit id (Some (OfSps rbsp)) s taken e =
    let accepted_set = sps_accepted rbsp s (grind arith) in
    record { within = accepted_set.within; id_is = grind (arith, nat_tests, taken (OfSps rbsp) refl, accepted_set.id) }
sps-of-unit id _ s taken e = cc

pub sps_in_force_is : (units : List SetUnit) (id : ℕ) (s : Sps) → sps_in_force units id ≡ Some s → SpsIsInForce id s
sps_in_force_is units id s e = sps-of-unit id (last (filter (is_sps id) units)) s (last-kept (is_sps id) units) e

pps-of-unit : (id : ℕ) (unit : Option SetUnit) (s : Pps) → ((u : SetUnit) → unit ≡ Some u → is_pps id u ≡ true) → pps_record unit ≡ Some s → PpsIsInForce id s
pps-of-unit id (Some (OfPps rbsp)) s taken e =
    let accepted_set = pps_accepted rbsp s (grind arith) in
    record { within = accepted_set.within; id_is = grind (arith, nat_tests, taken (OfPps rbsp) refl, accepted_set.id) }
pps-of-unit id _ s taken e = cc

pub pps_in_force_is : (units : List SetUnit) (id : ℕ) (s : Pps) → pps_in_force units id ≡ Some s → PpsIsInForce id s
pps_in_force_is units id s e = pps-of-unit id (last (filter (is_pps id) units)) s (last-kept (is_pps id) units) e

-- ---- worked examples of parameter sets

-- 16x16, order count type 2, one reference frame
abbrev pub small : Sps
small = record {
  profile_idc = 66;
  constraint_flags = record {
    constraint_set0_flag = true;
    constraint_set1_flag = true;
    constraint_set2_flag = false;
    constraint_set3_flag = false;
    constraint_set4_flag = false;
    constraint_set5_flag = false;
  };
  reserved_zero_2bits = 0;
  level_idc = 10;
  seq_parameter_set_id = 0;
  log2_max_frame_num_minus4 = 0;
  order_count = orders.Type2;
  max_num_ref_frames = 1;
  gaps_in_frame_num_value_allowed_flag = false;
  pic_width_in_mbs_minus1 = 0;
  pic_height_in_map_units_minus1 = 0;
  direct_8x8_inference_flag = false;
  frame_cropping = None;
  vui = None;
}

abbrev pub plain : Pps
plain = record {
  pic_parameter_set_id = 0;
  seq_parameter_set_id = 0;
  bottom_field_pic_order_in_frame_present_flag = false;
  num_ref_idx_l0_default_active_minus1 = 0;
  num_ref_idx_l1_default_active_minus1 = 0;
  weighted_pred_flag = false;
  weighted_bipred_idc = 0;
  pic_init_qp_minus26 = pos 0;
  pic_init_qs_minus26 = pos 0;
  chroma_qp_index_offset = pos 0;
  deblocking_filter_control_present_flag = false;
  constrained_intra_pred_flag = false;
  redundant_pic_cnt_present_flag = false;
}

-- a set of the id 0 that is refused
abbrev refused : {A : Type 0} → Fault → Result A SetFault
refused fault = Err (record { id = Some 0; fault = fault })

reads_small : (sps_of (0x42 ∷ 0xC0 ∷ 0x0A ∷ 0xDA ∷ 0x71 ∷ []) ≡ Ok small)
    × (sps_of (0x42 ∷ 0xC0 ∷ 0x0A ∷ 0xDA ∷ 0xF1 ∷ []) ≡ Ok (record small { gaps_in_frame_num_value_allowed_flag = true }))
reads_small = (refl, refl)

dpb_sizes : (dpb_size small ≡ 16) × (max_dpb_mbs 11 false ≡ Some 900) × (max_dpb_mbs 11 true ≡ Some 396)
dpb_sizes = (refl, refl, refl)

same : (same_sps small small ≡ true) × (same_sps small (record small { gaps_in_frame_num_value_allowed_flag = true }) ≡ false)
same = (refl, refl)

abbrev size_of : Result Sps SetFault → ℕ × ℕ
size_of (Ok s) = (width_in_mbs s, height_in_mbs s)
size_of (Err _) = (0, 0)

-- two macroblocks, the most that a picture of its width may have, and the lowest and the narrowest of that level
sizes :
    (size_of (sps_of (0x42 ∷ 0xC0 ∷ 0x0A ∷ 0xDA ∷ 0x2C ∷ 0x40 ∷ [])) ≡ (2, 1))
    × (size_of (sps_of (0x42 ∷ 0xC0 ∷ 0x3E ∷ 0xDA ∷ 0x00 ∷ 0x10 ∷ 0x7C ∷ 0x04 ∷ 0x24 ∷ 0x40 ∷ [])) ≡ (1055, 132))
    × (size_of (sps_of (0x42 ∷ 0xC0 ∷ 0x3E ∷ 0xDA ∷ 0x00 ∷ 0x22 ∷ 0x0C ∷ 0x40 ∷ [])) ≡ (544, 1))
    × (size_of (sps_of (0x42 ∷ 0xC0 ∷ 0x3E ∷ 0xDA ∷ 0x40 ∷ 0x08 ∷ 0x3F ∷ 0x10 ∷ [])) ≡ (1, 1055))
sizes = (refl, refl, refl, refl)

-- one row more, one column more, and one row more of one column
too_large :
    (sps_of (0x42 ∷ 0xC0 ∷ 0x3E ∷ 0xDA ∷ 0x00 ∷ 0x10 ∷ 0x7C ∷ 0x04 ∷ 0x2C ∷ 0x40 ∷ []) ≡ refused faults.PictureSize)
    × (sps_of (0x42 ∷ 0xC0 ∷ 0x3E ∷ 0xDA ∷ 0x00 ∷ 0x10 ∷ 0x83 ∷ 0x10 ∷ []) ≡ refused faults.PictureSize)
    × (sps_of (0x42 ∷ 0xC0 ∷ 0x3E ∷ 0xDA ∷ 0x40 ∷ 0x08 ∷ 0x41 ∷ 0x10 ∷ []) ≡ refused faults.PictureSize)
too_large = (refl, refl, refl)

abbrev cropping_of : Result Sps SetFault → Option Cropping
cropping_of (Ok s) = s.frame_cropping
cropping_of (Err _) = None

abbrev cropped_by : (right bottom : ℕ) → Option Cropping
cropped_by right bottom =
    Some (record { frame_crop_left_offset = 0; frame_crop_right_offset = right; frame_crop_top_offset = 0; frame_crop_bottom_offset = bottom })

-- six columns at the right and six rows at the bottom are cropped; of 16 columns 14 may be and 16 not
cropped :
    (cropping_of (sps_of (0x42 ∷ 0xC0 ∷ 0x0A ∷ 0xDA ∷ 0x76 ∷ 0x49 ∷ 0x10 ∷ [])) ≡ cropped_by 3 3)
    × (cropping_of (sps_of (0x42 ∷ 0xC0 ∷ 0x0A ∷ 0xDA ∷ 0x76 ∷ 0x23 ∷ 0x40 ∷ [])) ≡ cropped_by 7 0)
    × (sps_of (0x42 ∷ 0xC0 ∷ 0x0A ∷ 0xDA ∷ 0x76 ∷ 0x27 ∷ 0x40 ∷ []) ≡ refused faults.OutOfRange)
cropped = (refl, refl, refl)

abbrev limits_of : Result Sps SetFault → Option (ℕ × ℕ × ℕ)
limits_of (Ok s) = option_map (λ r. (r.max_num_reorder_frames, r.max_dec_frame_buffering, dpb_size s)) (restriction_of s)
limits_of (Err _) = None

-- with VUI
with_restriction : limits_of (sps_of (0x42 ∷ 0xC0 ∷ 0x0A ∷ 0xDA ∷ 0x72 ∷ 0x01 ∷ 0xFD ∷ 0x40 ∷ [])) ≡ Some (0, 1, 1)
with_restriction = refl

-- the id 32 is out of range, so the last set has none
sps_refused :
    (sps_of (0x64 ∷ 0x00 ∷ 0x0A ∷ 0xDA ∷ 0x71 ∷ []) ≡ refused faults.Profile)
    × (sps_of (0x42 ∷ 0xC0 ∷ 0x08 ∷ 0xDA ∷ 0x71 ∷ []) ≡ refused faults.Level)
    × (sps_of (0x42 ∷ 0xC0 ∷ 0x0A ∷ 0xDA ∷ 0x61 ∷ []) ≡ refused faults.Interlaced)
    × (sps_of (0x42 ∷ 0xC0 ∷ 0x0A ∷ 0x04 ∷ 0x30 ∷ []) ≡ Err (record { id = None; fault = faults.OutOfRange }))
sps_refused = (refl, refl, refl, refl)

reads_plain :
    (pps_of (0xCE ∷ 0x38 ∷ 0x80 ∷ []) ≡ Ok plain)
    × (pps_of (0xCE ∷ 0x3C ∷ 0x80 ∷ []) ≡ Ok (record plain { deblocking_filter_control_present_flag = true }))
    × (pps_of (0xCF ∷ 0x38 ∷ 0x80 ∷ []) ≡ Ok (record plain { weighted_pred_flag = true }))
reads_plain = (refl, refl, refl)

pps_refused :
    (pps_of (0xEE ∷ 0x38 ∷ 0x80 ∷ []) ≡ refused faults.Cabac)
    × (pps_of (0xC5 ∷ 0x80 ∷ []) ≡ refused faults.SliceGroups)
    × (pps_of (0xCE ∷ 0x38 ∷ 0xC0 ∷ []) ≡ refused faults.PpsExtension)
    × (pps_of [] ≡ Err (record { id = None; fault = faults.Truncated }))
pps_refused = (refl, refl, refl, refl)

-- a refused set erases the one of its id, and nothing where its id was not read
in_force :
    (sps_in_force (OfSps (0x42 ∷ 0xC0 ∷ 0x0A ∷ 0xDA ∷ 0x71 ∷ []) ∷ OfPps (0xCE ∷ 0x38 ∷ 0x80 ∷ []) ∷ []) 0 ≡ Some small)
    × (pps_in_force (OfPps (0xCE ∷ 0x38 ∷ 0x80 ∷ []) ∷ OfPps (0xEE ∷ 0x38 ∷ 0x80 ∷ []) ∷ []) 0 ≡ None)
    × (pps_in_force (OfPps (0xCE ∷ 0x38 ∷ 0x80 ∷ []) ∷ OfPps [] ∷ []) 0 ≡ Some plain)
in_force = (refl, refl, refl)

-- ---- what a function that reads part by part answers

-- the fault of the part that it was at
pub answers_fault : {A : Type 0} (result : Result A Fault) (part : Read A) (old new : BitReader) (fault : Fault)
    → IsErrAnd result (λ e. e ≡ fault) → part (reader_bits old) ≡ Err fault → Reads result part old new
answers_fault (Ok value) part old new fault given e = absurd given
answers_fault (Err why) part old new fault given e = e ∙ ap Err (sym given)
