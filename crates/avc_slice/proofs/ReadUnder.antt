-- What a slice header that was read keeps to, and worked examples.
pub mod Common
unfoldable pub use Common.*
use Rattle.avc_params.specs.declared.sps.OrderCount.TheVariants as orders
use Rattle.avc_types.specs.declared.fault.Fault.TheVariants as faults

-- ---- reading passes bits that stood ahead, and no others

-- how many bits were passed or stand ahead
abbrev pub total : Bits → ℕ
total b = b.position + length b.ahead

unfoldable pub Keeps : {A : Type 0} → Read A → Type 0
Keeps {A} part = (b next : Bits) (x : A) → part b ≡ Ok (x, next) → total next ≡ total b

pub keeps-bind : {A B : Type 0} (part : Read A) (after : A → Read B) → Keeps part → ((x : A) → Keeps (after x)) → Keeps (part >>= after)
unfolding Keeps
keeps-bind part after g h b next y f =
    let between = bind-ok part after b next y f in
    h between.0 between.1 next y between.3 ∙ g b between.1 between.0 between.2

pub keeps-give : {A : Type 0} (x : A) → Keeps (give x)
unfolding Keeps
keeps-give x b next y e = ap (λ r. total (left b r)) (sym e)

pub keeps-refuse : (A : Type 0) (f : Fault) → Keeps {A = A} (refuse f)
unfolding Keeps
keeps-refuse A f b next x e = cc

pub keeps-check : (test : Bool) (fault : Fault) → Keeps (check test fault)
keeps-check true fault = keeps-give tt
keeps-check false fault = keeps-refuse _ fault

pub keeps-where_set : {A : Type 0} (set : Bool) (part : Read A) → Keeps part → Keeps (where_set set part)
keeps-where_set true part g = keeps-bind part _ g (λ x. keeps-give (Some x))
keeps-where_set false part g = keeps-give None

-- ---- codes

split-length : (n : ℕ) (word : List Bool) (p : List Bool × List Bool) → split n word ≡ Some p → length word ≡ n + length p.1
split-length zero word p e = grind arith
split-length (suc n) [] p e = cc
split-length (suc n) (bit ∷ word) p e = grind (arith, split-length n word)

bits-by : (n : ℕ) (b next : Bits) (r : Option (List Bool × List Bool)) (x : List Bool) → split n b.ahead ≡ r → bits n b ≡ Ok (x, next) → total next ≡ total b
bits-by n b next (Some p) x is e =
    let read = rw (is, bits) at e in
    let same : next ≡ record { position = b.position + n; ahead = p.1 } = sym (ap (left b) read) in
    rw same (omega (arith, split-length n b.ahead p is))
bits-by n b next None x is e = let read = rw (is, bits) at e in cc

pub keeps-u : (n : ℕ) → Keeps (u n)
unfolding Keeps
keeps-u n = keeps-bind (bits n) _ (λ b next x e. bits-by n b next (split n b.ahead) x refl e) (λ word. keeps-give (number_of word))

pub keeps-flag : Keeps flag
keeps-flag = keeps-bind (u 1) _ (keeps-u 1) (λ v. keeps-give (v == 1))

zeros-length : (limit : ℕ) (fault : Fault) (seen : ℕ) (ahead : List Bool) (r : ℕ × List Bool) → zeros limit fault seen ahead ≡ Ok r → r.0 + 1 + length r.1 ≡ seen + length ahead
zeros-length limit fault seen [] r e = cc
zeros-length limit fault seen (true ∷ ahead) r e =
    let count : r.0 ≡ seen = cc in
    let rest : r.1 ≡ ahead = cc in
    rw (count, rest) (omega arith)
zeros-length limit fault seen (false ∷ ahead) r e = grind (arith, zeros-length limit fault (seen + 1) ahead)

zeros-by : (limit : ℕ) (fault : Fault) (b next : Bits) (r : Result (ℕ × List Bool) Fault) (x : ℕ) → zeros limit fault 0 b.ahead ≡ r → zeros_before_one limit fault b ≡ Ok (x, next) → total next ≡ total b
zeros-by limit fault b next (Ok p) x is e =
    let read = rw (is, zeros_before_one) at e in
    let same : next ≡ record { position = b.position + p.0 + 1; ahead = p.1 } = sym (ap (left b) read) in
    rw same (omega (arith, zeros-length limit fault 0 b.ahead p is))
zeros-by limit fault b next (Err f) x is e = let wrong = rw (is, zeros_before_one) at e in cc

pub keeps-ue : Keeps ue
unfolding Keeps
keeps-ue =
    keeps-bind (zeros_before_one 31 CodeTooLong) _ (λ b next x e. zeros-by 31 CodeTooLong b next (zeros 31 CodeTooLong 0 b.ahead) x refl e) (λ n.
    keeps-bind (u n) _ (keeps-u n) (λ m. keeps-give _))

-- a value that is checked
keeps-checked : {A : Type 0} (part : Read A) (test : A → Bool) (fault : Fault) → Keeps part → Keeps (part >>= λ v. check (test v) fault >> give v)
keeps-checked part test fault g = keeps-bind part _ g (λ v. keeps-bind (check (test v) fault) _ (keeps-check (test v) fault) (λ _. keeps-give v))

pub keeps-ue_to : (top : ℕ) → Keeps (ue_to top)
keeps-ue_to top = keeps-checked ue _ _ keeps-ue

pub keeps-se : Keeps se
keeps-se = keeps-bind ue _ keeps-ue (λ k. keeps-give (signed_value k))

pub keeps-se_within : (low high : ℤ) → Keeps (se_within low high)
keeps-se_within low high = keeps-checked se _ _ keeps-se

-- of which a part is made
pub ruleset parts_keep = (keeps-bind, keeps-give, keeps-refuse, keeps-check, keeps-where_set, keeps-u, keeps-flag, keeps-ue, keeps-ue_to, keeps-se, keeps-se_within)

-- ---- a list that a code ends, with some of its items read already

-- with these items in front
abbrev pub joined : {A : Type 0} → List A → Result (List A × Bits) Fault → Result (List A × Bits) Fault
joined xs (Ok r) = Ok (xs ++ r.0, r.1)
joined xs (Err f) = Err f

joined-none : {A : Type 0} (r : Result (List A × Bits) Fault) → joined [] r ≡ r
joined-none (Ok r) = refl
joined-none (Err f) = refl

joined-one : {A : Type 0} (xs : List A) (x : A) (part : Read (List A)) (b : Bits) (r : Result (List A × Bits) Fault) → part b ≡ r
    → joined xs ((part >>= λ others. give (x ∷ others)) b) ≡ joined (xs ++ x ∷ []) r
joined-one xs x part b (Ok r) e = rw e (ap (λ items. Ok (items, r.1)) (sym (append_assoc xs (x ∷ []) r.0)))
joined-one xs x part b (Err f) e = rw e refl

-- What has come so far: of the items that may stand `left` are left, and the whole is these items and then what is read from b.
pub record IsUnderWay {A : Type 0} (read_code : Read ℕ) (stop : ℕ) (item : ℕ → Read A) (fault : Fault) (whole : Result (List A × Bits) Fault) (left : ℕ) (xs : List A) (b : Bits) : Type 0 where
  pub rest : whole ≡ joined xs (up_to read_code stop item fault left b)

module _ {A : Type 0} (read_code : Read ℕ) (stop : ℕ) (item : ℕ → Read A) (fault : Fault) (whole : Result (List A × Bits) Fault) where
  abbrev UnderWay : (left : ℕ) → List A → Bits → Type 0
  UnderWay = IsUnderWay read_code stop item fault whole

  pub one_more : (left n : ℕ) (xs : List A) (b b1 b2 : Bits) (code : ℕ) (x : A) → left ≡ suc n
      → UnderWay left xs b → read_code b ≡ Ok (code, b1) → (code ≡ stop → ⊥) → item code b1 ≡ Ok (x, b2) → UnderWay n (xs ++ x ∷ []) b2
  one_more left n xs b b1 b2 code x more h e go i =
      record { rest = h.rest ∙ rw (more, e, ne_eqb code stop go, i) (joined-one xs x (up_to read_code stop item fault n) b2 (up_to read_code stop item fault n b2) refl) }

  pub stops : (left : ℕ) (xs : List A) (b b1 : Bits) (code : ℕ) → UnderWay left xs b → read_code b ≡ Ok (code, b1) → code ≡ stop → whole ≡ Ok (xs, b1)
  stops zero xs b b1 code h e y = h.rest ∙ rw (e, eq-eqb code stop y) (ap (λ items. Ok (items, b1)) (append-nil xs))
  stops (suc left) xs b b1 code h e y = h.rest ∙ rw (e, eq-eqb code stop y) (ap (λ items. Ok (items, b1)) (append-nil xs))

  pub overflows : (left : ℕ) (xs : List A) (b b1 : Bits) (code : ℕ) → left ≡ 0
      → UnderWay left xs b → read_code b ≡ Ok (code, b1) → (code ≡ stop → ⊥) → whole ≡ Err fault
  overflows left xs b b1 code none h e go = h.rest ∙ rw (none, e, ne_eqb code stop go) refl

  pub no_code : (left : ℕ) (xs : List A) (b : Bits) (f : Fault) → UnderWay left xs b → read_code b ≡ Err f → whole ≡ Err f
  no_code zero xs b f h e = h.rest ∙ rw e refl
  no_code (suc left) xs b f h e = h.rest ∙ rw e refl

  pub no_item : (left n : ℕ) (xs : List A) (b b1 : Bits) (code : ℕ) (f : Fault) → left ≡ suc n
      → UnderWay left xs b → read_code b ≡ Ok (code, b1) → (code ≡ stop → ⊥) → item code b1 ≡ Err f → whole ≡ Err f
  no_item left n xs b b1 code f more h e go i = h.rest ∙ rw (more, e, ne_eqb code stop go, i) refl

-- nothing has come yet
pub starts : {A : Type 0} (read_code : Read ℕ) (stop : ℕ) (item : ℕ → Read A) (fault : Fault) (room left : ℕ) (b : Bits) → left ≡ room
    → IsUnderWay read_code stop item fault (up_to read_code stop item fault room b) left [] b
starts read_code stop item fault room left b e = record { rest = rw e (sym (joined-none (up_to read_code stop item fault room b))) }

-- ---- the table of explicit weights that was read: its ranges, and that nothing is passed but what stood ahead: nothing but what stood ahead is passed

keeps-optional : {A : Type 0} (part : Read A) → Keeps part → Keeps (optional part)
keeps-optional part g = search parts_keep

keeps-times : {A : Type 0} (n : ℕ) (part : Read A) → Keeps part → Keeps (times n part)
keeps-times zero part g = keeps-give []
keeps-times (suc n) part g = keeps-bind part _ g (λ x. keeps-bind (times n part) _ (keeps-times n part g) (λ xs. keeps-give (x ∷ xs)))

keeps-coded_weight : Keeps coded_weight
keeps-coded_weight = search parts_keep

keeps-entry_weights : Keeps entry_weights
keeps-entry_weights = search (parts_keep, keeps-optional, keeps-coded_weight) depth 12

pub keeps-table : (n : ℕ) → Keeps (pred_weight_table n)
keeps-table n = search (parts_keep, keeps-times, keeps-entry_weights)

-- ---- the ranges

gives-coded_weight : Gives IsCodedWeight coded_weight
gives-coded_weight = search (parts_give, rules) depth 16

gives-chroma_weights : Gives IsChromaWeights chroma_weights
gives-chroma_weights = search (gives-coded_weight, parts_give, rules) depth 16

gives-entry_weights : Gives IsEntryWeights entry_weights
gives-entry_weights =
    gives-bind (λ o. IfSome o IsCodedWeight) IsEntryWeights (optional coded_weight) _ (gives-optional IsCodedWeight coded_weight gives-coded_weight) (λ luma is_luma.
    gives-bind (λ o. IfSome o IsChromaWeights) IsEntryWeights (optional chroma_weights) _ (gives-optional IsChromaWeights chroma_weights gives-chroma_weights) (λ chroma is_chroma.
    gives-give IsEntryWeights _ (record { luma = is_luma; chroma = is_chroma })))

-- as many as were asked for, and each in its ranges
record AreEntries (n : ℕ) (entries : List EntryWeights) : Type 0 where
  count : length entries ≡ n
  each : All IsEntryWeights entries

gives-entries : (n : ℕ) → Gives (AreEntries n) (times n entry_weights)
gives-entries n b next entries e = record {
  count = gives-times n entry_weights b next entries e;
  each = gives-each IsEntryWeights n entry_weights gives-entry_weights b next entries e;
}

pub gives-table : (n : ℕ) → Gives (IsPredWeightTable n) (pred_weight_table n)
gives-table n =
    gives-bind (λ v. v ≤ 7) (IsPredWeightTable n) (ue_to 7) _ (gives-ue_to 7) (λ luma few_luma.
    gives-bind (λ v. v ≤ 7) (IsPredWeightTable n) (ue_to 7) _ (gives-ue_to 7) (λ chroma few_chroma.
    gives-bind (AreEntries n) (IsPredWeightTable n) (times n entry_weights) _ (gives-entries n) (λ entries are.
    gives-give (IsPredWeightTable n) _ (record { luma_denom = few_luma; chroma_denom = few_chroma; count = are.count; entries = are.each }))))

-- ---- what a slice header that was read keeps to: nothing but what stood ahead is passed

keeps-optional_se : (present : Bool) → Keeps (optional_se present)
keeps-optional_se true = keeps-se
keeps-optional_se false = keeps-give (pos 0)

keeps-coded_order : (order : OrderCount) (bottom_present : Bool) → Keeps (coded_order order bottom_present)
keeps-coded_order orders.Type2 bottom_present = keeps-give _
keeps-coded_order _ bottom_present = search (parts_keep, keeps-optional_se)

keeps-unless_ended : {A : Type 0} (ended : Bool) (others : Read (List A)) → Keeps others → Keeps (unless_ended ended others)
keeps-unless_ended true others g = keeps-give []
keeps-unless_ended false others g = g

keeps-up_to : {A : Type 0} (code : Read ℕ) (stop : ℕ) (item : ℕ → Read A) (fault : Fault) (room : ℕ) → Keeps code → ((n : ℕ) → Keeps (item n)) → Keeps (up_to code stop item fault room)
keeps-up_to code stop item fault zero g h = search parts_keep
keeps-up_to code stop item fault (suc room) g h =
    keeps-bind code _ g (λ next. keeps-unless_ended (next == stop) _
    (keeps-bind (item next) _ (h next) (λ one. keeps-bind (up_to code stop item fault room) _ (keeps-up_to code stop item fault room g h) (λ others. keeps-give _))))

keeps-modification : (most idc : ℕ) → Keeps (modification most idc)
keeps-modification most (suc (suc _)) = search parts_keep
keeps-modification most _ = search parts_keep

keeps-modification_list : (max room : ℕ) → Keeps (modification_list max room)
keeps-modification_list max room = search (parts_keep, keeps-up_to, keeps-modification)

keeps-operation : (number : ℕ) → Keeps (operation number)
keeps-operation (suc (suc (suc (suc (suc (suc n)))))) = search parts_keep
keeps-operation _ = search parts_keep

keeps-marking : (idr : Bool) → Keeps (marking idr)
keeps-marking true = search parts_keep
keeps-marking false = keeps-bind flag _ keeps-flag (elim [
  | true ↦ keeps-bind (operations most_operations) _ (keeps-up_to (ue_to 6) 0 operation BadMarking most_operations (keeps-ue_to 6) keeps-operation) (λ list. keeps-give (Adaptive list))
  | false ↦ keeps-give _
])

keeps-active_override : (pps : Pps) → Keeps (active_override pps)
keeps-active_override pps = keeps-bind flag _ keeps-flag (elim [
  | true ↦ keeps-bind (ue_to 15) _ (keeps-ue_to 15) (λ count. keeps-give _)
  | false ↦ keeps-bind (check _ _) _ (keeps-check _ _) (λ _. keeps-give _)
])

keeps-offset_pair : (filtered : FilteredEdges) → Keeps (offset_pair filtered)
keeps-offset_pair filtered = search parts_keep

keeps-deblocked : (off : Bool) (filtered : FilteredEdges) → Keeps (elim off [ true ↦ give no_edges | false ↦ offset_pair filtered ])
keeps-deblocked true filtered = keeps-give no_edges
keeps-deblocked false filtered = keeps-offset_pair filtered

keeps-deblocking : Keeps deblocking
keeps-deblocking = keeps-bind (ue_to 2) _ (keeps-ue_to 2) (λ idc. keeps-deblocked (idc == 1) _)

keeps-found : {A : Type 0} (o : Option A) (f : Fault) → Keeps (found o f)
keeps-found (Some a) f = keeps-give a
keeps-found None f = keeps-refuse _ f

keeps-front : (nal_ref_idc : ℕ) (idr : Bool) → Keeps (front nal_ref_idc idr)
keeps-front nal_ref_idc idr = search (parts_keep, keeps-found) depth 12

keeps-redundant_pic_cnt : (present : Bool) → Keeps (redundant_pic_cnt present)
keeps-redundant_pic_cnt present = search parts_keep

keeps-numbers : (idr : Bool) (pps : Pps) (sps : Sps) → Keeps (numbers idr pps sps)
keeps-numbers idr pps sps = search (parts_keep, keeps-coded_order, keeps-redundant_pic_cnt) depth 12

keeps-list_part : (p : Bool) (pps : Pps) (sps : Sps) → Keeps (list_part p pps sps)
keeps-list_part true pps sps = search (parts_keep, keeps-table, keeps-active_override, keeps-modification_list) depth 12
keeps-list_part false pps sps = keeps-give _

keeps-filtering : (pps : Pps) → Keeps (filtering pps)
keeps-filtering pps = search (parts_keep, keeps-deblocking) depth 12

keeps-back : (nal_ref_idc : ℕ) (idr : Bool) (start : Front) (pps : Pps) (sps : Sps) → Keeps (back nal_ref_idc idr start pps sps)
unfolding Keeps
keeps-back nal_ref_idc idr start pps sps =
    keeps-bind (check (nat_lt start.first_mb_in_slice (size_in_mbs sps)) _) _ (keeps-check _ _) (λ _.
    keeps-bind (numbers idr pps sps) _ (keeps-numbers idr pps sps) (λ of_picture.
    keeps-bind (list_part (is_p_type start.slice_type) pps sps) _ (keeps-list_part (is_p_type start.slice_type) pps sps) (λ list.
    keeps-bind (where_set (not (nal_ref_idc == 0)) (marking idr)) _ (keeps-where_set (not (nal_ref_idc == 0)) (marking idr) (keeps-marking idr)) (λ marked.
    keeps-bind (filtering pps) _ (keeps-filtering pps) (λ filtered. λ b. keeps-give _ b)))))

-- ---- what the fields keep to

not_off : (all : Bool) → (if all then AllEdges else WithinSlice) ≡ NoEdges → ⊥
not_off all e = grind arith

gives-deblocked : (off : Bool) (filtered : FilteredEdges) → (filtered ≡ NoEdges → ⊥) → Gives IsDeblocking (elim off [ true ↦ give no_edges | false ↦ offset_pair filtered ])
gives-deblocked true filtered on =
    gives-give IsDeblocking no_edges (record { alpha_low = omega (arith, ints); alpha_high = omega (arith, ints); beta_low = omega (arith, ints); beta_high = omega (arith, ints); off = λ _. refl })
gives-deblocked false filtered on =
    gives-bind (IsFrom (negsuc 5) (pos 6)) IsDeblocking (se_within (negsuc 5) (pos 6)) _ (gives-se_within (negsuc 5) (pos 6)) (λ alpha is_alpha.
    gives-bind (IsFrom (negsuc 5) (pos 6)) IsDeblocking (se_within (negsuc 5) (pos 6)) _ (gives-se_within (negsuc 5) (pos 6)) (λ beta is_beta.
    gives-give IsDeblocking _ (record { alpha_low = is_alpha.least; alpha_high = is_alpha.most; beta_low = is_beta.least; beta_high = is_beta.most; off = λ none. absurd (on none) })))

gives-deblocking : Gives IsDeblocking deblocking
gives-deblocking = gives-then IsDeblocking (ue_to 2) _ (λ idc. gives-deblocked (idc == 1) (if idc == 0 then AllEdges else WithinSlice) (not_off (idc == 0)))

-- In a unit of type 5 the slice is not of type P, and of a reference picture.
record IsFront (nal_ref_idc : ℕ) (idr : Bool) (start : Front) : Type 0 where
  intra : idr ≡ true → is_p_type start.slice_type ≡ false
  reference : idr ≡ true → not (nal_ref_idc == 0) ≡ true

intra_in : (idr none p : Bool) → not (idr && (none || p)) ≡ true → idr ≡ true → p ≡ false
intra_in idr none p e is = grind arith

reference_in : (idr none p : Bool) → not (idr && (none || p)) ≡ true → idr ≡ true → not none ≡ true
reference_in idr none p e is = grind arith

gives-front : (nal_ref_idc : ℕ) (idr : Bool) → Gives (IsFront nal_ref_idc idr) (front nal_ref_idc idr)
gives-front nal_ref_idc idr =
    let Q = IsFront nal_ref_idc idr in
    gives-then Q ue _ (λ first.
    gives-then Q (ue_to 9) _ (λ number.
    gives-then Q (found (slice_type_of number) _) _ (λ slice_type.
    gives-check Q (not (idr && (nal_ref_idc == 0 || is_p_type slice_type))) _ _ (λ checked.
    gives-then Q (ue_to 255) _ (λ id.
    gives-give Q _ (record {
      intra = intra_in idr (nal_ref_idc == 0) (is_p_type slice_type) checked;
      reference = reference_in idr (nal_ref_idc == 0) (is_p_type slice_type) checked;
    }))))))

-- ---- marking

abbrev HasMarking : (idr reference : Bool) → Option Marking → Type 0
HasMarking idr reference m = (is_some m ≡ reference) × (idr ≡ true → reference ≡ true → is_idr_marking m ≡ true)

gives-marking : Gives (λ m. is_idr_marking (Some m) ≡ true) (marking true)
gives-marking =
    gives-then (λ m. is_idr_marking (Some m) ≡ true) flag _ (λ no_output.
    gives-then (λ m. is_idr_marking (Some m) ≡ true) flag _ (λ long_term.
    gives-give (λ m. is_idr_marking (Some m) ≡ true) (Idr no_output long_term) refl))

gives-optional_marking : (idr reference : Bool) → Gives (HasMarking idr reference) (where_set reference (marking idr))
gives-optional_marking idr false = gives-give (HasMarking idr false) None (refl, λ _ e. absurd (false≢true e))
gives-optional_marking true true =
    gives-bind (λ m. is_idr_marking (Some m) ≡ true) (HasMarking true true) (marking true) _ gives-marking (λ m is.
    gives-give (HasMarking true true) (Some m) (refl, λ _ _. is))
gives-optional_marking false true =
    gives-then (HasMarking false true) (marking false) _ (λ m.
    gives-give (HasMarking false true) (Some m) (refl, λ wrong _. absurd (false≢true wrong)))

abbrev IsOfIdr : Bool → Option ℕ → Type 0
IsOfIdr idr id = is_some id ≡ idr

gives-idr_pic_id : (idr : Bool) → Gives (IsOfIdr idr) (idr_pic_id idr)
gives-idr_pic_id true = gives-then (IsOfIdr true) (ue_to 65535) _ (λ id. gives-give (IsOfIdr true) (Some id) refl)
gives-idr_pic_id false = gives-give (IsOfIdr false) None refl

gives-numbers : (idr : Bool) (pps : Pps) (sps : Sps) → Gives (λ n. IsOfIdr idr n.idr_pic_id) (numbers idr pps sps)
gives-numbers idr pps sps =
    let Q = λ (n : Numbers). IsOfIdr idr n.idr_pic_id in
    gives-then Q (u (sps.log2_max_frame_num_minus4 + 4)) _ (λ frame_num.
    gives-then Q (check (not (idr && not (frame_num == 0))) _) _ (λ _.
    gives-bind (IsOfIdr idr) Q (idr_pic_id idr) _ (gives-idr_pic_id idr) (λ of_idr is.
    gives-then Q (coded_order sps.order_count pps.bottom_field_pic_order_in_frame_present_flag) _ (λ order.
    gives-then Q (redundant_pic_cnt pps.redundant_pic_cnt_present_flag) _ (λ redundant.
    gives-give Q _ is)))))

quantiser : (qp : ℤ) → is_qp qp ≡ true → IsFrom (pos 0) (pos 51) qp
quantiser qp e =
    let parts = and_parts (int_le (pos 0) qp) (int_le qp (pos 51)) e in
    record { least = grind (arith, ints); most = grind (arith, ints) }

record IsFiltering (pps : Pps) (f : Filtering) : Type 0 where
  qp : IsFrom (pos 0) (pos 51) (slice_qp pps f.slice_qp_delta)
  deblocking : IfSome f.deblocking IsDeblocking

gives-filtering : (pps : Pps) → Gives (IsFiltering pps) (filtering pps)
gives-filtering pps =
    gives-then (IsFiltering pps) se _ (λ delta.
    gives-check (IsFiltering pps) (is_qp (slice_qp pps delta)) _ _ (λ qp.
    gives-bind (λ d. IfSome d IsDeblocking) (IsFiltering pps) (where_set pps.deblocking_filter_control_present_flag deblocking) _
    (gives-where_set IsDeblocking pps.deblocking_filter_control_present_flag deblocking gives-deblocking) (λ given is.
    gives-give (IsFiltering pps) _ (record { qp = quantiser _ qp; deblocking = is }))))

gives-overridden_count : (pps : Pps) → Gives (λ override. num_ref_idx_active pps override ≤ 16) overridden_count
gives-overridden_count pps =
    gives-bind (λ n. n ≤ 15) (λ override. num_ref_idx_active pps override ≤ 16) (ue_to 15) _ (gives-ue_to 15) (λ n is.
    gives-give (λ override. num_ref_idx_active pps override ≤ 16) (Some n) (omega (arith, is)))

gives-active_override : (pps : Pps) → Gives (λ override. num_ref_idx_active pps override ≤ 16) (active_override pps)
gives-active_override pps =
    gives-then (λ override. num_ref_idx_active pps override ≤ 16) flag _ (elim [
      | true ↦ gives-overridden_count pps
      | false ↦
          gives-check (λ override. num_ref_idx_active pps override ≤ 16) (nat_lt pps.num_ref_idx_l0_default_active_minus1 16) _ _ (λ less.
          gives-give (λ override. num_ref_idx_active pps override ≤ 16) None (few (ltb-true pps.num_ref_idx_l0_default_active_minus1 16 less)))
    ])
  where
    few : pps.num_ref_idx_l0_default_active_minus1 < 16 → pps.num_ref_idx_l0_default_active_minus1 + 1 ≤ 16
    few less = omega (arith, less)

record IsListPart (l : ListPart) : Type 0 where
  active : l.num_ref_idx_active ≤ 16
  weights : IfSome l.pred_weight_table (IsPredWeightTable l.num_ref_idx_active)

gives-p_list : (pps : Pps) (sps : Sps) → Gives IsListPart (p_list pps sps)
gives-p_list pps sps =
    gives-bind (λ override. num_ref_idx_active pps override ≤ 16) IsListPart (active_override pps) _ (gives-active_override pps) (λ override few.
    let count = num_ref_idx_active pps override in
    gives-then IsListPart (modification_list (max_frame_num sps) count) _ (λ given.
    gives-bind (λ t. IfSome t (IsPredWeightTable count)) IsListPart (where_set pps.weighted_pred_flag (pred_weight_table count)) _
    (gives-where_set (IsPredWeightTable count) pps.weighted_pred_flag (pred_weight_table count) (gives-table count)) (λ weights is.
    gives-give IsListPart _ (record { active = few; weights = is }))))

gives-list_part : (p : Bool) (pps : Pps) (sps : Sps) → Gives IsListPart (list_part p pps sps)
gives-list_part true pps sps = gives-p_list pps sps
gives-list_part false pps sps = gives-give IsListPart _ (record { active = omega arith; weights = tt })

-- What a header has from its parts.
record IsBack (nal_ref_idc : ℕ) (idr : Bool) (start : Front) (pps : Pps) (sps : Sps) (h : Header) : Type 0 where
  address : h.first_mb_in_slice < size_in_mbs sps
  slice_type : h.slice_type ≡ start.slice_type
  set : h.pic_parameter_set_id ≡ start.pic_parameter_set_id
  idr_is : is_idr h ≡ idr
  reference : is_some h.marking ≡ is_reference h
  marking : idr ≡ true → not (nal_ref_idc == 0) ≡ true → has_idr_marking h ≡ true
  active : h.num_ref_idx_active ≤ 16
  weights : IfSome h.pred_weight_table (IsPredWeightTable h.num_ref_idx_active)
  filters : IsFiltering pps (record { slice_qp_delta = h.slice_qp_delta; deblocking = h.deblocking })

gives-back : (nal_ref_idc : ℕ) (idr : Bool) (start : Front) (pps : Pps) (sps : Sps) →
    Gives (IsBack nal_ref_idc idr start pps sps) (back nal_ref_idc idr start pps sps)
gives-back nal_ref_idc idr start pps sps =
    let Q = IsBack nal_ref_idc idr start pps sps in
    let reference = not (nal_ref_idc == 0) in
    gives-check Q (nat_lt start.first_mb_in_slice (size_in_mbs sps)) _ _ (λ address.
    gives-bind (λ n. IsOfIdr idr n.idr_pic_id) Q (numbers idr pps sps) _ (gives-numbers idr pps sps) (λ of_picture is_of.
    gives-bind IsListPart Q (list_part (is_p_type start.slice_type) pps sps) _ (gives-list_part (is_p_type start.slice_type) pps sps) (λ list is_list.
    gives-bind (HasMarking idr reference) Q (where_set reference (marking idr)) _ (gives-optional_marking idr reference) (λ marked is_marked.
    gives-bind (IsFiltering pps) Q (filtering pps) _ (gives-filtering pps) (λ filtered is_filtered.
    λ b. gives-give Q _ (record {
      address = ltb-true start.first_mb_in_slice (size_in_mbs sps) address;
      slice_type = refl;
      set = refl;
      idr_is = is_of;
      reference = is_marked.0;
      marking = is_marked.1;
      active = is_list.active;
      weights = is_list.weights;
      filters = is_filtered;
    }) b)))))

-- ---- the position is where the reader is

abbrev Ends : Read Header → Type 0
Ends part = (b next : Bits) (h : Header) → part b ≡ Ok (h, next) → h.position ≡ next.position

ends-then : {A : Type 0} (part : Read A) (after : A → Read Header) → ((x : A) → Ends (after x)) → Ends (part >>= after)
ends-then part after g b next h e = let between = bind-ok part after b next h e in g between.0 between.1 next h between.3

ends-here : (make : ℕ → Header) → ((n : ℕ) → (make n).position ≡ n) → Ends (position_here >>= λ n. give (make n))
ends-here make is b next h e =
    sym (ap (λ r. (value h r).position) e) ∙ is b.position ∙ ap (λ r. (left b r).position) e

ends-back : (nal_ref_idc : ℕ) (idr : Bool) (start : Front) (pps : Pps) (sps : Sps) → Ends (back nal_ref_idc idr start pps sps)
ends-back nal_ref_idc idr start pps sps =
    ends-then (check (nat_lt start.first_mb_in_slice (size_in_mbs sps)) _) _ (λ _.
    ends-then (numbers idr pps sps) _ (λ of_picture.
    ends-then (list_part (is_p_type start.slice_type) pps sps) _ (λ list.
    ends-then (where_set (not (nal_ref_idc == 0)) (marking idr)) _ (λ marked.
    ends-then (filtering pps) _ (λ filtered. ends-here _ (λ n. refl))))))

-- ---- the whole header

found-some : {A : Type 0} (o : Option A) (f : Fault) (b next : Bits) (x : A) → found o f b ≡ Ok (x, next) → o ≡ Some x
found-some (Some a) f b next x e = gives-give (λ y. Some a ≡ Some y) a refl b next x e
found-some None f b next x e = cc

read-by : (r : Result (Header × Bits) Fault) (h : Header) → value_or_fault r ≡ Ok h → (next : Bits) × (r ≡ Ok (h, next))
read-by (Ok p) h e = let same : p.0 ≡ h = cc in (p.1, ap (λ g. Ok (g, p.1)) same)
read-by (Err f) h e = cc

-- from the start no bit past the stop bit was passed
reached : (position : ℕ) (next : Bits) (rbsp : List ℕ) → position ≡ next.position → total next ≡ total (start rbsp) → position ≤ length (bits_before_stop rbsp)
reached position next rbsp is passed = omega (arith, is, passed)

-- A header that was read: under which sets, and that it is one of a unit of type 5 or not.
pub record IsRead (sets : Sets) (rbsp : List ℕ) (idr : Bool) (h : Header) : Type 0 where
  pub kept : IsReadUnder sets rbsp h
  pub idr_is : is_idr h ≡ idr

pub header-read : (header : ℕ) (sets : Sets) (rbsp : List ℕ) (h : Header) → header_in_rbsp header sets rbsp ≡ Ok h → IsRead sets rbsp (header % 32 == 5) h
unfolding Keeps
header-read header sets rbsp h e =
    let idr = header % 32 == 5 in
    let all = read-by (header_of header sets (start rbsp)) h e in
    let f = bind-ok (front (header / 32 % 4) idr) _ (start rbsp) all.0 h all.1 in
    let p = bind-ok (found (sets.pps f.0.pic_parameter_set_id) NoParameterSet) _ f.1 all.0 h f.3 in
    let s = bind-ok (found (sets.sps p.0.seq_parameter_set_id) NoParameterSet) _ p.1 all.0 h p.3 in
    let is = gives-back (header / 32 % 4) idr f.0 p.0 s.0 s.1 all.0 h s.3 in
    let of_front = gives-front (header / 32 % 4) idr (start rbsp) f.1 f.0 f.2 in
    let position : h.position ≡ all.0.position = ends-back (header / 32 % 4) idr f.0 p.0 s.0 s.1 all.0 h s.3 in
    let passed : total all.0 ≡ total (start rbsp) =
    keeps-back (header / 32 % 4) idr f.0 p.0 s.0 s.1 all.0 h s.3
    ∙ keeps-found (sets.sps p.0.seq_parameter_set_id) NoParameterSet p.1 s.1 s.0 s.2
    ∙ keeps-found (sets.pps f.0.pic_parameter_set_id) NoParameterSet f.1 p.1 p.0 p.2
    ∙ keeps-front (header / 32 % 4) idr (start rbsp) f.1 f.0 f.2 in
    record {
      kept = record {
        pps = p.0;
        sps = s.0;
        pps_is = ap (λ id. sets.pps id) is.set ∙ found-some _ NoParameterSet f.1 p.1 p.0 p.2;
        sps_is = found-some _ NoParameterSet p.1 s.1 s.0 s.2;
        within = record {
          address = is.address;
          intra = λ of_idr. ap is_p_type is.slice_type ∙ of_front.intra (sym is.idr_is ∙ of_idr);
          reference = is.reference;
          marking = λ of_idr. is.marking (sym is.idr_is ∙ of_idr) (of_front.reference (sym is.idr_is ∙ of_idr));
          qp_low = is.filters.qp.least;
          qp_high = is.filters.qp.most;
          deblocking = is.filters.deblocking;
          active = is.active;
          weights = is.weights;
          position = reached h.position all.0 rbsp position passed;
        };
      };
      idr_is = is.idr_is;
    }

-- the same of an answer
pub filled-kept : (header : ℕ) (sets : Sets) (rbsp : List ℕ) (h : Header) (r : Result (Unit {0}) Fault) → filled r h ≡ header_in_rbsp header sets rbsp → IfOk r (λ _. IsReadUnder sets rbsp h)
filled-kept header sets rbsp h (Ok _) e = (header-read header sets rbsp h (sym e)).kept
filled-kept header sets rbsp h (Err f) e = tt

pub filled-idr : (header : ℕ) (sets : Sets) (rbsp : List ℕ) (h : Header) (r : Result (Unit {0}) Fault) → filled r h ≡ header_in_rbsp header sets rbsp → IfOk r (λ _. is_idr h ≡ (header % 32 == 5))
filled-idr header sets rbsp h (Ok _) e = (header-read header sets rbsp h (sym e)).idr_is
filled-idr header sets rbsp h (Err f) e = tt

-- ---- worked examples of slice headers

abbrev sets : Sets
sets = sets_after (OfSps (0x42 ∷ 0xC0 ∷ 0x0A ∷ 0xDA ∷ 0x71 ∷ []) ∷ OfPps (0xCE ∷ 0x38 ∷ 0x80 ∷ []) ∷ [])

abbrev header_at : ℕ → List ℕ → Result Header Fault
header_at header rbsp = header_in_rbsp header sets rbsp

abbrev pub of_p : Header
of_p = record empty_header {
  nal_ref_idc = 2;
  slice_type = AllP;
  frame_num = 1;
  num_ref_idx_active = 1;
  marking = Some SlidingWindow;
  position = 15;
}

abbrev pub of_i : Header
of_i = record empty_header { nal_ref_idc = 3; slice_type = AllI; idr_pic_id = Some 1; marking = Some (Idr false false); position = 17 }

read_or_refused :
    (header_at 0x41 (0x9A ∷ 0x22 ∷ 0xA0 ∷ []) ≡ Ok of_p)
    × (header_at 0x65 (0x88 ∷ 0x84 ∷ 0x93 ∷ 0xC0 ∷ []) ≡ Ok (record of_i { idr_pic_id = Some 0 }))
    × (header_at 0x41 (0x9A ∷ 0x2F ∷ 0x91 ∷ 0x80 ∷ []) ≡ Err faults.BadRefList)
    × (header_at 0x41 (0x9E ∷ 0x22 ∷ 0xA0 ∷ []) ≡ Err faults.SliceType)
    × (header_at 0x65 (0x42 ∷ 0x21 ∷ 0x24 ∷ 0xF0 ∷ []) ≡ Err faults.OutOfRange)
read_or_refused = (refl, refl, refl, refl, refl)

new_picture : (begins of_i of_p ≡ true) × (begins of_i (record of_i { first_mb_in_slice = 1 }) ≡ false)
new_picture = (refl, refl)

-- ---- explicit weights

abbrev weighted_sets : Sets
weighted_sets = sets_after (OfSps (0x42 ∷ 0xC0 ∷ 0x0A ∷ 0xDA ∷ 0x71 ∷ []) ∷ OfPps (0xCF ∷ 0x38 ∷ 0x80 ∷ []) ∷ [])

abbrev weighted_at : ℕ → List ℕ → Result Header Fault
weighted_at header rbsp = header_in_rbsp header weighted_sets rbsp

abbrev coded : ℤ → ℤ → CodedWeight
coded weight offset = record { weight = weight; offset = offset }

-- luma by 1 and 2, chroma as it is
luma_alone : weighted_at 0x41 (0x9A ∷ 0x27 ∷ 0x44 ∷ 0x2A ∷ []) ≡ Ok (record of_p {
  pred_weight_table = Some (record {
    luma_log2_weight_denom = 0;
    chroma_log2_weight_denom = 0;
    entries = record { luma = Some (coded (pos 1) (pos 2)); chroma = None } ∷ [];
  });
  position = 27;
})
luma_alone = refl

-- two reference indices, the first with chroma alone
abbrev table_of_two : PredWeightTable
table_of_two = record {
  luma_log2_weight_denom = 5;
  chroma_log2_weight_denom = 2;
  entries =
      record { luma = None; chroma = Some (record { cb = coded (negsuc 127) (pos 127); cr = coded (pos 3) (negsuc 3) }) }
      ∷ record { luma = Some (coded (pos 127) (negsuc 127)); chroma = None } ∷ [];
}

two_entries : weighted_at 0x41 (0x9A ∷ 0x34 ∷ 0x33 ∷ 0x40 ∷ 0x20 ∷ 0x20 ∷ 0x3F ∷ 0x8C ∷ 0x26 ∷ 0x03 ∷ 0xF8 ∷ 0x02 ∷ 0x02 ∷ 0x60 ∷ [])
    ≡ Ok (record of_p { active_override = Some 1; num_ref_idx_active = 2; pred_weight_table = Some table_of_two; position = 106 })
two_entries = refl

-- what is not coded is 2 ^ 5 at the denominator 5, and no offset
abbrev by : ℕ → ℤ → ℤ → Weight
by log2_denom weight offset = record { log2_denom = log2_denom; weight = weight; offset = offset }

weights_of_two : weights (record of_p { pred_weight_table = Some table_of_two })
    ≡ record { luma = by 5 (pos 32) (pos 0); cb = by 2 (negsuc 127) (pos 127); cr = by 2 (pos 3) (negsuc 3) }
    ∷ record { luma = by 5 (pos 127) (negsuc 127); cb = by 2 (pos 4) (pos 0); cr = by 2 (pos 4) (pos 0) } ∷ []
weights_of_two = refl

-- the two denominators, a weight of 128, and an offset below -128
refused_weights :
    (weighted_at 0x41 (0x9A ∷ 0x20 ∷ 0x98 ∷ 0xC0 ∷ []) ≡ Err faults.OutOfRange)
    × (weighted_at 0x41 (0x9A ∷ 0x24 ∷ 0x48 ∷ 0xC0 ∷ []) ≡ Err faults.OutOfRange)
    × (weighted_at 0x41 (0x9A ∷ 0x20 ∷ 0x8C ∷ 0x02 ∷ 0x01 ∷ 0x30 ∷ []) ≡ Err faults.OutOfRange)
    × (weighted_at 0x41 (0x9A ∷ 0x20 ∷ 0x8C ∷ 0x07 ∷ 0xF0 ∷ 0x04 ∷ 0x0C ∷ 0xC0 ∷ []) ≡ Err faults.OutOfRange)
refused_weights = (refl, refl, refl, refl)

-- an I slice has no table
intra_unweighted : weighted_at 0x65 (0x88 ∷ 0x84 ∷ 0x93 ∷ 0xC0 ∷ []) ≡ header_at 0x65 (0x88 ∷ 0x84 ∷ 0x93 ∷ 0xC0 ∷ [])
intra_unweighted = refl

-- ---- what is answered where a part is not read

pub fills_fault : {V : Type 0} (result : Result (Prim.Unit {0}) Fault) (place : V) (part : Read V) (old new : BitReader) (fault : Fault) → IsErrAnd result (λ e. e ≡ fault)
    → part (reader_bits old) ≡ Err fault → Fills result place part old new
fills_fault (Ok done) place part old new fault given e = absurd given
fills_fault (Err why) place part old new fault given e = e ∙ ap Err (sym given)

pub filled_fault : {V : Type 0} (result : Result (Prim.Unit {0}) Fault) (place : V) (read : Result V Fault) (fault : Fault) → IsErrAnd result (λ e. e ≡ fault) → read ≡ Err fault → filled result place ≡ read
filled_fault (Ok done) place read fault given e = absurd given
filled_fault (Err why) place read fault given e = ap Err given ∙ sym e

pub filled_by : (result : Result (Prim.Unit {0}) Fault) (place : Header) (part : Read Header) (old new : BitReader) (whole : Result Header Fault) → Fills result place part old new
    → value_or_fault (part (reader_bits old)) ≡ whole → filled result place ≡ whole
filled_by (Ok done) place part old new whole given is = sym (ap value_or_fault given.0) ∙ is
filled_by (Err why) place part old new whole given is = sym (ap value_or_fault given) ∙ is

-- what the tests ask of first_mb_in_slice
pub in_picture : (first most size : ℕ) → first < most → most ≡ size → nat_lt first size ≡ true
in_picture first most size low is = rw (← is) (le-leb (suc first) most low)
