-- Macroblocks are read and told one after another, and units.
pub mod Common
unfoldable pub use Common.*

-- ---- what the row says of the macroblocks before

counted : (mbs : List PicMb) (known : List Derived) (info : List NeighbourInfo) → Tells mbs known info → length mbs ≡ length info
counted mbs known info t = sym (length-map mbs (λ m. m.slice)) ∙ ap length t.slices ∙ length-map info (λ f. f.slice)

tells_more : (mbs : List PicMb) (known : List Derived) (info : List NeighbourInfo) (m : PicMb) (d : Derived) (f : NeighbourInfo) → Tells mbs known info → f.slice ≡ m.slice
    → f.total_coeffs ≡ total_coeffs_of m.mb.syntax → f.modes ≡ d.modes → f.motion ≡ d.motion → Tells (mbs ++ m ∷ []) (known ++ d ∷ []) (info ++ f ∷ [])
tells_more mbs known info m d f t slice total modes motion = record {
  slices = rw (map-append (λ n. n.slice) mbs, map-append (λ g. g.slice) info, t.slices, slice) refl;
  total_coeffs = rw (map-append (λ n. total_coeffs_of n.mb.syntax) mbs, map-append (λ g. g.total_coeffs) info, t.total_coeffs, total) refl;
  modes = rw (map-append (λ e. e.modes) known, map-append (λ g. g.modes) info, t.modes, modes) refl;
  motion = rw (map-append (λ e. e.motion) known, map-append (λ g. g.motion) info, t.motion, motion) refl;
}

pub behind_more : (s : SliceStart) (before : List PicMb) (known : List Derived) (slice : ℕ) (row new : PictureInfo) (mb : Mb) (d : Derived) (f : NeighbourInfo) → IsBehind s before known slice row
    → new ≡ with_info row f → f.slice ≡ slice → f.total_coeffs ≡ total_coeffs_of mb.syntax → f.modes ≡ d.modes → f.motion ≡ d.motion
    → IsBehind s (before ++ placed s mb ∷ []) (known ++ d ∷ []) slice new
behind_more s before known slice row new mb d f b is of_slice total modes motion =
    subst (IsBehind s (before ++ placed s mb ∷ []) (known ++ d ∷ []) slice) (sym is) (record {
      wide = b.wide;
      width = b.width;
      slice_is = b.slice_is;
      tells = tells_more before known row.info (placed s mb) d f b.tells (of_slice ∙ sym b.slice_is) total modes motion;
    })

pub left_is : TotalCoeffsAreFound → (s : SliceStart) (before : List PicMb) (known : List Derived) (slice : ℕ) (row : PictureInfo) → IsBehind s before known slice row
    → option_map (λ f. f.total_coeffs) (mb_a row slice) ≡ left_total_coeffs s before
left_is found s before known slice row b =
    let told = found before row slice b.wide ([], (b.tells.slices ∙ sym (append-nil (map (λ f. f.slice) row.info)))) ([], (b.tells.total_coeffs ∙ sym (append-nil (map (λ f. f.total_coeffs) row.info)))) in
    sym told.0 ∙ rw (← counted before known row.info b.tells, ← b.width, ← b.slice_is) refl

pub up_is : TotalCoeffsAreFound → (s : SliceStart) (before : List PicMb) (known : List Derived) (slice : ℕ) (row : PictureInfo) → IsBehind s before known slice row
    → option_map (λ f. f.total_coeffs) (mb_b row slice) ≡ up_total_coeffs s before
up_is found s before known slice row b =
    let told = found before row slice b.wide ([], (b.tells.slices ∙ sym (append-nil (map (λ f. f.slice) row.info)))) ([], (b.tells.total_coeffs ∙ sym (append-nil (map (λ f. f.total_coeffs) row.info)))) in
    sym told.1 ∙ rw (← counted before known row.info b.tells, ← b.width, ← b.slice_is) refl

-- ---- what follows for the next macroblock from its neighbours

next_placed : (s : SliceStart) (before : List PicMb) (known : List Derived) (slice : ℕ) (row : PictureInfo) (mb : Mb) → IsBehind s before known slice row
    → IsNext (before ++ placed s mb ∷ []) row slice
next_placed s before known slice row mb b = record {
  wide = b.wide;
  slices = (s.slice ∷ [], map-append (λ m. m.slice) before (placed s mb ∷ []) ∙ ap (λ l. l ++ s.slice ∷ []) b.tells.slices);
  next =
      ap (λ n. option_map (λ m. m.slice) (slice_get (before ++ placed s mb ∷ []) n)) (sym (counted before known row.info b.tells))
      ∙ ap (option_map (λ m. m.slice)) (slice_get-next before (placed s mb) [])
      ∙ ap Some b.slice_is;
}

same_derived : (d : Derived) (modes : List NearMode) (motion : List Motion) → d.modes ≡ modes → d.motion ≡ motion → d ≡ record { modes = modes; motion = motion }
same_derived d modes motion is_modes is_motion = ap (λ x. record { modes = x; motion = d.motion }) is_modes ∙ ap (λ x. record { modes = modes; motion = x }) is_motion

pub derived_is : MotionIsFound → ModesAreFound → (constrained : Bool) (s : SliceStart) (before : List PicMb) (known : List Derived) (slice : ℕ) (row : PictureInfo) (n : Around) (mb : Mb) (d : Derived)
    → IsBehind s before known slice row → HasRems mb.syntax → n ≡ around row slice → IsDerived n constrained mb.syntax d → d ≡ derived_of constrained s before known mb
derived_is found found_modes constrained s before known slice row n mb d b rems is given =
    let next = next_placed s before known slice row mb b in
    let mbs = before ++ placed s mb ∷ [] in
    let c = coded_up_to constrained s mbs in
    let here = around row slice in
    let h = subst (λ m. IsDerived m constrained mb.syntax d) is given in
    let address : length row.info ≡ length before = sym (counted before known row.info b.tells) in
    let near =
    subst (λ w. MotionIsAround here mbs w (map (λ e. e.motion) known) (length before)) (sym b.width)
    (subst (λ k. MotionIsAround here mbs row.width k (length before)) (sym b.tells.motion)
    (subst (λ a. MotionIsAround here mbs row.width (map (λ f. f.motion) row.info) a) address (found mbs row slice next))) in
    let near_modes =
    subst (λ w. ModesAreAround here mbs w (map (λ e. e.modes) known) (length before)) (sym b.width)
    (subst (λ k. ModesAreAround here mbs row.width k (length before)) (sym b.tells.modes)
    (subst (λ a. ModesAreAround here mbs row.width (map (λ f. f.modes) row.info) a) address (found_modes mbs row slice next))) in
    let motion = h.motion_is c (map (λ e. e.motion) known) (length before) near in
    let modes = h.modes_are rems c (map (λ e. e.modes) known) (length before) refl near_modes in
    same_derived d (modes_of c (map (λ e. e.modes) known) (length before) mb.syntax) (had (motion_of c (map (λ e. e.motion) known) (length before) mb.syntax)) modes motion

pub rem_more : (coded : List (Option ℕ)) (i : ℕ) → ((k : ℕ) → k < i → IsRem (slice_index_or coded k None)) → IsRem (slice_index_or coded i None)
    → (k : ℕ) → k < i + 1 → IsRem (slice_index_or coded k None)
rem_more coded i before here k within = by (nat_lt k i) refl
  where
    by : (less : Bool) → nat_lt k i ≡ less → IsRem (slice_index_or coded k None)
    by true e =
        let low : k < i = grind (arith, nat_tests, e) in
        before k low
    by false e =
        let same : i ≡ k = grind (arith, nat_tests, e) in
        subst (λ n. IsRem (slice_index_or coded n None)) same here

pub has_rems : (active : ℕ) (syntax : MbSyntax) → IsSyntax active syntax → HasRems syntax
has_rems active p_skip range = tt
has_rems active (i_pcm luma cb cr) range = tt
has_rems active (i_nxn modes chroma_mode r) range = each modes range.0
  where
    one : (m : Option ℕ) → IfSome m (λ rem. rem ≤ 7) → IsRem m
    one None is = tt
    one (Some rem) is = is

    each : (ms : List (Option ℕ)) → All (λ m. IfSome m (λ rem. rem ≤ 7)) ms → All IsRem ms
    each ms are = λ k d within. one (slice_index_or ms k d) (are k d within)
has_rems active (i_16x16 mode chroma_mode r) range = tt
has_rems active (p_inter mb_type ref_idx mvd r) range = tt

derived_append : (c : Bool) (s : SliceStart) (before : List PicMb) (known : List Derived) (a b : List Mb)
    → all_derived c s before known (a ++ b) ≡ all_derived c s before known a ++ all_derived c s (before ++ map (placed s) a) (known ++ all_derived c s before known a) b
derived_append c s before known [] b =
    ap (λ l. all_derived c s l known b) (sym (append-nil before)) ∙ ap (λ k. all_derived c s (before ++ []) k b) (sym (append-nil known))
derived_append c s before known (mb ∷ a) b =
    let d = derived_of c s before known mb in
    let front = before ++ placed s mb ∷ [] in
    let more = known ++ d ∷ [] in
    ap (λ l. d ∷ l) (derived_append c s front more a b
    ∙ ap (λ l. all_derived c s front more a ++ all_derived c s l (more ++ all_derived c s front more a) b) (append_assoc before (placed s mb ∷ []) (map (placed s) a))
    ∙ ap (λ k. all_derived c s front more a ++ all_derived c s (before ++ placed s mb ∷ map (placed s) a) k b) (append_assoc known (d ∷ []) (all_derived c s front more a)))

-- ---- macroblocks are told one after another

behind_twice : (place : MacroblockPlace) (a b : ℕ) → behind (behind place a) b ≡ behind place (a + b)
behind_twice place a b = ap (λ n. record { unit = place.unit; slice = place.slice; address = n }) (omega arith)

behind_none : (place : MacroblockPlace) → behind place 0 ≡ place
behind_none place = ap (λ n. record { unit = place.unit; slice = place.slice; address = n }) (omega arith)

lines_more : (form : Form) (place : MacroblockPlace) (c : Bool) (s : SliceStart) (before : List PicMb) (known : List Derived) (a b : List Mb)
    → mb_lines form place (a ++ b) (all_derived c s before known (a ++ b))
    ≡ mb_lines form place a (all_derived c s before known a)
    ++ mb_lines form (behind place (length a)) b (all_derived c s (before ++ map (placed s) a) (known ++ all_derived c s before known a) b)
lines_more form place c s before known [] b =
    ap (λ p. mb_lines form p b (all_derived c s before known b)) (sym (behind_none place))
    ∙ ap (λ l. mb_lines form (behind place 0) b (all_derived c s l known b)) (sym (append-nil before))
    ∙ ap (λ k. mb_lines form (behind place 0) b (all_derived c s (before ++ []) k b)) (sym (append-nil known))
lines_more form place c s before known (mb ∷ a) b =
    let d = derived_of c s before known mb in
    let front = before ++ placed s mb ∷ [] in
    let more = known ++ d ∷ [] in
    let here = form.of_macroblock place mb d in
    let others = all_derived c s front more a in
    let lines = mb_lines form (behind place 1) a others in
    ap (λ l. here ++ l) (lines_more form (behind place 1) c s front more a b)
    ∙ sym (append_assoc here lines (mb_lines form (behind (behind place 1) (length a)) b (all_derived c s (front ++ map (placed s) a) (more ++ others) b)))
    ∙ ap (λ p. (here ++ lines) ++ mb_lines form p b (all_derived c s (front ++ map (placed s) a) (more ++ others) b)) (behind_twice place 1 (length a) ∙ ap (behind place) (omega arith))
    ∙ ap (λ l. (here ++ lines) ++ mb_lines form (behind place (length (mb ∷ a))) b (all_derived c s l (more ++ others) b)) (append_assoc before (placed s mb ∷ []) (map (placed s) a))
    ∙ ap (λ k. (here ++ lines) ++ mb_lines form (behind place (length (mb ∷ a))) b (all_derived c s (before ++ placed s mb ∷ map (placed s) a) k b)) (append_assoc known (d ∷ []) others)

-- So many were read: the rest of the data stands behind them, and their lines are added.
pub record IsReadSoFar (form : Form) (place : MacroblockPlace) (c : Bool) (s : SliceStart) (before : List PicMb) (known : List Derived) (first now : SliceData) (row : PictureInfo) (turn : ℕ) (old new : List ℕ) : Type 0 where
  pub done : List Mb
  pub count : length done ≡ turn
  pub rest : rest_of s before first ≡ after done (rest_of s (before ++ map (placed s) done) now)
  pub follows : Follows s (before ++ map (placed s) done) now
  pub stands : IsBehind s (before ++ map (placed s) done) (known ++ all_derived c s before known done) place.slice row
  pub added : new ≡ old ++ mb_lines form place done (all_derived c s before known done)

-- the same whatever was before
abbrev pub ReadsSoFar : Form → MacroblockPlace → Bool → (first now : SliceData) → (row_first row : PictureInfo) → (turn : ℕ) → (old new : List ℕ) → Type 0
ReadsSoFar form place c first now row_first row turn old new =
    (s : SliceStart) (before : List PicMb) (known : List Derived) → IsBehind s before known place.slice row_first → Follows s before first
    → IsReadSoFar form place c s before known first now row turn old new

-- what the next call hands out
abbrev pub HandsOut : MacroblockPlace → (row : PictureInfo) → Result (Option Mb) Fault → (now next : SliceData) → Type 0
HandsOut place row handed now next =
    (s : SliceStart) (before : List PicMb) (known : List Derived) → IsBehind s before known place.slice row → Follows s before now → IsHandedOut s before handed now next

pub none_read : (form : Form) (place : MacroblockPlace) (c : Bool) (first : SliceData) (row : PictureInfo) (old : List ℕ) → ReadsSoFar form place c first first row row 0 old old
none_read form place c first row old = λ s before known b f. record {
  done = [];
  count = refl;
  rest = ap (λ l. rest_of s l first) (sym (append-nil before));
  follows = subst (λ l. Follows s l first) (sym (append-nil before)) f;
  stands = subst (λ l. IsBehind s l (known ++ []) place.slice row) (sym (append-nil before)) (subst (λ k. IsBehind s before k place.slice row) (sym (append-nil known)) b);
  added = sym (append-nil old);
}

behind_all : (s : SliceStart) (before : List PicMb) (done : List Mb) (mb : Mb) → (before ++ map (placed s) done) ++ placed s mb ∷ [] ≡ before ++ map (placed s) (done ++ mb ∷ [])
behind_all s before done mb = append_assoc before (map (placed s) done) (placed s mb ∷ []) ∙ ap (λ l. before ++ l) (sym (map-append (placed s) done (mb ∷ [])))

after_twice : (a b : List Mb) (rest : SliceMbs) → after a (after b rest) ≡ after (a ++ b) rest
after_twice a b rest = ap (λ l. record { mbs = l; fault = rest.fault }) (sym (append_assoc a b rest.mbs))

pub one_read : (form : Form) (place : MacroblockPlace) (c : Bool) (first now next : SliceData) (row_first row row_next : PictureInfo) (turn : ℕ) (old mid new : List ℕ) (mb : Mb) (d : Derived) (f : NeighbourInfo)
    → ReadsSoFar form place c first now row_first row turn old mid
    → HandsOut place row (Ok (Some mb)) now next
    → ((s : SliceStart) (before : List PicMb) (known : List Derived) → IsBehind s before known place.slice row → HasRems mb.syntax → d ≡ derived_of c s before known mb)
    → row_next ≡ with_info row f → f.slice ≡ place.slice → f.total_coeffs ≡ total_coeffs_of mb.syntax → f.modes ≡ d.modes → f.motion ≡ d.motion
    → new ≡ mid ++ form.of_macroblock (behind place turn) mb d
    → ReadsSoFar form place c first next row_first row_next (turn + 1) old new
one_read form place c first now next row_first row row_next turn old mid new mb d f reads hands derives put of_slice total modes motion told = λ s before known b follows.
    let r = reads s before known b follows in
    let so_far = before ++ map (placed s) r.done in
    let derived = all_derived c s before known r.done in
    let h = hands s so_far (known ++ derived) r.stands r.follows in
    let is : d ≡ derived_of c s so_far (known ++ derived) mb = derives s so_far (known ++ derived) r.stands (has_rems s.num_ref_idx_active mb.syntax h.2.range) in
    let all = behind_all s before r.done mb in
    let all_known : (known ++ derived) ++ d ∷ [] ≡ known ++ all_derived c s before known (r.done ++ mb ∷ []) =
    append_assoc known derived (d ∷ []) ∙ ap (λ x. known ++ (derived ++ x ∷ [])) is ∙ ap (λ l. known ++ l) (sym (derived_append c s before known r.done (mb ∷ []))) in
    let lines = mb_lines form place r.done derived in
    record {
      done = r.done ++ mb ∷ [];
      count = length-append r.done (mb ∷ []) ∙ ap (λ n. n + 1) r.count;
      rest =
          r.rest ∙ ap (after r.done) h.0 ∙ after_twice r.done (mb ∷ []) (rest_of s (so_far ++ placed s mb ∷ []) next)
          ∙ ap (λ l. after (r.done ++ mb ∷ []) (rest_of s l next)) all;
      follows = subst (λ l. Follows s l next) all h.1;
      stands =
          subst (λ l. IsBehind s l (known ++ all_derived c s before known (r.done ++ mb ∷ [])) place.slice row_next) all
          (subst (λ k. IsBehind s (so_far ++ placed s mb ∷ []) k place.slice row_next) all_known
          (behind_more s so_far (known ++ derived) place.slice row row_next mb d f r.stands put of_slice total modes motion));
      added =
          told ∙ ap (λ l. l ++ form.of_macroblock (behind place turn) mb d) r.added
          ∙ append_assoc old lines (form.of_macroblock (behind place turn) mb d)
          ∙ ap (λ n. old ++ (lines ++ form.of_macroblock (behind place n) mb d)) (sym r.count)
          ∙ ap (λ x. old ++ (lines ++ form.of_macroblock (behind place (length r.done)) mb x)) is
          ∙ ap (λ l. old ++ (lines ++ l)) (sym (append-nil (form.of_macroblock (behind place (length r.done)) mb (derived_of c s so_far (known ++ derived) mb))))
          ∙ ap (λ l. old ++ l) (sym (lines_more form place c s before known r.done (mb ∷ [])));
    }

-- The data has ended, or a fault came.
closed : (form : Form) (place : MacroblockPlace) (c : Bool) (s : SliceStart) (before : List PicMb) (known : List Derived) (first now : SliceData) (row : PictureInfo) (turn : ℕ) (old mid new : List ℕ) (fault : Option Fault)
    → (r : IsReadSoFar form place c s before known first now row turn old mid) → rest_of s (before ++ map (placed s) r.done) now ≡ record { mbs = []; fault = fault }
    → new ≡ mid ++ line_of_fault form (behind place turn) fault → AreRead form place c s before known (rest_of s before first) turn row old new
closed form place c s before known first now row turn old mid new fault r is told =
    let whole : rest_of s before first ≡ record { mbs = r.done; fault = fault } =
    r.rest ∙ ap (after r.done) is ∙ ap (λ l. record { mbs = l; fault = fault }) (append-nil r.done) in
    let lines = mb_lines form place r.done (all_derived c s before known r.done) in
    subst (λ ms. AreRead form place c s before known ms turn row old new) (sym whole) (record {
      counted = r.count;
      stands = r.stands;
      added =
          told ∙ ap (λ l. l ++ line_of_fault form (behind place turn) fault) r.added
          ∙ append_assoc old lines (line_of_fault form (behind place turn) fault)
          ∙ ap (λ n. old ++ (lines ++ line_of_fault form (behind place n) fault)) (sym r.count);
    })

pub all_read : (form : Form) (place : MacroblockPlace) (c : Bool) (first now next : SliceData) (row_first row : PictureInfo) (turn count : ℕ) (old new : List ℕ) → count ≡ turn
    → ReadsSoFar form place c first now row_first row turn old new → HandsOut place row (Ok None) now next
    → (s : SliceStart) (before : List PicMb) (known : List Derived) → IsBehind s before known place.slice row_first → Follows s before first
    → AreRead form place c s before known (rest_of s before first) count row old new
all_read form place c first now next row_first row turn count old new same reads hands s before known b follows =
    let r = reads s before known b follows in
    let h = hands s (before ++ map (placed s) r.done) (known ++ all_derived c s before known r.done) r.stands r.follows in
    subst (λ n. AreRead form place c s before known (rest_of s before first) n row old new) (sym same)
    (closed form place c s before known first now row turn old new new None r h.0 (sym (append-nil new)))

pub fault_read : (form : Form) (place : MacroblockPlace) (c : Bool) (first now next : SliceData) (row_first row : PictureInfo) (turn count : ℕ) (old mid new : List ℕ) (f : Fault) → count ≡ turn
    → ReadsSoFar form place c first now row_first row turn old mid → HandsOut place row (Err f) now next
    → new ≡ mid ++ form.of_fault (behind place turn) f
    → (s : SliceStart) (before : List PicMb) (known : List Derived) → IsBehind s before known place.slice row_first → Follows s before first
    → AreRead form place c s before known (rest_of s before first) count row old new
fault_read form place c first now next row_first row turn count old mid new f same reads hands told s before known b follows =
    let r = reads s before known b follows in
    let h = hands s (before ++ map (placed s) r.done) (known ++ all_derived c s before known r.done) r.stands r.follows in
    subst (λ n. AreRead form place c s before known (rest_of s before first) n row old new) (sym same)
    (closed form place c s before known first now row turn old mid new (Some f) r h.0 told)

-- No more can be read than remain.
pub too_many : (form : Form) (place : MacroblockPlace) (c : Bool) (first now : SliceData) (row_first row : PictureInfo) (turn remaining : ℕ) (old new : List ℕ)
    → ReadsSoFar form place c first now row_first row turn old new → remaining + 1 ≤ turn
    → (s : SliceStart) (before : List PicMb) (known : List Derived) → s.size ≡ length before + remaining → IsBehind s before known place.slice row_first → Follows s before first → ⊥
too_many form place c first now row_first row turn remaining old new reads past s before known size b follows =
    let r = reads s before known b follows in
    let long : length (before ++ map (placed s) r.done) ≡ length before + turn =
    length-append before (map (placed s) r.done) ∙ ap (λ n. length before + n) (length-map r.done (placed s) ∙ r.count) in
    omega (arith, size, past, long, r.follows.size)

-- ---- the sets that a slice names

none_is : {A : Type 0} {x : A} → ◌≡◌ {A = Option A} (Some x) None → ⊥
none_is wrong = cc

pub some_is : {A : Type 0} (x y : A) → ◌≡◌ {A = Option A} (Some x) (Some y) → x ≡ y
some_is x y e = cc

pub within_named : (sets : Sets) (slice : Slice) (pps : Pps) (sps : Sps) → IsReadUnder sets slice.rbsp slice.header → sets.pps (slice.header).pic_parameter_set_id ≡ Some pps
    → sets.sps pps.seq_parameter_set_id ≡ Some sps → IsHeader sps pps slice.rbsp slice.header
within_named sets slice pps sps t ep es =
    let p : t.pps ≡ pps = some_is t.pps pps (sym t.pps_is ∙ ep) in
    let s : t.sps ≡ sps = some_is t.sps sps (sym t.sps_is ∙ ap (λ (q : Pps). sets.sps q.seq_parameter_set_id) p ∙ es) in
    rw (p, s) at t.within

-- ---- a slice of a picture

pub begins_data : (p : OpenPicture) (pps : Pps) (s : Slice) (c : Picture) → IsPicture p c → IsBehind (start_of p pps s.header) p.mbs p.known c.slices c.row
begins_data p pps s c h = record {
  wide = subst (λ n. 0 < n) (sym h.width) h.wide;
  width = sym h.width;
  slice_is = sym h.slices;
  tells = h.tells;
}

where_none : (next first : ℕ) (ms : SliceMbs) → address_fault next first ≡ None → where_next next first ms ≡ ms
where_none next first ms none = by (nat_lt next first) (nat_lt first next) none
  where
    by : (before behind : Bool) → ◌≡◌ {A = Option Fault} (if before then Some MissingMacroblocks else if behind then Some ArbitrarySliceOrder else None) None
        → (if before then stopped MissingMacroblocks else if behind then stopped ArbitrarySliceOrder else ms) ≡ ms
    by true behind wrong = absurd (none_is wrong)
    by false true wrong = absurd (none_is wrong)
    by false false none = refl

slices_more : (mbs : List Mb) (count n slices now : ℕ) → length mbs ≡ count → n ≡ slices → (count ≡ 0 → now ≡ n) → (0 < count → now ≡ n + 1) → now ≡ one_slice_more slices mbs
slices_more [] count n slices now counted is none some = none (sym counted) ∙ is
slices_more (mb ∷ mbs) count n slices now counted is none some = some (omega (arith, counted)) ∙ ap (λ m. m + 1) is

few_more : (mbs : List Mb) (slices before : ℕ) → slices ≤ before → one_slice_more slices mbs ≤ before + length mbs
few_more [] slices before few = omega (arith, few)
few_more (mb ∷ mbs) slices before few = omega (arith, few)

-- the picture behind a slice of it whose macroblocks were read, and their lines
slice_told : (form : Form) (p : OpenPicture) (pps : Pps) (s : Slice) (c now : Picture) (d : SliceData) (remaining count address : ℕ) (old new : List ℕ) → IsPicture p c → c.size < 2 ^ 32
    → address ≡ c.next → remaining ≡ c.size - c.next → address_fault c.next (s.header).first_mb_in_slice ≡ None
    → ((q : OpenPicture) → q.size ≡ length q.mbs + remaining → IsDataIn q pps s d) → count ≤ remaining
    → ((start : SliceStart) (before : List PicMb) (known : List Derived) → start.size ≡ length before + remaining → IsBehind start before known c.slices c.row → Follows start before d
    → AreRead form (record { unit = s.unit; slice = c.slices; address = address }) pps.constrained_intra_pred_flag start before known (rest_of start before d) count now.row old new)
    → now.last ≡ c.last → now.size ≡ c.size → (count ≡ 0 → now.slices ≡ c.slices) → (0 < count → c.slices < 2 ^ 32 - 1 → now.slices ≡ c.slices + 1)
    → now.next ≡ min (c.next + count) (2 ^ 32 - 1) → IsSliceTold form p pps s now old new
slice_told form p pps s c now d remaining count address old new h fits at left none begun few reads last size no_more one next =
    let start = start_of p pps s.header in
    let room : p.size ≡ length p.mbs + remaining = omega (arith, left, h.size, h.next, h.within) in
    let is_data = begun p room in
    let ms = macroblocks_of p pps s in
    let all : rest_of start p.mbs d ≡ ms =
    is_data.1 ∙ sym (where_none (length p.mbs) (s.header).first_mb_in_slice (data_of p pps s) (ap (λ n. address_fault n (s.header).first_mb_in_slice) (sym h.next) ∙ none)) in
    let place : ◌≡◌ {A = MacroblockPlace} (record { unit = s.unit; slice = c.slices; address = address }) (first_place s.unit p) =
    ap (λ n. record { unit = s.unit; slice = n; address = address }) h.slices ∙ ap (λ n. record { unit = s.unit; slice = p.slices; address = n }) (at ∙ h.next) in
    let r =
    subst (λ m. AreRead form (first_place s.unit p) pps.constrained_intra_pred_flag start p.mbs p.known m count now.row old new) all
    (subst (λ q. AreRead form q pps.constrained_intra_pred_flag start p.mbs p.known (rest_of start p.mbs d) count now.row old new) place
    (reads start p.mbs p.known room (begins_data p pps s c h) is_data.0)) in
    let long : length (p.mbs ++ map (placed start) ms.mbs) ≡ length p.mbs + count =
    length-append p.mbs (map (placed start) ms.mbs) ∙ ap (λ n. length p.mbs + n) (length-map ms.mbs (placed start) ∙ r.counted) in
    record {
      stands = record {
        last = last ∙ h.last;
        wide = h.wide;
        width = sym r.stands.width;
        size = size ∙ h.size;
        slices = slices_more ms.mbs count c.slices p.slices now.slices r.counted h.slices no_more (λ some. one some (omega (arith, some, fits, few, left, h.slices, h.few, h.next)));
        few = rw (long, ← r.counted) (few_more ms.mbs p.slices (length p.mbs) h.few);
        next = next ∙ omega (arith, fits, few, left, long, h.next);
        within = omega (arith, long, few, left, h.size, h.next, h.within);
        tells = r.stands.tells;
      };
      added = r.added;
    }

-- the same in the form of what is asked for, by the width of the picture
pub slice_told_in : (a : Asked) (p : OpenPicture) (pps : Pps) (s : Slice) (c now : Picture) (d : SliceData) (remaining count address : ℕ) (old new : List ℕ) → IsPicture p c → c.size < 2 ^ 32
    → address ≡ c.next → remaining ≡ c.size - c.next → address_fault c.next (s.header).first_mb_in_slice ≡ None
    → ((q : OpenPicture) → q.size ≡ length q.mbs + remaining → IsDataIn q pps s d) → count ≤ remaining
    → ((start : SliceStart) (before : List PicMb) (known : List Derived) → start.size ≡ length before + remaining → IsBehind start before known c.slices c.row → Follows start before d
    → AreRead (form_in a c.row.width) (record { unit = s.unit; slice = c.slices; address = address }) pps.constrained_intra_pred_flag start before known (rest_of start before d) count now.row old new)
    → now.last ≡ c.last → now.size ≡ c.size → (count ≡ 0 → now.slices ≡ c.slices) → (0 < count → c.slices < 2 ^ 32 - 1 → now.slices ≡ c.slices + 1)
    → now.next ≡ min (c.next + count) (2 ^ 32 - 1) → IsSliceTold (form_in a p.width) p pps s now old new
slice_told_in a p pps s c now d remaining count address old new h fits at left none begun few reads last size no_more one next =
    subst (λ w. IsSliceTold (form_in a w) p pps s now old new) h.width
    (slice_told (form_in a c.row.width) p pps s c now d remaining count address old new h fits at left none begun few reads last size no_more one next)

-- what was read in the form of a width is told in that of the same
pub widened : {place : MacroblockPlace} {c : Bool} {s : SliceStart} {before : List PicMb} {known : List Derived} {ms : SliceMbs} {count : ℕ} {row : PictureInfo} {old new : List ℕ}
    (a : Asked) (width same : ℕ) → width ≡ same → AreRead (form_in a width) place c s before known ms count row old new → AreRead (form_in a same) place c s before known ms count row old new
widened {place} {c} {s} {before} {known} {ms} {count} {row} {old} {new} a width same is h = subst (λ w. AreRead (form_in a w) place c s before known ms count row old new) is h

-- ---- the picture that is asked for

pub chosen_is : (s : Selection) (number unit : ℕ) → is_chosen (choice_at s number unit) ≡ is_listed s number unit
chosen_is Whole number unit = refl
chosen_is (Near m) number unit = by (m.unit == unit)
  where
    by : (here : Bool) → is_chosen (if here then Each else Past) ≡ here
    by true = refl
    by false = refl
chosen_is (OfPicture asked) number unit = by (nat_lt asked number) refl
  where
    by : (past : Bool) → nat_lt asked number ≡ past → is_chosen (if past then Past else Later (asked - number)) ≡ (asked == number)
    by true e = grind (arith, nat_tests, e)
    by false e = grind (arith, nat_tests, e)

come_is : (asked number unit : ℕ) → has_come (choice_at (OfPicture asked) number unit) ≡ nat_lt asked (number + 1)
come_is asked number unit = by (nat_lt asked number) refl
  where
    by : (past : Bool) → nat_lt asked number ≡ past → has_come (if past then Past else Later (asked - number)) ≡ nat_lt asked (number + 1)
    by true e = grind (arith, nat_tests, e)
    by false e = grind (arith, nat_tests, e)

-- whether the picture of this number has come by what is kept
abbrev pub come : Option Picture → Bool
come None = false
come (Some c) = has_come c.choice

come_by : (asked : ℕ) (p : Option OpenPicture) (kept : Option Picture) → IsOpen (OfPicture asked) p kept → come kept ≡ nat_lt asked (pictures_begun p)
come_by asked None None is_open =
    let later : nat_lt asked 0 ≡ false = grind (arith, nat_tests) in
    sym later
come_by asked (Some p) (Some c) f = ap has_come f.choice_is ∙ come_is asked p.number p.unit
come_by asked None (Some c) is_open = absurd is_open
come_by asked (Some p) None is_open = absurd is_open

-- ---- units are told one after another

picture-append : (sets : List SetUnit) (p : Option OpenPicture) (us vs : List Unit) → picture_behind sets p (us ++ vs) ≡ picture_behind (sets ++ set_units us) (picture_behind sets p us) vs
picture-append sets p [] vs = ap (λ l. picture_behind l p vs) (sym (append-nil sets))
picture-append sets p (u ∷ us) vs =
    let first = picture_after p (brought (sets_after sets) p u) in
    picture-append (sets ++ set_units (u ∷ [])) first us vs
    ∙ ap (λ l. picture_behind l (picture_behind (sets ++ set_units (u ∷ [])) first us) vs) (sets_then sets u us)

lines-append : (a : Asked) (sets : List SetUnit) (p : Option OpenPicture) (us vs : List Unit)
    → lines_under a sets p (us ++ vs) ≡ lines_under a sets p us ++ lines_under a (sets ++ set_units us) (picture_behind sets p us) vs
lines-append a sets p [] vs = ap (λ l. lines_under a l p vs) (sym (append-nil sets))
lines-append a sets p (u ∷ us) vs =
    let b = brought (sets_after sets) p u in
    let first = picture_after p b in
    let now = sets ++ set_units (u ∷ []) in
    ap (λ l. unit_lines a u.index b ++ l)
    (lines-append a now first us vs ∙ ap (λ l. lines_under a now first us ++ lines_under a l (picture_behind now first us) vs) (sets_then sets u us))
    ∙ sym (append_assoc (unit_lines a u.index b) (lines_under a now first us) (lines_under a (sets ++ set_units (u ∷ us)) (picture_behind now first us) vs))

or_assoc : (a b c : Bool) → ((a || b) || c) ≡ (a || (b || c))
or_assoc true b c = refl
or_assoc false b c = refl

or_none : (a : Bool) → (a || false) ≡ a
or_none true = refl
or_none false = refl

met-append : (s : Selection) (sets : List SetUnit) (p : Option OpenPicture) (us vs : List Unit)
    → is_met_under s sets p (us ++ vs) ≡ (is_met_under s sets p us || is_met_under s (sets ++ set_units us) (picture_behind sets p us) vs)
met-append s sets p [] vs = ap (λ l. is_met_under s l p vs) (sym (append-nil sets))
met-append s sets p (u ∷ us) vs =
    let b = brought (sets_after sets) p u in
    let first = picture_after p b in
    let now = sets ++ set_units (u ∷ []) in
    ap (λ x. is_met_by s b || x)
    (met-append s now first us vs ∙ ap (λ l. is_met_under s now first us || is_met_under s l (picture_behind now first us) vs) (sets_then sets u us))
    ∙ sym (or_assoc (is_met_by s b) (is_met_under s now first us) (is_met_under s (sets ++ set_units (u ∷ us)) (picture_behind now first us) vs))

-- These units were taken, with the sets that they brought.
pub record IsListedSoFar (a : Asked) (before now : List SetUnit) (first kept : Option Picture) (had_met has_met : Bool) (text : List ℕ) (done : List Unit) : Type 0 where
  pub sets : now ≡ before ++ set_units done
  pub told : AreToldFrom a before first kept done had_met has_met [] text

pub none_listed : (a : Asked) (before : List SetUnit) (first : Option Picture) (had_met : Bool) (text : List ℕ) → text ≡ [] → IsListedSoFar a before before first first had_met had_met text []
none_listed a before first had_met text none = record { sets = sym (append-nil before); told = λ p h. record { stands = h; met = sym (or_none had_met); added = none } }

pub listed_more : (a : Asked) (before old new : List SetUnit) (first mid kept : Option Picture) (had_met mid_met has_met : Bool) (text more : List ℕ) (u : Unit) → new ≡ old ++ set_units (u ∷ [])
    → ((p : Option OpenPicture) → IsOpen a.selection p mid → IsTold a u.index p (brought (sets_after old) p u) kept mid_met has_met text more)
    → (done : List Unit) → IsListedSoFar a before old first mid had_met mid_met text done → IsListedSoFar a before new first kept had_met has_met more (done ++ u ∷ [])
listed_more a before old new first mid kept had_met mid_met has_met text more u put step done h = record {
  sets = set_units_more before old new u done put h.sets;
  told = λ p is_open.
      let here = h.told p is_open in
      let q = picture_behind before p done in
      let now = step q here.stands in
      let same : brought (sets_after old) q u ≡ brought (sets_after (before ++ set_units done)) q u = ap (λ l. brought (sets_after l) q u) h.sets in
      record {
        stands = subst (λ x. IsOpen a.selection x kept) (ap (picture_after q) same ∙ sym (picture-append before p done (u ∷ []))) now.stands;
        met =
            now.met ∙ ap (λ x. x || is_met_by a.selection (brought (sets_after old) q u)) here.met
            ∙ ap (λ b. (had_met || is_met_under a.selection before p done) || is_met_by a.selection b) same
            ∙ or_assoc had_met (is_met_under a.selection before p done) (is_met_by a.selection (brought (sets_after (before ++ set_units done)) q u))
            ∙ ap (λ x. had_met || (is_met_under a.selection before p done || x)) (sym (or_none (is_met_by a.selection (brought (sets_after (before ++ set_units done)) q u))))
            ∙ ap (λ x. had_met || x) (sym (met-append a.selection before p done (u ∷ [])));
        added =
            now.added ∙ ap (λ l. l ++ unit_lines a u.index (brought (sets_after old) q u)) here.added
            ∙ ap (λ b. lines_under a before p done ++ unit_lines a u.index b) same
            ∙ ap (λ l. lines_under a before p done ++ l) (sym (append-nil (unit_lines a u.index (brought (sets_after (before ++ set_units done)) q u))))
            ∙ sym (lines-append a before p done (u ∷ []));
      };
}

-- once more has come
pub listed_again : (a : Asked) (max : ℕ) (old mid new : SplitterState) (sets now : List SetUnit) (kept kept_now : Option Picture) (had_met has_met : Bool) (added : List ℕ) → AreListed a.selection max old sets kept had_met
    → AreLeft max old mid → new ≡ after_units_left max mid → now ≡ sets ++ set_units (units_left max mid) → AreToldFrom a sets kept kept_now (units_left max mid) had_met has_met [] added
    → AreListed a.selection max new now kept_now has_met
listed_again a max old mid new sets now kept kept_now had_met has_met added h left is put told =
    let us = units max old.bytes old.ended in
    let here = told (picture_behind [] None us) h.stands in
    let same : picture_behind sets (picture_behind [] None us) (units_left max mid) ≡ picture_behind [] None (units max new.bytes new.ended) =
    ap (λ l. picture_behind l (picture_behind [] None us) (units_left max mid)) h.sets_are
    ∙ sym (picture-append [] None us (units_left max mid))
    ∙ ap (picture_behind [] None) (sym left.all)
    ∙ ap (λ (s : SplitterState). picture_behind [] None (units max s.bytes s.ended)) (sym is) in
    record {
      drained = drained max old mid new left is;
      sets_are = sets_again max old mid new sets now h.sets_are left is put;
      stands = subst (λ p. IsOpen a.selection p kept_now) same here.stands;
      met =
          here.met ∙ ap (λ x. x || is_met_under a.selection sets (picture_behind [] None us) (units_left max mid)) h.met
          ∙ ap (λ l. is_met_under a.selection [] None us || is_met_under a.selection l (picture_behind [] None us) (units_left max mid)) h.sets_are
          ∙ sym (met-append a.selection [] None us (units_left max mid))
          ∙ ap (is_met_under a.selection [] None) (sym left.all)
          ∙ ap (λ (s : SplitterState). is_met_under a.selection [] None (units max s.bytes s.ended)) (sym is);
      in_range = h.in_range;
    }

lines_are : (a : Asked) (max : ℕ) (bytes : List ℕ) (ended : Bool) → length bytes ≤ max → lines_under a [] None (units max bytes ended) ≡ lines_so_far a bytes ended
lines_are a max bytes ended short = ap (lines_under a [] None) (whole_units max bytes ended short)

-- The lines of units that come to others come behind theirs.
lines_behind : (a : Asked) (max : ℕ) (bytes front : List ℕ) (ended front_ended : Bool) (others : List Unit) → length bytes ≤ max → length front ≤ max
    → units max bytes ended ≡ units max front front_ended ++ others
    → lines_so_far a bytes ended ≡ lines_so_far a front front_ended
    ++ lines_under a (set_units (units max front front_ended)) (picture_behind [] None (units max front front_ended)) others
lines_behind a max bytes front ended front_ended others short front_short is =
    let us = units max front front_ended in
    sym (lines_are a max bytes ended short) ∙ ap (lines_under a [] None) is ∙ lines-append a [] None us others
    ∙ ap (λ l. l ++ lines_under a (set_units us) (picture_behind [] None us) others) (lines_are a max front front_ended front_short)

pub lines_added : (a : Asked) (max : ℕ) (old mid new : SplitterState) (sets : List SetUnit) (kept kept_now : Option Picture) (had_met has_met : Bool) (text added : List ℕ) → AreListed a.selection max old sets kept had_met → AreLeft max old mid
    → new ≡ after_units_left max mid → AreToldFrom a sets kept kept_now (units_left max mid) had_met has_met [] text → added ≡ text → length new.bytes ≤ max
    → lines_so_far a new.bytes new.ended ≡ lines_so_far a old.bytes old.ended ++ added
lines_added a max old mid new sets kept kept_now had_met has_met text added h left is told out short =
    let us = units max old.bytes old.ended in
    let same : length new.bytes ≡ length mid.bytes = ap (λ (s : SplitterState). length s.bytes) is in
    let here = told (picture_behind [] None us) h.stands in
    ap (λ (s : SplitterState). lines_so_far a s.bytes s.ended) is
    ∙ lines_behind a max mid.bytes old.bytes mid.ended old.ended (units_left max mid) (omega (arith, short, same)) (omega (arith, short, same, left.no_fewer)) left.all
    ∙ ap (λ l. lines_so_far a old.bytes old.ended ++ lines_under a l (picture_behind [] None us) (units_left max mid)) (sym h.sets_are)
    ∙ ap (λ l. lines_so_far a old.bytes old.ended ++ l) (sym here.added ∙ sym out)

pub lines_grow : (a : Asked) → UnitsStay → OnlyGrows (lines_so_far a)
lines_grow a stay bytes more ended short =
    let later = stay (2 ^ 64) bytes more ended in
    (_, lines_behind a (2 ^ 64) (bytes ++ more) bytes ended false later.0 (omega (arith, short)) (omega (arith, short, length-append bytes more)) later.1)

-- ---- what a text is of, by its number

even : (n : ℕ) → ((2 * n) % 2 == 0) ≡ true
even n =
    let none : (2 * n) % 2 ≡ 0 = omega arith in
    rw none refl

odd : (n : ℕ) → ((2 * n + 1) % 2 == 0) ≡ false
odd n =
    let one : (2 * n + 1) % 2 ≡ 1 = omega arith in
    rw one refl

same_macroblock : (m : AtMacroblock) (unit address : ℕ) → unit ≡ m.unit → address ≡ m.address → ◌≡◌ {A = AtMacroblock} (record { unit = unit; address = address }) m
same_macroblock m unit address is_unit is_address = ap (λ u. record { unit = u; address = address }) is_unit ∙ ap (λ n. record { unit = m.unit; address = n }) is_address

macroblock_again : (m : AtMacroblock) → m.address < addresses → macroblock_of_text (m.unit * addresses + m.address) ≡ m
macroblock_again m low =
    same_macroblock m ((m.unit * addresses + m.address) / addresses) ((m.unit * addresses + m.address) % addresses) (omega (arith, low)) (omega (arith, low))

pub text_again : (s : Selection) → IsInRange s → selection_of_text (text_number s) ≡ s
text_again Whole range = refl
text_again (OfPicture number) range =
    let half : 2 * number / 2 ≡ number = omega arith in
    ap (λ (b : Bool). if b then OfPicture (2 * number / 2) else Near (macroblock_of_text (2 * number / 2))) (even number) ∙ ap OfPicture half
text_again (Near m) range =
    let n = m.unit * addresses + m.address in
    let half : (2 * n + 1) / 2 ≡ n = omega arith in
    ap (λ (b : Bool). if b then OfPicture ((2 * n + 1) / 2) else Near (macroblock_of_text ((2 * n + 1) / 2))) (odd n)
    ∙ ap (λ k. Near (macroblock_of_text k)) half
    ∙ ap Near (macroblock_again m range)

number_once : (p q : Selection) → IsInRange p → IsInRange q → text_number p ≡ text_number q → p ≡ q
number_once p q range_p range_q same = sym (text_again p range_p) ∙ ap selection_of_text same ∙ text_again q range_q

-- whether the picture that is asked for has begun
pub tells_begun : (asked : ℕ) (s : Selection) (max : ℕ) (state : SplitterState) (sets : List SetUnit) (kept : Option Picture) (has_met : Bool) → s ≡ OfPicture asked
    → AreListed s max state sets kept has_met → length state.bytes ≤ max → come kept ≡ has_picture s state.bytes state.ended
tells_begun asked s max state sets kept has_met is h short =
    let us = units max state.bytes state.ended in
    come_by asked (picture_behind [] None us) kept (subst (λ p. IsOpen p (picture_behind [] None us) kept) is h.stands)
    ∙ ap (λ us. nat_lt asked (pictures_begun (picture_behind [] None us))) (whole_units max state.bytes state.ended short)
    ∙ ap (λ p. has_picture p state.bytes state.ended) (sym is)

-- whether the macroblock has come
pub tells_met : (s : Selection) (max : ℕ) (state : SplitterState) (sets : List SetUnit) (kept : Option Picture) (met : Bool) → AreListed s max state sets kept met → length state.bytes ≤ max
    → met ≡ has_met s state.bytes state.ended
tells_met s max state sets kept met h short = h.met ∙ ap (is_met_under s [] None) (whole_units max state.bytes state.ended short)

pub tells_near : (m : AtMacroblock) (s : Selection) (max : ℕ) (state : SplitterState) (sets : List SetUnit) (kept : Option Picture) (met : Bool) → s ≡ Near m → AreListed s max state sets kept met
    → length state.bytes ≤ max → met ≡ has_picture s state.bytes state.ended
tells_near m s max state sets kept met is h short =
    tells_met s max state sets kept met h short ∙ ap (λ x. has_met x state.bytes state.ended) is ∙ sym (ap (λ x. has_picture x state.bytes state.ended) is)

-- ---- the picture has come as far as a macroblock

come_to : (m : AtMacroblock) (p : OpenPicture) (c : Picture) → IsFollowed (Near m) p c → has_come_to m c ≡ is_met (Near m) p
come_to m p c f = ap (λ u. m.unit == u && nat_lt m.address c.next) f.unit_is ∙ by (m.unit == p.unit) refl
  where
    by : (here : Bool) → (m.unit == p.unit) ≡ here → ((m.unit == p.unit) && nat_lt m.address c.next) ≡ is_met (Near m) p
    by true e = ap (λ n. (m.unit == p.unit) && nat_lt m.address n) (f.listed e).next
    by false e = rw e refl

-- the picture has come so far, and had or not before
pub met_now : (s : Selection) (m : AtMacroblock) (p : OpenPicture) (c : Picture) (had : Bool) → s ≡ Near m → IsFollowed s p c → has_come_to m c ≡ true → true ≡ (had || is_met s p)
met_now s m p c had is f come =
    sym (ap (λ x. had || x) (ap (λ x. is_met x p) is ∙ sym (come_to m p c (subst (λ x. IsFollowed x p c) is f)) ∙ come) ∙ by had)
  where
    by : (had : Bool) → (had || true) ≡ true
    by true = refl
    by false = refl

pub not_met : (s : Selection) (m : AtMacroblock) (p : OpenPicture) (c : Picture) (had : Bool) → s ≡ Near m → IsFollowed s p c → has_come_to m c ≡ false → had ≡ (had || is_met s p)
not_met s m p c had is f come =
    sym (ap (λ x. had || x) (ap (λ x. is_met x p) is ∙ sym (come_to m p c (subst (λ x. IsFollowed x p c) is f)) ∙ come) ∙ or_none had)

pub met_before : (had met : Bool) → had ≡ true → had ≡ (had || met)
met_before had met is = is ∙ sym (ap (λ x. x || met) is)

pub met_of_none : (s : Selection) (p : OpenPicture) (had : Bool) → s ≡ Whole → had ≡ (had || is_met s p)
met_of_none s p had is = sym (ap (λ x. had || is_met x p) is ∙ or_none had)

pub met_of_picture : (s : Selection) (number : ℕ) (p : OpenPicture) (had : Bool) → s ≡ OfPicture number → had ≡ (had || is_met s p)
met_of_picture s number p had is = sym (ap (λ x. had || is_met x p) is ∙ or_none had)

-- whether it has come by now, as it had or not before
pub ruleset whether_met = (met_now, not_met, met_before, met_of_none, met_of_picture)

pub over_is : (s : Selection) (max : ℕ) (state : SplitterState) (sets : List SetUnit) (kept : Option Picture) (met over : Bool) → over ≡ met → AreListed s max state sets kept met
    → length state.bytes ≤ max → over ≡ has_met (selection_of_text (text_number s)) state.bytes state.ended
over_is s max state sets kept met over is h short =
    is ∙ tells_met s max state sets kept met h short ∙ ap (λ x. has_met x state.bytes state.ended) (sym (text_again s h.in_range))

-- ---- units that bring no slice

pub told_refused : (a : Asked) (unit : ℕ) (p : Option OpenPicture) (f : Fault) (kept : Option Picture) (had : Bool) (old new : List ℕ) → IsOpen a.selection p kept
    → new ≡ old ++ refusal_lines a unit f → IsTold a unit p (refused f) kept had had old new
told_refused a unit p f kept had old new h added = record { stands = h; met = sym (or_none had); added = added }

pub told_nothing : (a : Asked) (unit : ℕ) (p : Option OpenPicture) (kept : Option Picture) (had : Bool) (text : List ℕ) → IsOpen a.selection p kept → IsTold a unit p nothing kept had had text text
told_nothing a unit p kept had text h = record { stands = h; met = sym (or_none had); added = sym (append-nil text) }
