-- One macroblock more and one slice more of a picture, and worked pictures.
pub mod Contexts
unfoldable pub use Contexts.*
use Rattle.avc_neigh.specs.declared.neighbour_info.Motion.TheVariants.{Absent as absent, Intra as intra, Inter as inter}
use Rattle.avc_motion.specs.Motion.{HasMotion}
use Rattle.avc_picture_core.specs.Built.{reference_of}
use Rattle.avc_plane.specs.declared.frame.Frame.{Frame}
use Rattle.avc_picture.specs.Slices.{info_of}
use Rattle.avc_types.specs.declared.edges.FilteredEdges.TheVariants.{All}

-- ---- one macroblock more of a picture

-- whether a macroblock is intra, by its first block
inter_seen : (c : Coded) (slice : ℕ) (f : NeighbourInfo) (m : Motion) → slice_index_or f.motion 0 absent ≡ m
    → is_picture (reference_of c slice m) ≡ true → is_intra_info f ≡ false
inter_seen c slice f (inter r v) e there = rw e refl
inter_seen c slice f m e there = cc

seen : (c : Coded) (slice : ℕ) (f : NeighbourInfo) (b : Bool) → (b ≡ true → f.motion ≡ replicate 16 intra)
    → (b ≡ false → is_picture (reference_of c slice (slice_index_or f.motion 0 absent)) ≡ true) → is_intra_info f ≡ b
seen c slice f true e there = rw (e refl) refl
seen c slice f false e there = inter_seen c slice f _ refl (there refl)

intra_motion : (c : Coded) (known : List (List Motion)) (a : ℕ) (s : MbSyntax) → is_intra s ≡ true → motion_of c known a s ≡ replicate 16 intra
intra_motion c known a p_skip e = cc
intra_motion c known a (p_inter shape refs mvds r) e = cc
intra_motion c known a s e = refl

module _ {PAD : ℕ} {c : Coded} {names : Names} {old : MbsState} (holds : HoldsFirst c names old) (kept : PartsAgree old)
    {s : SliceContext PAD} (slice : IsSlice c names s) {mb : Mb} (is : slice_get c.mbs old.next ≡ Some (record { slice = s.number; mb = mb }))
    {n : Around} (n_is : n ≡ around old.row s.number) where
  abbrev a : ℕ
  a = old.next

  abbrev m : PicMb
  m = record { slice = s.number; mb = mb }

  abbrev step_place : Place
  step_place = place_of c (modes_before c (suc a)) (motion_before c (suc a)) a m

  abbrev step_moved : List Motion
  step_moved = motion_of c (motion_before c a) a mb.syntax

  step_row_width : old.row.width ≡ c.width
  step_row_width = kept.row_width ∙ holds.width

  step_is_wide : 0 < c.width
  step_is_wide = rw holds.width at kept.wide

  motion_in : MotionIsAround n c.mbs c.width (motion_before c a) a
  motion_in = rw n_is (motion_around c a m is old.row step_row_width step_is_wide holds.neighbours)

  modes_in : ModesAreAround n c.mbs c.width (modes_before c a) a
  modes_in = rw n_is (modes_around c a m is old.row step_row_width step_is_wide holds.neighbours)

  -- Its vectors can't be had.
  pub vector_fault : (f : Fault) → HasMotion n mb.syntax (Err f) → macroblock_fault c a ≡ Some f
  vector_fault f has =
      macroblock_fault_is c a m is ∙ out_of_range step_place step_moved (motion_last c a m is) f (has c (motion_before c a) a motion_in)

  module _ (info : NeighbourInfo) (has : HasMotion n mb.syntax (Ok info.motion)) (told : IsNeighbourInfo s.number n old.canvas.constrained_intra_pred mb info)
      {references : List (Option (ReferencePicture PAD))} (references_are : references ≡ s.references) where
    motion_is : slice_index_or (motion_before c (suc a)) a [] ≡ info.motion
    motion_is = motion_found step_place step_moved (motion_last c a m is) info.motion (has c (motion_before c a) a motion_in)

    moved_is : step_moved ≡ info.motion
    moved_is = sym (motion_last c a m is) ∙ motion_is

    modes_are : modes_of c (modes_before c a) a mb.syntax ≡ info.modes
    modes_are = sym (told.modes_are c (modes_before c a) a (sym holds.constrained) modes_in)

    place_on : IsPlaceOn old.canvas a mb info n references step_place
    place_on = record {
      width = sym holds.width;
      height = sym holds.height;
      offset = sym holds.offset;
      address_is = refl;
      mb_is = refl;
      modes = modes_last c a m is ∙ modes_are;
      motion = motion_is;
      sides = λ intra k h. rw (n_is, holds.constrained) (sides_are c a m is old.row step_row_width step_is_wide holds.neighbours intra k h);
      references_are = rw references_are slice.references;
    }

    not_out : macroblock_fault c a ≡ refusal step_place
    not_out = macroblock_fault_is c a m is ∙ in_range step_place step_moved (motion_last c a m is) info.motion (has c (motion_before c a) a motion_in)

    -- It is refused where its samples are to be built.
    pub build_fault : (f : Fault) (canvas : CanvasState)
        → ((p : Place) → IsPlaceOn old.canvas a mb info n references p → IsBuilt p (Err f) old.canvas canvas) → macroblock_fault c a ≡ Some f
    build_fault f canvas built = not_out ∙ built step_place place_on

    module _ (canvas : CanvasState) (done : Unit {0})
        (built : (p : Place) → IsPlaceOn old.canvas a mb info n references p → IsBuilt p (Ok done) old.canvas canvas)
        (long : length info.motion ≡ 16) (f : MbInfo) (filter_told : IsFilterInfo mb info.motion s f) where
      here : IsBuilt step_place (Ok done) old.canvas canvas
      here = built step_place place_on

      pictures : is_intra mb.syntax ≡ false → (k : ℕ) → k < 16 → is_picture (reference_of c s.number (slice_index_or info.motion k absent)) ≡ true
      pictures e k h =
          ap (λ xs. is_picture (reference_of c s.number (slice_index_or xs k absent))) (sym motion_is)
          ∙ has_pictures step_place here.0 e k (omega (arith, h, long, ap length motion_is))

      one : is_intra mb.syntax ≡ false → (k : ℕ) → k < 16 → IsFrom (quarter_reference mb.syntax (k / 4)) (slice_index_or info.motion k absent)
      one e k h = grind (arith, IsFrom, quarter_reference, moved_is, one_reference)

      intra_is : is_intra mb.syntax ≡ is_intra_info info
      intra_is =
          sym (seen c s.number info (is_intra mb.syntax) (λ e. sym moved_is ∙ intra_motion c (motion_before c a) a mb.syntax e) (λ e. pictures e 0 (omega arith)))

      neighbours_more : HasNeighbourInfo c (suc a) (old.row.info ++ info ∷ [])
      neighbours_more =
          let has = holds.neighbours in
          let at : slice_get c.mbs (length old.row.info) ≡ Some m = ap (λ k. slice_get c.mbs k) has.count ∙ is in
          record {
            count = omega (arith, length-append old.row.info (info ∷ []), has.count);
            slices = tells_more (λ x. x.slice) (λ x. x.slice) c.mbs old.row.info m info at (sym told.slice_is) has.slices;
            total_coeffs = tells_more (λ x. total_coeffs_of x.mb.syntax) (λ x. x.total_coeffs) c.mbs old.row.info m info at (sym told.total_coeffs_is) has.total_coeffs;
            intra = tells_more (λ x. is_intra x.mb.syntax) is_intra_info c.mbs old.row.info m info at intra_is has.intra;
            motion = map-append (λ x. x.motion) old.row.info (info ∷ []) ∙ ap (λ xs. xs ++ info.motion ∷ []) has.motion
                ∙ ap (λ x. motion_before c a ++ x ∷ []) (sym moved_is) ∙ rw is refl;
            modes = map-append (λ x. x.modes) old.row.info (info ∷ []) ∙ ap (λ xs. xs ++ info.modes ∷ []) has.modes
                ∙ ap (λ x. modes_before c a ++ x ∷ []) (sym modes_are) ∙ rw is refl;
          }

      below : a < length c.mbs
      below = slice_get_within c.mbs a m is

      -- It is built, and the row above is filtered where the macroblock ends its own.
      pub decoded_more : a < old.canvas.width * old.canvas.height → (last : Planes)
          → FiltersUpTo c (filtered_rows c.width a) (filtered_rows c.width (suc a)) canvas.planes last → (macroblock_fault c a ≡ None)
          × HoldsFirst c names (record { canvas = record canvas { planes = last }; row = with_info old.row info; filter_info = old.filter_info ++ f ∷ []; next = suc a })
      decoded_more room last filters =
          let told_so_far : FilterInfo = record { width = c.width; info = old.filter_info } in
          let of : AreInfoOf c names c.chroma_qp_index_offset told_so_far = record { width_is = refl; offset_is = refl; info_are = holds.filter } in
          let in_picture : a < c.width * c.height = rw (holds.width, holds.height) at room in (
            not_out ∙ here.0,
            record {
              within = omega (arith, below);
              width = ap (λ x. x.width) here.1 ∙ holds.width;
              height = ap (λ x. x.height) here.1 ∙ holds.height;
              offset = ap (λ x. x.chroma_qp_index_offset) here.1 ∙ holds.offset;
              constrained = ap (λ x. x.constrained_intra_pred) here.1 ∙ holds.constrained;
              begun = holds.begun;
              begun_sized = holds.begun_sized;
              built = filters (first_built c holds.begun (suc a))
                  (ap (λ x. x.planes) here.1
                  ∙ late_more c names c.chroma_qp_index_offset told_so_far of a m is kept.filter_count step_is_wide in_picture holds.begun holds.begun_sized old.canvas.planes holds.built);
              neighbours = neighbours_more;
              filter = info_more c (motion_before c (length c.mbs)) names a old.filter_info f kept.filter_count holds.filter
                  (has_info c names s slice a mb is info.motion long (quarter_reference mb.syntax) f filter_told (motion_before c (length c.mbs))
                  (grown_entry (motion_before c) _ refl (λ j. refl) (suc a) (length c.mbs) a [] (omega arith) (omega (arith, below)) ∙ motion_is) pictures one);
            },
          )

-- ---- one slice more of a picture: the frames' numbers

pub same-place : (es : List ℕ) → IsStrictlyIncreasing es → (m n : ℕ) → m < length es → n < length es → slice_index es m ≡ slice_index es n → m ≡ n
same-place es rising m n h k e =
    let less : m < n → ⊥ = λ (low : m < n). omega (arith, AllPairs-from_increasing es rising m n 0 low k) in
    let more : n < m → ⊥ = λ (low : n < m). omega (arith, AllPairs-from_increasing es rising n m 0 low h) in
    omega arith

abbrev pub names-of : (es : List ℕ) → IsStrictlyIncreasing es → Names
names-of es rising = record { count = length es; decoding_index = λ n. slice_index es n; apart = same-place es rising }

pub are-names : (es : List ℕ) (rising : IsStrictlyIncreasing es) → AreNames es (names-of es rising)
are-names es rising = record { all = refl; each = λ n h. refl }

-- ---- lists

-- a picture begins with itself
pub begins-itself : (c : Coded) → BeginsWith c c
begins-itself c = record {
  width = refl;
  height = refl;
  offset = refl;
  constrained = refl;
  later_mbs = [];
  mbs = sym (append-nil c.mbs);
  later_slices = [];
  slices = sym (append-nil c.slices);
}

-- ---- the slices that macroblocks lie in

-- the info of a slice with these macroblocks, where it has any
abbrev info-in : SliceInfo → List Mb → List SliceInfo
info-in info [] = []
info-in info (mb ∷ mbs) = info ∷ []

with-info-is : (slices : List SliceInfo) (info : SliceInfo) (mbs : List Mb) → slice_with_info slices info mbs ≡ slices ++ info-in info mbs
with-info-is slices info [] = sym (append-nil slices)
with-info-is slices info (mb ∷ mbs) = refl

few-after : (number read read' : ℕ) → number ≤ read → read ≤ read' → number_after number read read' ≤ read'
few-after number read read' few more = grind (arith, nat_tests)

slice_numbered : (slices : List SliceInfo) (info : SliceInfo) (mbs : List Mb) (number read read' : ℕ) → length slices ≡ number → read' ≡ read + length mbs
    → number_after number read read' ≡ length (slice_with_info slices info mbs)
slice_numbered slices info [] number read read' e h = grind (arith, nat_tests)
slice_numbered slices info (mb ∷ mbs) number read read' e h = grind (arith, nat_tests, length-append)

-- ---- what refuses a slice

tests-passed : {A : Type 0} (x y : Bool) (a b c : A) → (if x then Some MissingMacroblocks else (if y then Some ArbitrarySliceOrder else None)) ≡ None
    → (if x then a else if y then b else c) ≡ c
tests-passed false false a b c e = refl
tests-passed x y a b c e = cc

listed : (p : PictureStart) (s : Slice) (g : Progress) → g.fault ≡ None → address_fault (length g.mbs) (s.header).first_mb_in_slice ≡ None
    → with_slice p s g ≡ with_reference_list p s g (list_of p s.header)
listed p s g none e = rw none (tests-passed (nat_lt (length g.mbs) (s.header).first_mb_in_slice) _ _ _ _ e)

tests-refused : (g : Progress) (unit : ℕ) (x y : Bool) (c : Progress) (f : Fault) → (if x then Some MissingMacroblocks else (if y then Some ArbitrarySliceOrder else None)) ≡ Some f
    → (if x then refused g unit MissingMacroblocks else if y then refused g unit ArbitrarySliceOrder else c) ≡ refused g unit f
tests-refused g unit true y c f e = cc
tests-refused g unit false true c f e = cc
tests-refused g unit false false c f e = cc

module _ {p : PictureStart} {es : List ℕ} {g : Progress} {number read : ℕ} {m : MbsState} (well : IsWellSoFar p es g number read m) (s : Slice) (f : Fault) where
  long-before : length g.mbs ≡ read
  long-before = well.decoded.next ∙ well.reached

  is-refused : with_slice p s g ≡ refused g s.unit f → IsStateOrFault p es (with_slice p s g) s.unit (number_after number read read) (Err f) read m
  is-refused e = (ap (λ (x : Progress). x.fault) e, ap (λ (x : Progress). x.read) e ∙ well.read_is)

  -- by its first address
  pub refused-by-address : address_fault read (s.header).first_mb_in_slice ≡ Some f
      → IsStateOrFault p es (with_slice p s g) s.unit (number_after number read read) (Err f) read m
  refused-by-address e =
      let here = ap (λ n. address_fault n (s.header).first_mb_in_slice) long-before ∙ e in
      is-refused (rw well.none (tests-refused g s.unit (nat_lt (length g.mbs) (s.header).first_mb_in_slice) _ _ f here))

  -- by its list
  pub refused-by-list : address_fault read (s.header).first_mb_in_slice ≡ None → list_of p s.header ≡ Err f
      → IsStateOrFault p es (with_slice p s g) s.unit (number_after number read read) (Err f) read m
  refused-by-list address e =
      is-refused (listed p s g well.none (ap (λ n. address_fault n (s.header).first_mb_in_slice) long-before ∙ address) ∙ ap (with_reference_list p s g) e)

-- ---- a slice whose data is read

module _ {PAD : ℕ} (sps : Sps) (pps : Pps) (fs : List (Frame PAD)) (s : Slice) (number read : ℕ) (m : MbsState) (unread : SliceData) (places : List (Option ℕ))
    (reads : (frames : List StoredFrame) (n : ℕ) (before : List PicMb) → length before ≡ read
    → IsDataOf (start_of (record { sps = sps; pps = pps; frames = frames }) s.header n) before (data_of s) unread)
    (made : HasList sps fs s.header (Ok places)) (address : address_fault read (s.header).first_mb_in_slice ≡ None)
    (es : List ℕ) (g : Progress) (stand : FramesStandAt es fs) (well : IsWellSoFar (picture_start sps pps es fs) es g number read m) where
  abbrev p : PictureStart
  p = picture_start sps pps es fs

  abbrev start : SliceStart
  start = start_of p s.header (length g.slices)

  abbrev info : SliceInfo
  info = info_of p s.header (made pps es stand).0

  abbrev ms : SliceMbs
  ms = slice_data start g.mbs (data_of s)

  abbrev whole : Progress
  whole = read_whole s g info ms

  long-so-far : length g.mbs ≡ read
  long-so-far = well.decoded.next ∙ well.reached

  dat : IsDataOf start g.mbs (data_of s) unread
  dat = reads (stored_at es fs) (length g.slices) g.mbs long-so-far

  abbrev begins-before : (c : Coded) → BeginsWith c (coded_of p whole) → BeginsWith c (coded_of p g)
  begins-before c b = record {
    width = b.width;
    height = b.height;
    offset = b.offset;
    constrained = b.constrained;
    later_mbs = map (placed start) ms.mbs ++ b.later_mbs;
    mbs = b.mbs ∙ append_assoc g.mbs (map (placed start) ms.mbs) b.later_mbs;
    later_slices = info-in info ms.mbs ++ b.later_slices;
    slices = b.slices ∙ ap (λ xs. xs ++ b.later_slices) (with-info-is g.slices info ms.mbs) ∙ append_assoc g.slices (info-in info ms.mbs) b.later_slices;
  }

  -- what the data answers in any such picture
  abbrev Answers : Result (Unit {0}) Fault → ℕ → MbsState → Type 0
  Answers result read' m' =
      (c : Coded) (names : Names) → BeginsWith c (coded_of p whole) → AreNames es names → IsDataAnswer c names m.next (outcome_from c start m unread) result read' m'

  slice_taken : (c : Coded) → BeginsWith c (coded_of p whole) → take m.next c.mbs ≡ g.mbs
  slice_taken c b = ap (take m.next) (begins-before c b).mbs ∙ take_at g.mbs (map (placed start) ms.mbs ++ b.later_mbs) m.next well.decoded.next

  -- what the first call for a macroblock says
  first-out : (c : Coded) (names : Names) → BeginsWith c (coded_of p whole) → AreNames es names → (out : Result (Option Mb) Fault) (d' : SliceData)
      → Hands m number out unread d' → IsHandedOut start (take m.next c.mbs) out unread d'
  first-out c names b are out d' next =
      next c names start (well.decoded.holds c names (begins-before c b) are) (sym b.width) well.decoded.count (rw (slice_taken c b) dat.0)

  abbrev found : Option (ℕ × Fault)
  found = first_mb_fault (coded_of p whole) (length g.mbs) (length ms.mbs)

  expected : outcome_from (coded_of p whole) start m unread ≡ first_of found ms
  expected =
      let c = coded_of p whole in
      ap (λ xs. outcome c m.next (rest_of start xs unread)) (slice_taken c (begins-itself c)) ∙ ap (λ r. outcome c m.next r) dat.1
      ∙ ap (λ n. outcome c n ms) (sym well.decoded.next)

  own : (result : Result (Unit {0}) Fault) (read' : ℕ) (m' : MbsState) → Answers result read' m'
      → IsDataAnswer (coded_of p whole) (names-of es stand.rising) m.next (first_of found ms) result read' m'
  own result read' m' answer =
      subst (λ o. IsDataAnswer (coded_of p whole) (names-of es stand.rising) m.next o result read' m') expected
      (answer (coded_of p whole) (names-of es stand.rising) (begins-itself (coded_of p whole)) (are-names es stand.rising))

  sliced : with_slice p s g ≡ with_first_fault s g whole found
  sliced = listed p s g well.none (ap (λ n. address_fault n (s.header).first_mb_in_slice) long-so-far ∙ address) ∙ ap (with_reference_list p s g) (made pps es stand).1

  after-found : (o : Option (ℕ × Fault)) → ((with_first_fault s g whole o).fault ≡ with_unit s.unit (first_of o ms).1) × ((with_first_fault s g whole o).read ≡ g.read + (first_of o ms).0)
  after-found None = (refl, refl)
  after-found (Some f) = (refl, refl)

  none-found : (o : Option (ℕ × Fault)) → (first_of o ms).1 ≡ None → o ≡ None
  none-found None e = refl
  none-found (Some f) e = cc

  all-decoded : (read' : ℕ) (m' : MbsState) → Answers (Ok tt) read' m' → IsWellSoFar p es (with_slice p s g) (number_after number read read') read' m'
  all-decoded read' m' answer =
      let mine = own (Ok tt) read' m' answer in
      let none = none-found found mine.0 in
      let fault : ms.fault ≡ None = subst (λ o. (first_of o ms).1 ≡ None) none mine.0 in
      let count : m.next + length ms.mbs ≡ read' = subst (λ o. m.next + (first_of o ms).0 ≡ read') none mine.1 in
      let more : read' ≡ read + length ms.mbs = omega (arith, well.reached) in
      let number-is = slice_numbered g.slices info ms.mbs number read read' well.decoded.count more in
      let mbs-length : length (g.mbs ++ map (placed start) ms.mbs) ≡ m'.next =
      length-append g.mbs (map (placed start) ms.mbs) ∙ omega (arith, length-map ms.mbs (placed start), well.decoded.next, mine.2) in
      subst (λ x. IsWellSoFar p es x (number_after number read read') read' m') (sym (sliced ∙ ap (with_first_fault s g whole) none)) (record {
        none = ap (with_unit s.unit) fault;
        read_is = omega (arith, well.read_is);
        reached = mine.2;
        few = few-after number read read' well.few (omega arith);
        decoded = record { next = mbs-length; count = sym number-is; holds = λ c names b are. (answer c names b are).3 };
      })

  slice-decoded : (result : Result (Unit {0}) Fault) (read' : ℕ) (m' : MbsState) → Answers result read' m'
      → IsStateOrFault p es (with_slice p s g) s.unit (number_after number read read') result read' m'
  slice-decoded (Ok done) read' m' answer = all-decoded read' m' answer
  slice-decoded (Err f) read' m' answer =
      let mine = own (Err f) read' m' answer in (
        ap (λ (x : Progress). x.fault) sliced ∙ (after-found found).0 ∙ ap (with_unit s.unit) mine.0,
        omega (arith, ap (λ (x : Progress). x.read) sliced, (after-found found).1, mine.1, well.read_is, well.reached),
      )

  none-left : (c : Coded) (o : Option Fault) → outcome_from c start m unread ≡ (0, o) → ((outcome_from c start m unread).1 ≡ o) × (m.next + (outcome_from c start m unread).0 ≡ read)
  none-left c o e = (ap (λ q. q.1) e, omega (arith, ap (λ q. q.0) e, well.reached))

  -- where its first macroblock is refused
  pub slice-refused : (f : Fault) (d' : SliceData) → Hands m number (Err f) unread d' → IsStateOrFault p es (with_slice p s g) s.unit (number_after number read read) (Err f) read m
  slice-refused f d' next = slice-decoded (Err f) read m (λ c names b are. none-left c (Some f) (ap (outcome c m.next) (first-out c names b are (Err f) d' next).0))

  -- where the data has no macroblock
  pub slice-empty : (d' : SliceData) → Hands m number (Ok None) unread d' → IsStateOrFault p es (with_slice p s g) s.unit (number_after number read read) (Ok tt) read m
  slice-empty d' next = all-decoded read m (λ c names b are.
      let none = none-left c None (ap (outcome c m.next) (first-out c names b are (Ok None) d' next).0) in
      (none.0, none.1, well.reached, well.decoded.holds c names (begins-before c b) are))

  -- the first macroblock has been read
  module _ (long : length places ≡ 16) (within : ArePlacesIn fs places) (qp : start.qp ≤ 51) (mb : Mb) (d' : SliceData) (next : Hands m number (Ok (Some mb)) unread d') where
    slice-goes-on : (context : SliceContext PAD) → IsContextAt number fs s.header places context → (c : Coded) (names : Names) → BeginsWith c (coded_of p whole) → AreNames es names
        → GoesOn c names start m unread context
    slice-goes-on context at c names b are =
        let before = begins-before c b in
        let list = made pps es stand in
        let rest-is : (rest_of start (take m.next c.mbs) unread) ≡ ms = ap (λ xs. rest_of start xs unread) (slice_taken c b) ∙ dat.1 in
        record {
          holds = well.decoded.holds c names before are;
          is_slice = λ mb mbs e.
              let some : ms.mbs ≡ mb ∷ mbs = rw rest-is at e in
              is-slice sps pps es fs s.header stand number places context long within at list.0 list.1 list.2 c names are
              (ap (λ n. slice_info c n) (at.number_is ∙ sym well.decoded.count) ∙ ap (λ xs. slice_info (record c { slices = xs }) (length g.slices))
              (before.slices ∙ ap (λ xs. g.slices ++ (info-in info xs ++ b.later_slices)) some) ∙ get_or-append_seam g.slices info b.later_slices _);
          width = sym b.width;
          size = rw (b.width, b.height) refl;
          number = well.decoded.count ∙ sym at.number_is;
          quantiser = qp;
          follows = rw (slice_taken c b) dat.0;
          later = b.later_mbs;
          mbs = before.mbs ∙ sym (ap (λ xs. xs ++ (map (placed start) (rest_of start (take m.next c.mbs) unread).mbs ++ b.later_mbs)) (slice_taken c b)
              ∙ ap (λ r. g.mbs ++ (map (placed start) r.mbs ++ b.later_mbs)) rest-is);
        }

    has-first : (c : Coded) (names : Names) → BeginsWith c (coded_of p whole) → AreNames es names → HasFirst (IsContextAt number fs s.header places) c names start unread m mb d'
    has-first c names b are = record {
      goes_on = λ context at. slice-goes-on context at c names b are;
      first = first-out c names b are (Ok (Some mb)) d' next;
    }

    pub can-have-first : CanHaveFirst (IsContextAt number fs s.header places) m mb d'
    can-have-first = record {
      coded = coded_of p whole;
      names = names-of es stand.rising;
      start = start;
      unread = unread;
      has_first = has-first (coded_of p whole) (names-of es stand.rising) (begins-itself (coded_of p whole)) (are-names es stand.rising);
    }

    pub slice-through : (result : Result (Unit {0}) Fault) (read' : ℕ) (m' : MbsState)
        → ((c : Coded) (names : Names) (s' : SliceStart) (d : SliceData) → HasFirst (IsContextAt number fs s.header places) c names s' d m mb d'
        → IsDataAnswer c names m.next (outcome_from c s' m d) result read' m')
        → IsStateOrFault p es (with_slice p s g) s.unit (number_after number read read') result read' m'
    slice-through result read' m' answer = slice-decoded result read' m' (λ c names b are. answer c names start unread (has-first c names b are))

-- ---- what a picture decoder keeps from slice to slice: frames can stand somewhere

rises : (n : ℕ) → IsStrictlyIncreasing (range_with_len 0 n)
rises n = λ k h. grind (arith, nat_tests, get_or-range_with_len, length-range_with_len)

abbrev pub places-of : {PAD : ℕ} → List (Frame PAD) → List ℕ
places-of fs = range_with_len 0 (length fs)

stand-somewhere : {PAD : ℕ} (fs : List (Frame PAD)) → FramesStandAt (places-of fs) fs
stand-somewhere fs = record { each = length-range_with_len 0 (length fs) ∙ sym (length-map fs marked_frame); rising = rises (length fs) }

-- ---- a slice behind a fault

faulted : (o : Option (ℕ × Fault)) (f : Fault) (g x : Progress) → option_map (λ found. found.1) o ≡ Some f → elim o [ Some h ↦ g | None ↦ x ] ≡ g
faulted None f g x e = cc
faulted (Some h) f g x e = refl

stays : (p : PictureStart) (s : Slice) (g : Progress) (f : Fault) → option_map (λ found. found.1) g.fault ≡ Some f → with_slice p s g ≡ g
stays p s g f e = faulted g.fault f g _ e

pub refused-again : {PAD : ℕ} {sps : Sps} {pps : Pps} {fs : List (Frame PAD)} {slices : List Slice} {count read : ℕ} {f : Fault} {m : MbsState} (s : Slice)
    → IsDecoderState sps pps fs slices count read (Some f) m
    → Refuses (record { sps = sps; pps = pps; frames = fs; slices = slices }) s f (record { sps = sps; pps = pps; frames = fs; slices = s ∷ slices })
refused-again {sps = sps} {pps = pps} {fs = fs} {slices = slices} {f = f} s kept = record {
  fault = λ es stand.
      let g = progress (picture_start sps pps es fs) slices in
      ap (λ x. option_map (λ found. found.1) x.fault) (stays (picture_start sps pps es fs) s g f (kept.keeps es stand).0) ∙ (kept.keeps es stand).0;
  unit = λ well es stand.
      let wrong : None ≡ Some f = sym (ap (option_map (λ found. found.1)) (well es stand)) ∙ (kept.keeps es stand).0 in
      cc;
}

-- what is kept once a slice is refused: its fault, and how many macroblocks have been read
pub after-refusal : {PAD : ℕ} (sps : Sps) (pps : Pps) (fs : List (Frame PAD)) (slices : List Slice) (count read read' : ℕ) (m m' : MbsState) (s : Slice) (f : Fault)
    → IsDecoderState sps pps fs slices count read None m → HasSameSize m m' → read' ≤ size_in_mbs sps → IsDecodedSlice sps pps fs s count read m (Err f) read' m'
    → IsDecoderState sps pps fs (s ∷ slices) count read' (Some f) m'
after-refusal sps pps fs slices count read read' m m' s f kept size within decoded = record {
  of_sps = kept.of_sps;
  of_pps = kept.of_pps;
  of_frames = kept.of_frames;
  width = size.width ∙ kept.width;
  height = size.height ∙ kept.height;
  within = within;
  keeps = λ es stand.
      let told = decoded es (progress (picture_start sps pps es fs) slices) stand (kept.keeps es stand) in
      (ap (option_map (λ found. found.1)) told.0, told.1);
}

-- ---- the info of a macroblock that is kept

by-test : {A : Type 0} (b : Bool) (o : Option A) (x : A) → (if b then o else None) ≡ Some x → o ≡ Some x
by-test true o x e = e
by-test false o x e = cc

got-kept : (width : ℕ) (info : List MbInfo) (address : ℕ) (f : MbInfo) → kept_info width info address ≡ Some f → slice_get info address ≡ Some f
got-kept width info address f e = by-test (is_in_last_rows width (length info) address) (slice_get info address) f e

some-by-test : {A : Type 0} (b : Bool) (o : Option A) → (b ≡ true → is_some o ≡ true) → is_some (if b then o else None) ≡ b
some-by-test true o e = e refl
some-by-test false o e = refl

low-place : (first address n : ℕ) → (nat_le first address && nat_lt address n) ≡ true → address < n
low-place first address n e = grind (arith, nat_tests)

is-there : (info : List MbInfo) (address : ℕ) → address < length info → is_some (slice_get info address) ≡ true
is-there info address low = elim (slice_get_cases info address).1 [ inl found ↦ ap is_some found.2 | inr past ↦ absurd (omega (arith, past.0)) ]

some-kept : (width : ℕ) (info : List MbInfo) (address : ℕ) → is_some (kept_info width info address) ≡ is_in_last_rows width (length info) address
some-kept width info address =
    some-by-test (is_in_last_rows width (length info) address) (slice_get info address)
    (λ e. is-there info address (low-place ((length info / width - 2) * width) address (length info) e))

-- what holds of a value holds of it where it is lent
pub lent-is : {A : Type 0} (P : A → Type 0) (lent : Option (Bor A)) (value : Option A) → option_copied lent ≡ value → ((x : A) → value ≡ Some x → P x)
    → IfSome lent (λ x. P x.now)
lent-is P (Some x) value is holds = holds x.now (sym is)
lent-is P None value is holds = tt

pub lent-some : {A : Type 0} (lent : Option (Bor A)) (value : Option A) → option_copied lent ≡ value → is_some lent ≡ is_some value
lent-some (Some x) value is = ap is_some is
lent-some None value is = ap is_some is

-- ---- what is kept without a fault

module _ {PAD : ℕ} {sps : Sps} {pps : Pps} {fs : List (Frame PAD)} {slices : List Slice} {count read : ℕ} {fault : Option Fault} {m : MbsState} (none : fault ≡ None)
    (state : IsDecoderState sps pps fs slices count read fault m) where
  abbrev d : Decoding PAD
  d = record { sps = sps; pps = pps; frames = fs; slices = slices }

  abbrev begun : List ℕ → PictureStart
  begun es = picture_start sps pps es fs

  kept : (es : List ℕ) → FramesStandAt es fs → IsWellSoFar (begun es) es (progress (begun es) slices) count read m
  kept es stand = rw none at (state.keeps es stand)

  held : (es : List ℕ) (stand : FramesStandAt es fs) → HoldsFirst (coded_of (begun es) (progress (begun es) slices)) (names-of es stand.rising) m
  held es stand = (kept es stand).decoded.holds _ _ (begins-itself (coded_of (begun es) (progress (begun es) slices))) (are-names es stand.rising)

  pub well-somewhere : IsWellSomewhere sps pps fs count read m
  well-somewhere = record { indices = places-of fs; stand = stand-somewhere fs; so_far = progress (begun (places-of fs)) slices; well = kept (places-of fs) (stand-somewhere fs) }

  counted : (es : List ℕ) → FramesStandAt es fs → length (progress (begun es) slices).mbs ≡ read
  counted es stand = let well = kept es stand in well.decoded.next ∙ well.reached

  kept-at-end : (es : List ℕ) → FramesStandAt es fs → (full : Bool) → (read == size_in_mbs sps) ≡ full → end_fault es d ≡ fault_at_end None full
  kept-at-end es stand full e = let well = kept es stand in grind (arith, nat_tests, counted)

  pub missing-at-end : (read ≡ size_in_mbs sps → ⊥) → (es : List ℕ) → FramesStandAt es fs → end_fault es d ≡ Some MissingMacroblocks
  missing-at-end apart es stand = kept-at-end es stand false (ne_eqb read (size_in_mbs sps) apart)

  -- a sample that the macroblocks so far have
  pub sample-now : (value : ℕ) (k x y : ℕ)
      → ((c : Coded) (names : Names) → HoldsFirst c names m → value ≡ samples_of (row_late c (empty_planes c.width c.height) m.next) k x y)
      → (es : List ℕ) → FramesStandAt es fs → samples_of (planes_so_far es d) k x y ≡ value
  sample-now value k x y answer es stand =
      let c = coded_of (begun es) (progress (begun es) slices) in
      let empty = empty_planes c.width c.height in
      sym (answer c (names-of es stand.rising) (held es stand) ∙ ap (λ s. samples_of s k x y)
      (ap (row_late c empty) (sym (kept es stand).decoded.next) ∙ ap (rows_filtered c (filtered_rows c.width (length c.mbs))) (all_built c empty)))

  -- and it has those that are read
  pub covered-now : (k x y : ℕ) → ((es : List ℕ) → FramesStandAt es fs → covering_address (width_in_mbs sps) k x y < (progress (begun es) slices).read)
      → covering_address m.canvas.width k x y < m.next
  covered-now k x y covered =
      let es = places-of fs in
      let well = kept es (stand-somewhere fs) in
      rw state.width (omega (arith, covered es (stand-somewhere fs), well.read_is, well.reached))

  -- what the filter is told, where it is kept
  module _ (address : ℕ) (count_is : length m.filter_info ≡ m.next) where
    pub kept-now : IsKept address (is_some (kept_info m.canvas.width m.filter_info address)) d
    kept-now es stand =
        some-kept m.canvas.width m.filter_info address
        ∙ ap₂ (λ w n. is_in_last_rows w n address) state.width (count_is ∙ sym (kept es stand).decoded.next)

    pub info-now : (f : MbInfo) → kept_info m.canvas.width m.filter_info address ≡ Some f → HasFilterInfo address f d
    info-now f is es names stand are =
        let c = coded_of (begun es) (progress (begun es) slices) in
        let holds : HoldsFirst c names m = (kept es stand).decoded.holds c names (begins-itself c) are in
        let found = got-kept m.canvas.width m.filter_info address f is in
        let place : 0 + address ≡ address = omega arith in
        rw (place, get_or_from_slice_get m.filter_info address f f found) at (holds.filter address f (slice_get_within m.filter_info address f found))

    pub places-now : (f : MbInfo) → kept_info m.canvas.width m.filter_info address ≡ Some f → NamesPlaces f d
    places-now f is between quarter low =
        let es = places-of fs in
        let stand = stand-somewhere fs in
        let here = (info-now f is es (names-of es stand.rising) stand (are-names es stand.rising)).motion_is between (4 * quarter) (omega (arith, low)) in
        let quarter_is : (4 * quarter) / 4 ≡ quarter = omega arith in
        let named : slice_index f.pictures quarter < length es = rw quarter_is at here.named in
        omega (arith, named, stand.each, length-map fs marked_frame)

  module _ (full : read ≡ size_in_mbs sps) where
    pub none-at-end : (es : List ℕ) → FramesStandAt es fs → end_fault es d ≡ None
    none-at-end es stand = kept-at-end es stand true (grind (arith, nat_tests))

    module _ {planes : Planes} (answer : (c : Coded) (names : Names) → HoldsFirst c names m → m.next ≡ length c.mbs → length c.mbs ≡ c.width * c.height → planes ≡ deblocked c) where
      pub planes-at-end : (es : List ℕ) → FramesStandAt es fs → planes ≡ planes_after_slices (begun es) slices
      planes-at-end es stand = answer _ _ (held es stand) (sym (kept es stand).decoded.next) (counted es stand ∙ full)

      sized-at-end : IsSized (width_in_mbs sps) (height_in_mbs sps) planes
      sized-at-end = rw (planes-at-end (places-of fs) (stand-somewhere fs)) (pictures_sized (begun (places-of fs)) slices)

      pub are-sized : AreSized (width_in_mbs sps) (height_in_mbs sps) planes
      are-sized = grind (arith, nat_tests, sized-at-end)

-- where the slices have no fault, none is kept
pub none-kept : {PAD : ℕ} {sps : Sps} {pps : Pps} {fs : List (Frame PAD)} {slices : List Slice} {count read : ℕ} {m : MbsState} (fault : Option Fault)
    → IsDecoderState sps pps fs slices count read fault m → HasNoFault (record { sps = sps; pps = pps; frames = fs; slices = slices }) → fault ≡ None
none-kept None kept none = refl
none-kept {fs = fs} (Some f) kept none =
    let es = places-of fs in
    let e : None ≡ Some f = sym (ap (option_map (λ found. found.1)) (none es (stand-somewhere fs))) ∙ (kept.keeps es (stand-somewhere fs)).0 in
    absurd (cc)

-- ---- the fault at the end

pub first-at-end : (o : Option (ℕ × Fault)) (full : Bool) (f : Fault) → option_map (λ found. found.1) o ≡ Some f → fault_at_end o full ≡ Some f
first-at-end None full f e = cc
first-at-end (Some _) full f e = e

-- ---- the beginning

pub kept-first : {PAD : ℕ} (sps : Sps) (pps : Pps) (fs : List (Frame PAD)) (m : MbsState) → IsSps sps → IsPps pps → AreFramesOf sps fs
    → ((c : Coded) (names : Names) → HasSets sps pps c → HoldsFirst c names m) → m.next ≡ 0 → m.canvas.width ≡ width_in_mbs sps → m.canvas.height ≡ height_in_mbs sps
    → IsDecoderState sps pps fs [] 0 0 None m
kept-first sps pps fs m is_sps is_pps are holds next width height = record {
  of_sps = is_sps;
  of_pps = is_pps;
  of_frames = are;
  width = width;
  height = height;
  within = omega arith;
  keeps = λ es stand. record {
    none = refl;
    read_is = refl;
    reached = next;
    few = omega arith;
    decoded = record {
      next = sym next;
      count = refl;
      holds = λ c names b are. holds c names (record { width = b.width; height = b.height; offset = b.offset; constrained = b.constrained });
    };
  };
}

-- ---- worked pictures, computed

abbrev only_luma_dc : List ℤ → Residual
only_luma_dc levels = record {
  luma_pattern = 0;
  chroma_pattern = 0;
  mb_qp_delta = pos 0;
  luma_dc = levels;
  luma = [];
  cb_dc = [];
  cr_dc = [];
  cb_ac = [];
  cr_ac = [];
}

abbrev mb_at_26 : MbSyntax → PicMb
mb_at_26 syntax = record { slice = 0; mb = record { syntax = syntax; qp = 26 } }

-- a picture of one slice
abbrev picture : ℕ → ℕ → FilteredEdges → List (Option WorkedFrame) → List MbSyntax → Coded
picture width height edges references mbs = record {
  width = width;
  height = height;
  chroma_qp_index_offset = pos 0;
  constrained_intra_pred = false;
  slices = record { is_p = false; references = references; weights = []; disable_deblocking_filter_idc = edges; filter_offset_a = pos 0; filter_offset_b = pos 0 } ∷ [];
  mbs = mbs_at_26 mbs;
} where
  mbs_at_26 : List MbSyntax → List PicMb
  mbs_at_26 [] = []
  mbs_at_26 (s ∷ ss) = mb_at_26 s ∷ mbs_at_26 ss

abbrev rows_row : ℕ → List ℕ → List ℕ
rows_row n row = flat_map (λ _. row) (range_with_len 0 n)

-- one Intra 16x16 macroblock by DC without levels
pub grey : (built (picture 1 1 NoEdges [] (i_16x16 2 0 (only_luma_dc []) ∷ []))).luma.samples ≡ replicate 256 128
grey = refl

-- a DC level of 1
pub one_above_grey : (built (picture 1 1 NoEdges [] (i_16x16 2 0 (only_luma_dc (pos 1 ∷ [])) ∷ []))).luma.samples ≡ replicate 256 129
one_above_grey = refl

abbrev two_tone : FilteredEdges → Coded
two_tone edges = picture 2 1 edges [] (i_16x16 2 0 (only_luma_dc []) ∷ i_16x16 2 0 (only_luma_dc (pos 10 ∷ [])) ∷ [])

-- a DC level of 10 in the right one of two macroblocks
pub two_tones : (built (two_tone NoEdges)).luma.samples ≡ rows_row 16 (replicate 16 128 ++ replicate 16 136)
two_tones = refl

abbrev plane_with : ℕ → ℕ → List ℕ → Plane
plane_with width height samples = record { width = width; height = height; samples = samples }

-- planes of this size in macroblocks with these luma samples and grey chroma
abbrev with_grey_chroma : ℕ → ℕ → List ℕ → Planes
with_grey_chroma width height samples = record {
  luma = plane_with (16 * width) (16 * height) samples;
  cb = plane_with (8 * width) (8 * height) (replicate (64 * width * height) 128);
  cr = plane_with (8 * width) (8 * height) (replicate (64 * width * height) 128);
}

-- and the filter
pub two_tones_planes : deblocked_planes (two_tone All) (built (two_tone All)) ≡ with_grey_chroma 2 1 (rows_row 16 (replicate 15 128 ++ 130 ∷ 134 ∷ replicate 15 136))
two_tones_planes = refl

pub two_tones_filtered : (deblocked_planes (two_tone All) (built (two_tone All))).luma.samples ≡ rows_row 16 (replicate 15 128 ++ 130 ∷ 134 ∷ replicate 15 136)
two_tones_filtered = ap (λ s. s.luma.samples) two_tones_planes

pub two_tones_chroma : (deblocked_planes (two_tone All) (built (two_tone All))).cr.samples ≡ replicate 128 128
two_tones_chroma = ap (λ s. s.cr.samples) two_tones_planes

-- a picture of 128 above 136, filtered
abbrev two_rows : Coded
two_rows = picture 1 2 All [] (i_16x16 2 0 (only_luma_dc []) ∷ i_16x16 2 0 (only_luma_dc (pos 10 ∷ [])) ∷ [])

pub two_rows_filtered : (deblocked_planes two_rows (built two_rows)).luma.samples ≡ rows_row 15 (replicate 16 128) ++ replicate 16 130 ++ replicate 16 134 ++ rows_row 15 (replicate 16 136)
two_rows_filtered = refl

-- decoded so far: after the first macroblock nothing is filtered, after the second its row alone
pub no_row_yet : filtered_rows 1 1 ≡ 0
no_row_yet = refl

pub one_row : filtered_rows 1 2 ≡ 1
one_row = refl

pub upper_row_filtered : (row_late two_rows (empty_planes 1 2) 2).luma.samples ≡ rows_row 16 (replicate 16 128) ++ rows_row 16 (replicate 16 136)
unfolding row_lines
upper_row_filtered = refl

-- ---- a P picture: half a sample to the left in the left macroblock, the right one skipped

abbrev no_levels : Residual
no_levels = only_luma_dc []

abbrev half_left : List MbSyntax
half_left = p_inter P16x16 (0 ∷ []) (record { x = pos 2; y = pos 0 } ∷ []) no_levels ∷ p_skip ∷ []

abbrev frame_of : Samples → Option WorkedFrame
frame_of s = Some (record { decoding_index = 0; existing = true; samples = s })

abbrev stripes : List ℕ → Samples
stripes row c x y = slice_index row x

-- over the unfiltered picture
abbrev moved_row : Coded
moved_row = picture 2 1 NoEdges (frame_of (stripes (replicate 16 128 ++ replicate 16 136)) ∷ []) half_left

pub moved_half : (built moved_row).luma.samples ≡ rows_row 16 (replicate 14 128 ++ 127 ∷ 132 ∷ replicate 16 136)
unfolding with_part
moved_half = refl

-- over the filtered picture, and filtered again
abbrev moved_over : Planes → Coded
moved_over s = picture 2 1 All (frame_of (samples_of s) ∷ []) half_left

abbrev moved_filtered : Coded
moved_filtered = moved_over (deblocked_planes (two_tone All) (built (two_tone All)))

pub moved_half_filtered : (deblocked_planes moved_filtered (built moved_filtered)).luma.samples ≡ rows_row 16 (replicate 14 128 ++ 129 ∷ 132 ∷ 134 ∷ replicate 15 136)
unfolding with_part
moved_half_filtered = ap (λ s. (deblocked_planes (moved_over s) (built (moved_over s))).luma.samples) two_tones_planes ∙ refl

-- ---- where the buffer holds no frame, the one entry of a P slice's list is empty

-- the first fault of a picture that has this slice alone
abbrev fault_without_frames : Option Sps → Option Pps → Result Header Fault → List ℕ → Option (ℕ × Fault)
fault_without_frames (Some sps) (Some pps) (Ok h) rbsp =
    (progress (record { sps = sps; pps = pps; frames = [] }) (record { unit = 3; header = h; rbsp = rbsp } ∷ [])).fault
fault_without_frames _ _ _ rbsp = None

abbrev fault_under : Sets → List ℕ → Option (ℕ × Fault)
fault_under sets rbsp = fault_without_frames (sets.sps 0) (sets.pps 0) (header_in_rbsp 0x41 sets rbsp) rbsp

-- 16x16 luma samples; the macroblock is skipped
abbrev small : Sets
small = sets_after (OfSps (0x42 ∷ 0xC0 ∷ 0x0A ∷ 0xDA ∷ 0x71 ∷ []) ∷ OfPps (0xCE ∷ 0x38 ∷ 0x80 ∷ []) ∷ [])

pub skipped_without_frames : fault_under small (0x9A ∷ 0x22 ∷ 0xA0 ∷ []) ≡ Some (3, RefMissing)
skipped_without_frames = refl

-- 32x16, with deblocking fields; the slice of the P picture above
abbrev wide_row : Sets
wide_row = sets_after (OfSps (0x42 ∷ 0xC0 ∷ 0x0A ∷ 0xDA ∷ 0x2C ∷ 0x40 ∷ []) ∷ OfPps (0xCE ∷ 0x3C ∷ 0x80 ∷ []) ∷ [])

pub moved_without_frames : fault_under wide_row (0x9A ∷ 0x22 ∷ 0xB2 ∷ 0x6A ∷ []) ≡ Some (3, RefMissing)
unfolding with_part blocks
moved_without_frames = refl
