-- Slots that stand for frames, and worked examples of output order.
pub mod BumpingTimes
unfoldable pub use BumpingTimes.*
use Rattle.avc_dpb.specs.Bumping.{no_longer_needed}
use Rattle.avc_dpb.specs.Steps.{Bumps}

-- ---- what slots and frames stand for while a frame is stored, or all pictures go out: the marks of all frames

abbrev Tells : (frame_of : ℕ → Frame 16) (references : List ℕ) → ℕ → Type 0
Tells frame_of references index = IsReferenceAmong (frame_of index) index references

tells_each : (frame_of : ℕ → Frame 16) (references : List ℕ) (frames : List Stored)
    → map is_used_for_reference (map (λ s. frame_of s.decoding_index) frames) ≡ map (is_reference_in references) frames → Each (Tells frame_of references) frames
tells_each frame_of references [] e = tt
tells_each frame_of references (s ∷ frames) e = (same_head _ _ _ _ e, tells_each frame_of references frames (same_tail _ _ _ _ e))

each_tells : (frame_of : ℕ → Frame 16) (references : List ℕ) (frames : List Stored)
    → Each (Tells frame_of references) frames → map is_used_for_reference (map (λ s. frame_of s.decoding_index) frames) ≡ map (is_reference_in references) frames
each_tells frame_of references [] h = refl
each_tells frame_of references (s ∷ frames) h = ap₂ (λ x l. x ∷ l) h.0 (each_tells frame_of references frames h.1)

told : {slots : List Slot} {frames : List (Frame 16)} {references : List ℕ} {b : Buffer} {next : ℕ} {frame_of : ℕ → Frame 16}
    → StandFor slots frames references b next frame_of → Each (Tells frame_of references) b.frames
told {frames = frames} {references = references} {b = b} {frame_of = frame_of} h = grind (arith, tells_each)

stand_for : (slots : List Slot) (frames : List (Frame 16)) (references : List ℕ) (b : Buffer) (next : ℕ) (frame_of : ℕ → Frame 16)
    → slots ≡ map slot_of b.frames → frames ≡ map (λ s. frame_of s.decoding_index) b.frames → Each (Tells frame_of references) b.frames → IsRising b.frames next
    → StandFor slots frames references b next frame_of
stand_for slots frames references b next frame_of slots_are frames_are tells rising = grind (arith, each_tells)

-- one after the other
in_turn : {slots slots' : List Slot} {frames frames' : List (Frame 16)} {references : List ℕ} {b c d : Buffer} {next next' : ℕ} {frame_of : ℕ → Frame 16}
    {out out' out'' : List Picture} → Become slots frames references b c next frame_of out out' → Become slots' frames' references c d next' frame_of out' out''
    → Become slots' frames' references b d next' frame_of out out''
in_turn {b = b} {frame_of = frame_of} {out = out} h k = grind (arith, append_assoc, filter_map-append)

-- nothing goes out
same_buffer : {slots : List Slot} {frames : List (Frame 16)} {references : List ℕ} {b : Buffer} {next : ℕ} {frame_of : ℕ → Frame 16} (c : Buffer) (out : List Picture)
    → c ≡ b → StandFor slots frames references b next frame_of → Become slots frames references b c next frame_of out out
same_buffer {slots} {frames} {references} {b} {next} {frame_of} c out is h = grind (arith, append-nil)

-- ---- frames that are needless leave

chosen_map : {A : Type 0} (p : Stored → Bool) (f : Stored → A) (fs : List Stored) → chosen (map p fs) (map f fs) ≡ map f (filter p fs)
chosen_map p f [] = refl
chosen_map {A} p f (x ∷ fs) = grind (arith, (chosen_map p f fs))

needed_are : (references : List ℕ) (frame_of : ℕ → Frame 16) (fs : List Stored) → Each (Tells frame_of references) fs
    → are_needed (map slot_of fs) (map (λ s. frame_of s.decoding_index) fs) ≡ map (keep references) fs
needed_are references frame_of [] h = refl
needed_are references frame_of (s ∷ fs) h = ap₂ (λ (r : Bool) (l : List Bool). (s.needed_for_output || r) ∷ l) h.0 (needed_are references frame_of fs h.1)

pub needless_leave : {slots : List Slot} {frames : List (Frame 16)} {references : List ℕ} {b : Buffer} {next : ℕ} {frame_of : ℕ → Frame 16}
    (slots' : List Slot) (frames' : List (Frame 16)) → StandFor slots frames references b next frame_of
    → slots' ≡ chosen (are_needed slots frames) slots → frames' ≡ chosen (are_needed slots frames) frames
    → StandFor slots' frames' references (record b { frames = needed_frames references b.frames }) next frame_of
needless_leave {slots} {frames} {references} {b} {next} {frame_of} slots' frames' h slots_is frames_is =
    let kept : are_needed slots frames ≡ map (keep references) b.frames = ap₂ are_needed h.slots_are h.frames_are ∙ needed_are references frame_of b.frames (told h) in
    stand_for slots' frames' references (record b { frames = needed_frames references b.frames }) next frame_of
    (slots_is ∙ ap₂ chosen kept h.slots_are ∙ chosen_map (keep references) slot_of b.frames)
    (frames_is ∙ ap₂ chosen kept h.frames_are ∙ chosen_map (keep references) (λ s. frame_of s.decoding_index) b.frames)
    (each_filter (Tells frame_of references) (keep references) b.frames (told h))
    (filter_rising (keep references) b.frames next h.rising)

-- ---- one picture goes out

find_by : (frames : List Stored) (k : ℕ) (o : Option Stored) (p : Option (ℕ × ℤ)) → Agree frames 0 o p → Some k ≡ option_map (λ (p : ℕ × ℤ). p.0) p
    → (s : Stored) × (o ≡ Some s) × (slice_get frames k ≡ Some s)
find_by frames k None p a e = grind (arith, none-some)
find_by frames k (Some s) p a e = (s, refl, grind (arith, none-some, same_Some))

find_none : (frames : List Stored) (o : Option Stored) (p : Option (ℕ × ℤ)) → Agree frames 0 o p → None ≡ option_map (λ (p : ℕ × ℤ). p.0) p → o ≡ None
find_none frames o p a e = grind (arith, none-some)

unneeded_indices : {A : Type 0} (g : ℕ → A) (first : Stored) (fs : List Stored) → map (λ s. g s.decoding_index) (map (no_longer_needed first) fs) ≡ map (λ s. g s.decoding_index) fs
unneeded_indices g first [] = refl
unneeded_indices g first (s ∷ fs) = grind (arith, not_needed, (unneeded_indices g first fs))

read_at : {A : Type 0} (xs : List A) (k : ℕ) (d x : A) → slice_get xs k ≡ Some x → get_or xs k d ≡ x
read_at [] k d x e = absurd (none-some x e)
read_at (y ∷ xs) zero d x e = same_Some y x e
read_at (y ∷ xs) (suc k) d x e = read_at xs k d x e

changed_there : {A : Type 0} (change : A → A) (xs : List A) (k : ℕ) (x : A) → slice_get xs k ≡ Some x → slot_changed_at change xs k ≡ slice_set xs k (change x)
changed_there change [] k x e = refl
changed_there change (y ∷ xs) zero x e = ap (λ z. change z ∷ xs) (same_Some y x e)
changed_there change (y ∷ xs) (suc k) x e = ap (λ l. y ∷ l) (changed_there change xs k x e)

-- the frame that goes first, and the buffer after it
record IsFound (frames : List (Frame 16)) (k : ℕ) (references : List ℕ) (b : Buffer) (frame_of : ℕ → Frame 16) : Type 0 where
  first : Stored
  there : slice_get b.frames k ≡ Some first
  after : after_bumping references b ≡ record { frames = needed_frames references (map (no_longer_needed first) b.frames); out = b.out ++ first.decoding_index ∷ [] }
  frame : (d : Frame 16) → get_or frames k d ≡ frame_of first.decoding_index

found : (slots : List Slot) (frames : List (Frame 16)) (k : ℕ) (references : List ℕ) (b : Buffer) (next : ℕ) (frame_of : ℕ → Frame 16)
    → Some k ≡ option_map (λ (p : ℕ × ℤ). p.0) (first_output_from 0 slots) → StandFor slots frames references b next frame_of → IsFound frames k references b frame_of
found slots frames k references b next frame_of is h =
    let f = find_by b.frames k (first_needed b.frames) (first_output_from 0 (map slot_of b.frames)) (agree b.frames 0 next h.rising)
    (is ∙ ap (λ l. option_map (λ (p : ℕ × ℤ). p.0) (first_output_from 0 l)) h.slots_are) in
    record {
      first = f.0;
      there = f.2;
      after = bumped_some references b f.0 (head_needed b.frames ∙ f.1);
      frame = λ d. read_at frames k d (frame_of (f.0).decoding_index)
          (ap (λ l. slice_get l k) h.frames_are ∙ slice_get-map (λ s. frame_of s.decoding_index) b.frames k ∙ ap (option_map (λ s. frame_of s.decoding_index)) f.2);
    }

pub slot_bumped : (slots slots1 slots' : List Slot) (frames frames' : List (Frame 16)) (out out' : List Picture) (k : ℕ) (f : Frame 16)
    → Some k ≡ option_map (λ (p : ℕ × ℤ). p.0) (first_output_from 0 slots) → f ≡ get_or frames k f → slots1 ≡ slot_changed_at slot_let_go slots k
    → slots' ≡ chosen (are_needed slots1 frames) slots1 → frames' ≡ chosen (are_needed slots1 frames) frames
    → out' ≡ out ++ filter_map shown_frame (f ∷ []) → Bumps slots frames out slots' frames' out'
slot_bumped slots slots1 slots' frames frames' out out' k f is f_is set slots_is frames_is out_is = λ b next frame_of references h.
    let o = found slots frames k references b next frame_of is h in
    let first = o.first in
    let mid : Buffer = record { frames = map (no_longer_needed first) b.frames; out = b.out ++ first.decoding_index ∷ [] } in
    let changed : mid.frames ≡ slice_set b.frames k (not_needed first) = not_needed_at b.frames next k first h.rising o.there in
    let slots_are : slots1 ≡ map slot_of mid.frames =
    set ∙ ap (λ l. slot_changed_at slot_let_go l k) h.slots_are
    ∙ changed_there slot_let_go (map slot_of b.frames) k (slot_of first) (slice_get-map slot_of b.frames k ∙ ap (option_map slot_of) o.there)
    ∙ sym (map-set slot_of b.frames k (not_needed first)) ∙ ap (map slot_of) (sym changed) in
    let stands = stand_for slots1 frames references mid next frame_of slots_are (h.frames_are ∙ sym (unneeded_indices frame_of first b.frames))
    (each_unneeded (Tells frame_of references) first b.frames (told h))
    (unneeded_rising first b.frames next h.rising) in
    record {
      since = first.decoding_index ∷ [];
      grows = ap (λ c. c.out) o.after;
      stand = subst (λ c. StandFor slots' frames' references c next frame_of) (sym o.after) (needless_leave slots' frames' stands slots_is frames_is);
      pictures = out_is ∙ ap (λ z. out ++ filter_map shown_frame (z ∷ [])) (f_is ∙ o.frame f);
    }

pub none_bumped : (slots : List Slot) (frames : List (Frame 16)) (out : List Picture) → None ≡ option_map (λ (p : ℕ × ℤ). p.0) (first_output_from 0 slots)
    → Bumps slots frames out slots frames out
none_bumped slots frames out is = λ b next frame_of references h.
    let none = find_none b.frames (first_needed b.frames) (first_output_from 0 (map slot_of b.frames)) (agree b.frames 0 next h.rising)
    (is ∙ ap (λ l. option_map (λ (p : ℕ × ℤ). p.0) (first_output_from 0 l)) h.slots_are) in
    same_buffer (after_bumping references b) out (bumped_none references b (head_needed b.frames ∙ none)) h

pub shows_first : (slots : List Slot) (frames : List (Frame 16)) (k : ℕ) (f : Frame 16)
    → Some k ≡ option_map (λ (p : ℕ × ℤ). p.0) (first_output_from 0 slots) → f ≡ get_or frames k f → filter_map shown_frame (f ∷ []) ≢ []
    → ShowsFirst slots frames
shows_first slots frames k f is f_is some = λ b next frame_of references h.
    let o = found slots frames k references b next frame_of is h in
    record {
      since = o.first.decoding_index ∷ [];
      grows = ap (λ c. c.out) o.after;
      some = λ nil. some (ap (λ z. filter_map shown_frame (z ∷ [])) (f_is ∙ o.frame f) ∙ nil);
    }

-- ---- how long it goes on

count_slots : (fs : List Stored) → count_by (λ s. s.needed_for_output) (map slot_of fs) ≡ count_by (λ s. s.needed_for_output) fs
count_slots fs = from' 0 fs
  where
    from' : (n : ℕ) (fs : List Stored) → fold (λ n (s : Slot). n + cond s.needed_for_output 1 0) n (map slot_of fs) ≡ fold (λ n (s : Stored). n + cond s.needed_for_output 1 0) n fs
    from' n [] = refl
    from' n (s ∷ fs) = from' (n + cond s.needed_for_output 1 0) fs

first_slots : (order : ℤ) (fs : List Stored) → list_all (λ s. not s.needed_for_output || int_lt order s.pic_order_cnt) (map slot_of fs) ≡ list_all (λ s. not s.needed_for_output || int_lt order s.pic_order_cnt) fs
first_slots order [] = refl
first_slots order (s ∷ fs) = ap (λ t. (not s.needed_for_output || int_lt order s.pic_order_cnt) && t) (first_slots order fs)

same_test : (bumping : Bumping) (references : List ℕ) (slots : List Slot) (b : Buffer) → slots ≡ map slot_of b.frames → goes_on bumping slots ≡ goes_on_in bumping references b
same_test bumping references slots b is = grind (arith, ℕ, nat_le, length-map, first_slots, count_slots)

-- So many bumpings were made of those that may be; `now` is the buffer after them.
pub record IsSoFar (bumping : Bumping) (needed_for_output turn : ℕ) (slots : List Slot) (frames : List (Frame 16)) (references : List ℕ) (b : Buffer) (next : ℕ)
    (frame_of : ℕ → Frame 16) (out out' : List Picture) : Type 0 where
  pub now : Buffer
  pub become : Become slots frames references b now next frame_of out out'
  pub left : after_bumping_while (goes_on_in bumping references) references (needed_for_output - turn) now ≡ after_bumping_while (goes_on_in bumping references) references needed_for_output b

abbrev pub SoFar : Bumping → (needed_for_output turn : ℕ) (slots : List Slot) (frames : List (Frame 16)) (out : List Picture) (slots' : List Slot) (frames' : List (Frame 16))
    (out' : List Picture) → Type 0
SoFar bumping needed_for_output turn slots frames out slots' frames' out' =
    (b : Buffer) (next : ℕ) (frame_of : ℕ → Frame 16) (references : List ℕ) → StandFor slots frames references b next frame_of
    → IsSoFar bumping needed_for_output turn slots' frames' references b next frame_of out out'

pub at_start : (bumping : Bumping) (needed_for_output : ℕ) (slots : List Slot) (frames : List (Frame 16)) (out : List Picture) → SoFar bumping needed_for_output 0 slots frames out slots frames out
at_start bumping needed_for_output slots frames out = grind (arith, same_buffer)

goes_more : (bumping : Bumping) (references : List ℕ) (needed_for_output turn : ℕ) (slots : List Slot) (b : Buffer) → turn < needed_for_output → goes_on bumping slots ≡ true → slots ≡ map slot_of b.frames
    → after_bumping_while (goes_on_in bumping references) references (needed_for_output - (turn + 1)) (after_bumping references b)
    ≡ after_bumping_while (goes_on_in bumping references) references (needed_for_output - turn) b
goes_more bumping references needed_for_output turn slots b low goes is =
    let count : suc (needed_for_output - (turn + 1)) ≡ needed_for_output - turn = omega arith in
    sym (one_more (goes_on_in bumping references) references (needed_for_output - (turn + 1)) b (sym (same_test bumping references slots b is) ∙ goes))
    ∙ ap (λ n. after_bumping_while (goes_on_in bumping references) references n b) count

pub one_so_far : (bumping : Bumping) (needed_for_output turn : ℕ) (slots0 slots slots' : List Slot) (frames0 frames frames' : List (Frame 16)) (out0 out out' : List Picture)
    → turn < needed_for_output → goes_on bumping slots ≡ true → SoFar bumping needed_for_output turn slots0 frames0 out0 slots frames out → Bumps slots frames out slots' frames' out'
    → SoFar bumping needed_for_output (turn + 1) slots0 frames0 out0 slots' frames' out'
one_so_far bumping needed_for_output turn slots0 slots slots' frames0 frames frames' out0 out out' low goes so_far bumps = λ b next frame_of references h.
    let f = so_far b next frame_of references h in
    record {
      now = after_bumping references f.now;
      become = in_turn f.become (bumps f.now next frame_of references f.become.stand);
      left = goes_more bumping references needed_for_output turn slots f.now low goes f.become.stand.slots_are ∙ f.left;
    }

-- all that may be are as many as are needed for output
all_are : (bumping : Bumping) (references : List ℕ) (needed_for_output : ℕ) (slots : List Slot) (b : Buffer) → needed_for_output ≡ count_by (λ s. s.needed_for_output) slots → slots ≡ map slot_of b.frames
    → after_bumping_while (goes_on_in bumping references) references needed_for_output b ≡ after_making_room (goes_on_in bumping references) references b
all_are bumping references needed_for_output slots b count is = grind (arith, count_slots)

ended : (bumping : Bumping) (needed_for_output turn : ℕ) (slots0 slots : List Slot) (frames0 frames : List (Frame 16)) (out0 out : List Picture)
    → needed_for_output ≡ count_by (λ s. s.needed_for_output) slots0 → SoFar bumping needed_for_output turn slots0 frames0 out0 slots frames out
    → ((references : List ℕ) (b : Buffer) → slots ≡ map slot_of b.frames → after_bumping_while (goes_on_in bumping references) references (needed_for_output - turn) b ≡ b)
    → BumpsWhile bumping slots0 frames0 out0 slots frames out
ended bumping needed_for_output turn slots0 slots frames0 frames out0 out count so_far end = λ b next frame_of references h.
    let f = so_far b next frame_of references h in
    subst (λ c. Become slots frames references b c next frame_of out0 out)
    (sym (end references f.now f.become.stand.slots_are) ∙ f.left ∙ all_are bumping references needed_for_output slots0 b count h.slots_are) f.become

pub stopped : (bumping : Bumping) (needed_for_output turn : ℕ) (slots0 slots : List Slot) (frames0 frames : List (Frame 16)) (out0 out : List Picture)
    → needed_for_output ≡ count_by (λ s. s.needed_for_output) slots0 → goes_on bumping slots ≡ false → SoFar bumping needed_for_output turn slots0 frames0 out0 slots frames out
    → BumpsWhile bumping slots0 frames0 out0 slots frames out
stopped bumping needed_for_output turn slots0 slots frames0 frames out0 out count stop so_far =
    ended bumping needed_for_output turn slots0 slots frames0 frames out0 out count so_far
    (λ references b is. stops (goes_on_in bumping references) references (needed_for_output - turn) b (sym (same_test bumping references slots b is) ∙ stop))

pub all_turns : (bumping : Bumping) (needed_for_output turn : ℕ) (slots0 slots : List Slot) (frames0 frames : List (Frame 16)) (out0 out : List Picture)
    → needed_for_output ≡ count_by (λ s. s.needed_for_output) slots0 → needed_for_output - turn ≡ 0 → SoFar bumping needed_for_output turn slots0 frames0 out0 slots frames out
    → BumpsWhile bumping slots0 frames0 out0 slots frames out
all_turns bumping needed_for_output turn slots0 slots frames0 frames out0 out count none so_far =
    ended bumping needed_for_output turn slots0 slots frames0 frames out0 out count so_far
    (λ references b is. ap (λ n. after_bumping_while (goes_on_in bumping references) references n b) none)

-- a picture that could not be added is one of those that go out
pub shows_while : (bumping : Bumping) (needed_for_output turn : ℕ) (slots0 slots : List Slot) (frames0 frames : List (Frame 16)) (out0 out : List Picture)
    → needed_for_output ≡ count_by (λ s. s.needed_for_output) slots0 → turn < needed_for_output → goes_on bumping slots ≡ true → SoFar bumping needed_for_output turn slots0 frames0 out0 slots frames out
    → ShowsFirst slots frames → ShowsWhile bumping slots0 frames0
shows_while bumping needed_for_output turn slots0 slots frames0 frames out0 out count low goes so_far shows = λ b next frame_of references h.
    let f = so_far b next frame_of references h in
    let first = shows f.now next frame_of references f.become.stand in
    let after = after_bumping references f.now in
    let more = grows_while (goes_on_in bumping references) references (needed_for_output - (turn + 1)) after in
    let all : after_bumping_while (goes_on_in bumping references) references (needed_for_output - (turn + 1)) after ≡ after_making_room (goes_on_in bumping references) references b =
    goes_more bumping references needed_for_output turn slots f.now low goes f.become.stand.slots_are ∙ f.left ∙ all_are bumping references needed_for_output slots0 b count h.slots_are in
    record {
      since = f.become.since ++ (first.since ++ more.0);
      grows = grind (arith, all, more.1, first.grows, f.become.grows, append_assoc);
      some = grind (arith, first.some, filter_map-append, nil_middle);
    }

-- ---- the arriving frame finds its place

shown_if : (frame_of : ℕ → Frame 16) (next : ℕ) (frame : Frame 16) (b : Bool) → frame_of next ≡ frame
    → (if b then filter_map shown_frame (frame ∷ []) else []) ≡ filter_map (λ e. shown_frame (frame_of e)) (if b then next ∷ [] else [])
shown_if frame_of next frame b is = grind arith

full_is : (capacity : ℕ) (slots : List Slot) (b : Buffer) → slots ≡ map slot_of b.frames → nat_le capacity (length slots) ≡ is_full capacity b
full_is capacity slots b is = ap (nat_le capacity) (ap length is ∙ length-map b.frames slot_of)

pub goes_at_once : (slots : List Slot) (frames : List (Frame 16)) (out out' : List Picture) (frame : Frame 16) (a : ArrivingFrame)
    → nat_le a.capacity (length slots) ≡ true → out' ≡ out ++ (if a.existing then filter_map shown_frame (frame ∷ []) else [])
    → PlacesFrame slots frames out frame a slots frames out'
goes_at_once slots frames out out' frame a full out_is = grind (arith, full_is, rising_more, shown_if)

pub is_stored : (slots slots' : List Slot) (frames frames' : List (Frame 16)) (out : List Picture) (frame : Frame 16) (a : ArrivingFrame)
    → nat_le a.capacity (length slots) ≡ false → slots' ≡ slots ++ record { pic_order_cnt = a.pic_order_cnt; needed_for_output = a.existing } ∷ [] → frames' ≡ frames ++ frame ∷ []
    → PlacesFrame slots frames out frame a slots' frames' out
is_stored slots slots' frames frames' out frame a full slots_is frames_is =
    grind (arith, full_is, append-nil, stand_for, map-append, each_push, told, rising_push)

-- ---- a frame is stored

pub stored : (c new : Contents) (a : ArrivingFrame) (frame : Frame 16) (slots1 slots2 slots3 slots4 : List Slot) (frames1 frames2 frames3 frames4 : List (Frame 16))
    (out2 out3 out4 : List Picture) → slots1 ≡ chosen (are_needed c.slots c.frames) c.slots → frames1 ≡ chosen (are_needed c.slots c.frames) c.frames
    → BumpsWhile (ForRoom a) slots1 frames1 [] slots2 frames2 out2 → PlacesFrame slots2 frames2 out2 frame a slots3 frames3 out3
    → BumpsWhile (ForFew c.output a) slots3 frames3 out3 slots4 frames4 out4
    → new ≡ record { slots = slots4; frames = frames4; output = c.output; failed = false } → Stores c frame a out4 new
stored c new a frame slots1 slots2 slots3 slots4 frames1 frames2 frames3 frames4 out2 out3 out4 slots_is frames_is room placed few new_is =
    λ b next frame_of references h marks is own.
    let start : StandFor c.slots c.frames references b next frame_of = record { slots_are = h.slots; frames_are = h.frames; marks = marks; rising = h.rising } in
    let one = room (record b { frames = needed_frames references b.frames }) next frame_of references (needless_leave slots1 frames1 start slots_is frames_is) in
    let two = placed _ next frame_of references one.stand is own in
    let three = few _ (next + 1) frame_of references two.stand in
    let all = in_turn (in_turn one two) three in
    let last = after_frame c.output next (arrival_of a references) b in
    record {
      buffer = subst (λ n. IsBuffer n last (next + 1) frame_of) (sym new_is)
          (record { works = refl; slots = all.stand.slots_are; frames = all.stand.frames_are; rising = all.stand.rising });
      pictures = all.pictures ∙ ap (filter_map (λ e. shown_frame (frame_of e))) (sym (grown b last all.since all.grows));
    }

-- ---- all pictures go out

abbrev stands_in : List ℕ → ℕ → Bool
stands_in es e = list_any (λ r. r == e) es

among_filtered : (p : ℕ → Bool) (e : ℕ) (es : List ℕ) → stands_in (filter p es) e ≡ (p e && stands_in es e)
among_filtered p e [] = grind arith
among_filtered p e (x ∷ es) = grind (arith, nat_tests, (among_filtered p e es))

stands_filtered : (p : ℕ → Bool) (e : ℕ) (es : List ℕ) → stands_in es e ≡ true → stands_in (filter p es) e ≡ p e
stands_filtered p e es h = grind (arith, among_filtered p e es)

each_among : (es : List ℕ) (frames : List Stored) → ((e : ℕ) → stands_in (map (λ s. s.decoding_index) frames) e ≡ true → stands_in es e ≡ true)
    → Each (λ e. stands_in es e ≡ true) frames
each_among es [] up = tt
each_among es (s ∷ frames) up =
    grind (arith, or_left, or_right, eq-eqb, (each_among es frames (λ e h. up e (or_right (s.decoding_index == e) (stands_in (map (λ s. s.decoding_index) frames) e) h))))

-- the reference frames that the marks tell of
record HasReferences (c : Contents) (b : Buffer) (next : ℕ) (frame_of : ℕ → Frame 16) : Type 0 where
  references : List ℕ
  stand : StandFor c.slots c.frames references b next frame_of

has_references : (c : Contents) (b : Buffer) (next : ℕ) (frame_of : ℕ → Frame 16) → IsBuffer c b next frame_of → HasReferences c b next frame_of
has_references c b next frame_of h =
    let indices : List ℕ = map (λ s. s.decoding_index) b.frames in
    let p : ℕ → Bool = λ e. is_used_for_reference (frame_of e) in
    record {
      references = filter p indices;
      stand = stand_for c.slots c.frames (filter p indices) b next frame_of h.slots h.frames
          (each_also (λ e. stands_in indices e ≡ true) (Tells frame_of (filter p indices)) (λ e among. sym (stands_filtered p e indices among)) b.frames
          (each_among indices b.frames (λ e among. among))) h.rising;
    }

pub all_slots_out : (c new : Contents) (slots : List Slot) (frames : List (Frame 16)) (out : List Picture) → BumpsWhile ForNone c.slots c.frames [] slots frames out
    → new ≡ record { slots = []; frames = []; output = c.output; failed = false } → OutputsAll c out new
all_slots_out c new slots frames out bumps new_is = λ b next frame_of h.
    let has = has_references c b next frame_of h in
    let all = bumps b next frame_of has.references has.stand in
    record {
      buffer = subst (λ n. IsBuffer n (with_all_output b) next frame_of) (sym new_is) (record { works = refl; slots = refl; frames = refl; rising = tt });
      pictures = all.pictures ∙ ap (filter_map (λ e. shown_frame (frame_of e)))
          (sym (grown b (with_all_output b) all.since (all_go_out_by_bumping has.references b next h.rising ∙ all.grows)));
    }

pub shows_some : (c : Contents) → ShowsWhile ForNone c.slots c.frames → OutputsSome c
shows_some c shows = λ b next frame_of h nil.
    let has = has_references c b next frame_of h in
    let all = shows b next frame_of has.references has.stand in
    all.some (ap (filter_map (λ e. shown_frame (frame_of e)))
    (sym (grown b (with_all_output b) all.since (all_go_out_by_bumping has.references b next h.rising ∙ all.grows))) ∙ nil)

-- ---- worked examples of output order

abbrev at : ℕ → Bool → List ℕ → Arrival
at order is_reference references =
    record { pic_order_cnt = pos order; existing = true; is_reference = is_reference; prior_pictures = remain; capacity = 1; max_num_reorder_frames = None; references = references }

-- with one frame of room an IDR picture waits for the next picture
waits : (buffer_after Full (at 0 true (0 ∷ []) ∷ [])).out ≡ []
waits = refl

bumps_row : (buffer_after Full (at 2 true (1 ∷ []) ∷ at 0 true (0 ∷ []) ∷ [])).out ≡ 0 ∷ []
bumps_row = refl

-- orders 0, 4, 2 with room for two frames go out as 0, 2, 4
abbrev two : Arrival → Arrival
two a = record a { capacity = 2 }

by_order : (with_all_output (buffer_after Full (two (at 2 false (1 ∷ [])) ∷ two (at 4 true (1 ∷ [])) ∷ two (at 0 true (0 ∷ [])) ∷ []))).out ≡ 0 ∷ 2 ∷ 1 ∷ []
by_order = refl

-- Full of references: the reference before goes out first, and then a picture that is none goes out at once.
with_direct_output_row : (buffer_after Full (at 2 false (0 ∷ []) ∷ at 0 true (0 ∷ []) ∷ [])).out ≡ 0 ∷ 1 ∷ []
with_direct_output_row = refl

-- What is needed for output goes out with operation 5.
puts : (buffer_after Full (record (two (at 0 true (2 ∷ []))) { prior_pictures = are_output } ∷ two (at 2 true (0 ∷ 1 ∷ [])) ∷ two (at 4 true (0 ∷ [])) ∷ [])).out ≡ 1 ∷ 0 ∷ []
puts = refl

-- A frame that stands for a missing number makes room and never goes out.
no_picture : (with_all_output (buffer_after Full (record (at 0 true (1 ∷ [])) { existing = false } ∷ at 0 true (0 ∷ []) ∷ []))).out ≡ 0 ∷ []
no_picture = refl

-- Where one picture may stay needed for output, the first of two goes out, early alone.
abbrev four : Arrival → Arrival
four a = record a { capacity = 4; max_num_reorder_frames = Some 1 }

stay : (buffer_after Full (four (at 2 true (0 ∷ 1 ∷ 2 ∷ [])) ∷ four (at 4 true (0 ∷ 1 ∷ [])) ∷ four (at 0 true (0 ∷ [])) ∷ [])).out ≡ []
stay = refl

two_needed : (buffer_after Early (four (at 4 true (0 ∷ 1 ∷ [])) ∷ four (at 0 true (0 ∷ [])) ∷ [])).out ≡ 0 ∷ []
two_needed = refl

two_more : (buffer_after Early (four (at 2 true (0 ∷ 1 ∷ 2 ∷ [])) ∷ four (at 4 true (0 ∷ 1 ∷ [])) ∷ four (at 0 true (0 ∷ [])) ∷ [])).out ≡ 0 ∷ 2 ∷ []
two_more = refl

-- as many as may stay so
one_needed : (buffer_after Early (four (at 0 true (0 ∷ [])) ∷ [])).out ≡ []
one_needed = refl

-- without a number
no_limit : (buffer_after Early (record (four (at 4 true (0 ∷ 1 ∷ []))) { max_num_reorder_frames = None } ∷ four (at 0 true (0 ∷ [])) ∷ [])).out ≡ []
no_limit = refl
