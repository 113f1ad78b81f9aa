-- Missing frame numbers before a picture, many or few.
pub mod Entries
unfoldable pub use Entries.*
use Rattle.avc_decoder_core.specs.FrameBufferState.{Stores}
use Rattle.avc_decoder_core.specs.History.{marking_entry}

-- ---- missing numbers before a picture

pub ok_same : {A : Type 0} (x y : A) → ◌≡◌ {A = Result A Fault} (Ok x) (Ok y) → x ≡ y
ok_same x y e = cc

-- ---- one number after another

pub next_number : (numbers : List ℕ) (n : ℕ) → slice_get numbers 0 ≡ Some n → numbers ≡ n ∷ drop 1 numbers
next_number numbers n e = grind arith

pub no_number : (numbers : List ℕ) → slice_get numbers 0 ≡ None → numbers ≡ []
no_number [] e = refl
no_number (m ∷ numbers) e = cc

-- ---- the history with all of them

pub unless_fault : {A B : Type 0} (r : Result A Fault) (f : A → Result B Fault) → is_ok (r >>= f) ≡ true → is_ok r ≡ true
unless_fault r f e = grind arith

pub follows : {A B : Type 0} (r : Result A Fault) (f : Result B Fault) → is_ok r ≡ true → (r >>= λ _. f) ≡ f
follows r f e = grind arith

pub fault_stays : {A B : Type 0} (r : Result A Fault) (g : Fault) (f : A → Result B Fault) → r ≡ Err g → (r >>= f) ≡ Err g
fault_stays r g f e = rw e

-- the first can be marked where all can
pub first_marked : (sps : Sps) (n : ℕ) (numbers : List ℕ) (history : History) → is_ok (with_missing sps (n ∷ numbers) history) ≡ true
    → is_ok (marks_of (missing_frame sps n ∷ history)) ≡ true
first_marked sps n numbers history e = unless_fault (marks_of (missing_frame sps n ∷ history)) (λ m. with_missing sps numbers (missing_frame sps n ∷ history)) e

-- then the others are left
pub one_stored : (sps : Sps) (n : ℕ) (numbers : List ℕ) (history : History) → is_ok (marks_of (missing_frame sps n ∷ history)) ≡ true
    → with_missing sps (n ∷ numbers) history ≡ with_missing sps numbers (missing_frame sps n ∷ history)
one_stored sps n numbers history e = follows (marks_of (missing_frame sps n ∷ history)) (with_missing sps numbers (missing_frame sps n ∷ history)) e

pub none_counted : (sps : Sps) (numbers : List ℕ) (reached full : History) → slice_get numbers 0 ≡ None → with_all_missing sps numbers reached ≡ full → reached ≡ full
none_counted sps numbers reached full e is = ap (λ l. with_all_missing sps l reached) (sym (no_number numbers e)) ∙ is

pub one_counted : (sps : Sps) (numbers : List ℕ) (n : ℕ) (reached full : History) → slice_get numbers 0 ≡ Some n → with_all_missing sps numbers reached ≡ full
    → with_all_missing sps (drop 1 numbers) (missing_frame sps n ∷ reached) ≡ full
one_counted sps numbers n reached full e is = ap (λ l. with_all_missing sps l reached) (sym (next_number numbers n e)) ∙ is

-- of these numbers the first can be marked, and then the others are left
pub left_after : (sps : Sps) (numbers : List ℕ) (n : ℕ) (history : History) → slice_get numbers 0 ≡ Some n → is_ok (with_missing sps numbers history) ≡ true
    → with_missing sps (drop 1 numbers) (missing_frame sps n ∷ history) ≡ with_missing sps numbers history
left_after sps numbers n history e marked = grind (arith, next_number, one_stored, first_marked)

pub is_with_all : (sps : Sps) (numbers : List ℕ) (history full : History) → with_missing sps numbers history ≡ Ok full → full ≡ with_all_missing sps numbers history
is_with_all sps [] history full e = sym (ok_same history full e)
is_with_all sps (n ∷ numbers) history full e =
    let marked = first_marked sps n numbers history (ap is_ok e) in
    is_with_all sps numbers (missing_frame sps n ∷ history) full (sym (one_stored sps n numbers history marked) ∙ e)

pub set_stays : (sps : Sps) (numbers : List ℕ) (history : History) → sequence_sps (with_all_missing sps numbers history) ≡ sequence_sps history
set_stays sps [] history = refl
set_stays sps (n ∷ numbers) history = set_stays sps numbers (missing_frame sps n ∷ history)

pub same_set : (sps : Sps) (numbers : List ℕ) (history full : History) → with_missing sps numbers history ≡ Ok full → sequence_sps full ≡ sequence_sps history
same_set sps numbers history full e = ap sequence_sps (is_with_all sps numbers history full e) ∙ set_stays sps numbers history

-- ---- once the first can be marked, all can (8.2.5.3)

window_again : (s s' : MarkingEntry) (index index' : ℕ) (r : Result Marks Fault) → is_ok (r >>= marks_after s index (Some SlidingWindow)) ≡ true →
    is_ok (r >>= marks_after s index (Some SlidingWindow) >>= marks_after s' index' (Some SlidingWindow)) ≡ true
window_again s s' index index' r e = grind (arith, slides_again)

next_marked : (sps : Sps) (n k : ℕ) (history : History) → is_ok (marks_of (missing_frame sps n ∷ history)) ≡ true
    → is_ok (marks_of (missing_frame sps k ∷ missing_frame sps n ∷ history)) ≡ true
next_marked sps n k history e = search (window_again, arith)

pub all_marked : (sps : Sps) (n : ℕ) (numbers : List ℕ) (history : History) → is_ok (marks_of (missing_frame sps n ∷ history)) ≡ true
    → with_missing sps (n ∷ numbers) history ≡ Ok (with_all_missing sps (n ∷ numbers) history)
all_marked sps n [] history e = one_stored sps n [] history e
all_marked sps n (k ∷ numbers) history e =
    one_stored sps n (k ∷ numbers) history e ∙ all_marked sps k numbers (missing_frame sps n ∷ history) (next_marked sps n k history e)

-- ---- what the functions answer

abbrev pub unit_of : Result Marks Fault → Result (Unit {0}) Fault
unit_of r = result_map (λ _. tt) r

-- the first can't be marked
pub first_refused : (sps : Sps) (numbers : List ℕ) (n : ℕ) (history : History) (f : Fault) → slice_get numbers 0 ≡ Some n
    → Err f ≡ unit_of (marks_of (missing_frame sps n ∷ history)) → Err f ≡ counts_over (with_missing sps numbers history)
first_refused sps numbers n history f e told = rw (next_number numbers n e) (grind arith)

pub marking_is_ok : (r : Result Marks Fault) (x : Unit {0}) → Ok x ≡ unit_of r → is_ok r ≡ true
marking_is_ok r x t = grind arith

-- all were counted
pub all_counted : (sps : Sps) (numbers : List ℕ) (n : ℕ) (history : History) (counts : OrderCountState) → slice_get numbers 0 ≡ Some n
    → is_ok (marks_of (missing_frame sps n ∷ history)) ≡ true
    → counts ≡ order_count_state (pasts (with_all_missing sps (drop 1 numbers) (missing_frame sps n ∷ history)))
    → Ok counts ≡ counts_over (with_missing sps numbers history)
all_counted sps numbers n history counts e marked told = grind (arith, next_number, all_marked)

-- the order count of the picture
pub counted_next : (sps : Sps) (h : Header) (missing : List ℕ) (history : History) (top bottom order : ℤ) (counts : OrderCountState) → order ≡ int_min top bottom
    → Ok (top, bottom) ≡ count_pair (order_counts sps h (pasts history)) → counts ≡ order_count_state (picture sps h ∷ pasts history)
    → Ok (record { missing = missing; pic_order_cnt = order; poc = counts }) ≡ result_map (opening_on sps h missing) (with_order_counts sps h history)
counted_next sps h missing history top bottom order counts least told after = by (order_counts sps h (pasts history)) refl
  where
    by : (r : Result Counts Fault) → order_counts sps h (pasts history) ≡ r
        → Ok (record { missing = missing; pic_order_cnt = order; poc = counts }) ≡ result_map (opening_on sps h missing) (r >>= λ c. Ok history)
    by (Ok c) is =
        let pairs = ok_same (top, bottom) (pair c) (told ∙ ap count_pair is) in
        ap₂ (λ (n : ℤ) (kept : OrderCountState). Ok (record { missing = missing; pic_order_cnt = n; poc = kept }))
        (least ∙ ap (λ (p : ℤ × ℤ). int_min p.0 p.1) pairs ∙ sym (ap order_or_0 is)) after
    by (Err f) is = let fault = told ∙ ap count_pair is in cc

pub not_counted : (sps : Sps) (h : Header) (missing : List ℕ) (history : History) (f : Fault) → Err f ≡ count_pair (order_counts sps h (pasts history))
    → Err f ≡ result_map (opening_on sps h missing) (with_order_counts sps h history)
not_counted sps h missing history f told = by (order_counts sps h (pasts history)) told
  where
    by : (r : Result Counts Fault) → Err f ≡ count_pair r → Err f ≡ result_map (opening_on sps h missing) (r >>= λ c. Ok history)
    by r t = grind arith

-- ---- what opening makes of the history

pub opened_idr : (sps : Sps) (h : Header) (history : History) → is_idr h ≡ true → history_at_opening sps h history ≡ (with_order_counts sps h [] >>= λ none. Ok history)
opened_idr sps h history e = grind arith

pub opened_other : (sps : Sps) (h : Header) (history : History) → is_idr h ≡ false
    → history_at_opening sps h history ≡ (missing_before sps h history >>= λ numbers. with_missing sps numbers history >>= λ full. with_order_counts sps h full)
opened_other sps h history e = grind arith

-- a picture that can be opened has these numbers before it
pub record IsOpenedBy (sps : Sps) (h : Header) (history full : History) : Type 0 where
  pub numbers : List ℕ
  pub missing : with_missing sps numbers history ≡ Ok full
  pub same : is_idr h ≡ false → is_same_sps (sequence_sps history) sps ≡ true

with_counts : {A : Type 0} (r : Result A Fault) (x full : History) → (r >>= λ c. Ok x) ≡ Ok full → x ≡ full
with_counts r x full e = grind arith

with_numbers : (sps : Sps) (h : Header) (full : History) (r : Result History Fault) → (r >>= λ full. with_order_counts sps h full) ≡ Ok full → r ≡ Ok full
with_numbers sps h full (Ok x) e = ap Ok (with_counts (order_counts sps h (pasts x)) x full e)
with_numbers sps h full (Err f) e = cc

same_set_known : (sps : Sps) (h : Header) (history : History) (numbers : List ℕ) → missing_before sps h history ≡ Ok numbers
    → is_same_sps (sequence_sps history) sps ≡ true
same_set_known sps h history numbers known = grind arith

by_numbers : (sps : Sps) (h : Header) (history full : History) (r : Result (List ℕ) Fault) → missing_before sps h history ≡ r
    → (r >>= λ numbers. with_missing sps numbers history >>= λ full. with_order_counts sps h full) ≡ Ok full → IsOpenedBy sps h history full
by_numbers sps h history full (Ok numbers) known e = record {
  numbers = numbers;
  missing = with_numbers sps h full (with_missing sps numbers history) e;
  same = λ _. same_set_known sps h history numbers known;
}
by_numbers sps h history full (Err f) known e = cc

pub opened_by : (sps : Sps) (h : Header) (history full : History) → history_at_opening sps h history ≡ Ok full → IsOpenedBy sps h history full
opened_by sps h history full e = by (is_idr h) refl
  where
    by : (b : Bool) → is_idr h ≡ b → IsOpenedBy sps h history full
    by true idr = record {
      numbers = [];
      missing = ap Ok (with_counts (with_order_counts sps h []) history full (sym (opened_idr sps h history idr) ∙ e));
      same = λ other. cc;
    }
    by false idr = by_numbers sps h history full (missing_before sps h history) refl (sym (opened_other sps h history idr) ∙ e)

pub set_at_opening : (sps : Sps) (h : Header) (history full : History) → history_at_opening sps h history ≡ Ok full → sequence_sps full ≡ sequence_sps history
set_at_opening sps h history full e = let o = opened_by sps h history full e in same_set sps o.numbers history full o.missing

pub can_follow : (sps : Sps) (h : Header) (history full : History) → (is_idr h ≡ true → has_idr_marking h ≡ true) → is_some h.marking ≡ is_reference h → history_at_opening sps h history ≡ Ok full → CanFollow full sps h
can_follow sps h history full marking reference e = grind (arith, set_at_opening, opened_by)

-- ---- how opening ends

-- where the missing numbers are known
other_opened : (sps : Sps) (h : Header) (history : History) (numbers : List ℕ) → is_idr h ≡ false → Ok numbers ≡ missing_before sps h history
    → history_at_opening sps h history ≡ (with_missing sps numbers history >>= λ full. with_order_counts sps h full)
other_opened sps h history numbers idr known = grind (arith, opened_other)

pub refused_numbers : (sps : Sps) (h : Header) (history : History) (f : Fault) → is_idr h ≡ false → Err f ≡ missing_before sps h history → history_at_opening sps h history ≡ Err f
refused_numbers sps h history f idr e = grind (arith, opened_other, fault_stays)

pub refused_missing : (sps : Sps) (h : Header) (history : History) (numbers : List ℕ) (f : Fault) → is_idr h ≡ false → Ok numbers ≡ missing_before sps h history
    → Err f ≡ counts_over (with_missing sps numbers history) → history_at_opening sps h history ≡ Err f
refused_missing sps h history numbers f idr known e = other_opened sps h history numbers idr known ∙ by (with_missing sps numbers history) e
  where
    by : (r : Result History Fault) → Err f ≡ counts_over r → (r >>= λ full. with_order_counts sps h full) ≡ Err f
    by r e = grind arith

-- the order counts are those of the full history
pub record IsCountedOver (r : Result History Fault) (counts : OrderCountState) : Type 0 where
  pub full : History
  pub is : r ≡ Ok full
  pub state : counts ≡ order_count_state (pasts full)

pub counted_over : (r : Result History Fault) (counts : OrderCountState) → Ok counts ≡ counts_over r → IsCountedOver r counts
counted_over r counts e = grind (arith, ok_same)

pub opened_over : (sps : Sps) (h : Header) (history full : History) (numbers : List ℕ) → is_idr h ≡ false → Ok numbers ≡ missing_before sps h history
    → with_missing sps numbers history ≡ Ok full → history_at_opening sps h history ≡ with_order_counts sps h full
opened_over sps h history full numbers idr known is = grind (arith, other_opened)

-- what opening finds, where the missing numbers are known and the history `on` on which the picture is counted
finds : (sps : Sps) (h : Header) (history on full : History) (numbers : List ℕ) (counts : Result Counts Fault) (r : Result Opening Fault)
    → on ≡ earlier_in_sequence h full → history_at_opening sps h history ≡ (counts >>= λ c. Ok full) → with_missing sps numbers history ≡ Ok full
    → (0 < length numbers → is_same_sps (sequence_sps history) sps ≡ true) → r ≡ result_map (opening_on sps h numbers) (counts >>= λ c. Ok on)
    → Finds sps h history r
finds sps h history on full numbers counts r alone opens missing same is = grind arith

-- an IDR picture has no missing numbers before it, and is counted alone
pub finds_idr : (sps : Sps) (h : Header) (history : History) (numbers : List ℕ) (r : Result Opening Fault) → is_idr h ≡ true → numbers ≡ []
    → r ≡ result_map (opening_on sps h numbers) (with_order_counts sps h []) → Finds sps h history r
finds_idr sps h history numbers r idr none is =
    finds sps h history [] history numbers (order_counts sps h []) r (grind arith)
    (opened_idr sps h history idr ∙ then_ok (order_counts sps h []))
    (ap (λ l. with_missing sps l history) none) (λ some. absurd (omega (arith, ap length none, some))) is
  where
    empty : History
    empty = []

    then_ok : (r : Result Counts Fault) → ((r >>= λ c. Ok empty) >>= λ none. Ok history) ≡ (r >>= λ c. Ok history)
    then_ok r = grind arith

-- another picture is counted on the whole history
pub finds_other : (sps : Sps) (h : Header) (history full : History) (numbers : List ℕ) (r : Result Opening Fault) → is_idr h ≡ false
    → Ok numbers ≡ missing_before sps h history → with_missing sps numbers history ≡ Ok full
    → r ≡ result_map (opening_on sps h numbers) (with_order_counts sps h full) → Finds sps h history r
finds_other sps h history full numbers r idr known missing is =
    finds sps h history full full numbers (order_counts sps h (pasts full)) r (grind arith)
    (opened_over sps h history full numbers idr known missing) missing
    (λ some. same_set_known sps h history numbers (sym known)) is

-- ---- all at once

pub counts_from : (sps : Sps) (first n : ℕ) (history : History)
    → order_count_state (with_missing_from sps first n (pasts history)) ≡ order_count_state (pasts (with_all_missing sps (frame_nums_from (max_frame_num sps) first n) history))
counts_from sps first zero history = refl
counts_from sps first (suc n) history = counts_from sps (first + 1) n (missing_frame sps (first % max_frame_num sps) ∷ history)

pub counted_at_once : (sps : Sps) (numbers : List ℕ) (max first n : ℕ) (counts : OrderCountState) (history : History) → max ≡ max_frame_num sps
    → n ≡ length numbers → numbers ≡ frame_nums_from max first (length numbers) → counts ≡ order_count_state (with_missing_from sps first n (pasts history))
    → counts ≡ order_count_state (pasts (with_all_missing sps numbers history))
counted_at_once sps numbers max first n counts history max_is n_is numbers_are told = grind (arith, counts_from)

-- ---- the frames of missing numbers are stored one after another

-- of these numbers the ones before `rest` are stored, and these pictures have gone out
pub record HasStored (sps : Sps) (numbers : List ℕ) (from' : FrameBufferState) (rest : List ℕ) (now : FrameBufferState) (out : List Picture) : Type 0 where
  pub going : now.failed ≡ false
  pub same : 0 < length rest → is_same_sps (sequence_sps now.history) sps ≡ true
  pub left : with_missing sps rest now.history ≡ with_missing sps numbers from'.history
  pub output : now.output ≡ from'.output
  pub extends : Extends from'.output from'.history now.history
  pub pictures : out ≡ output_pictures from'.output from'.history now.history

pub some_left : (rest : List ℕ) (n : ℕ) → slice_get rest 0 ≡ Some n → 0 < length rest
some_left rest n first = omega (arith, ap length (next_number rest n first))

pub missing_is_stored : (sps : Sps) (numbers : List ℕ) (from' : FrameBufferState) (rest : List ℕ) (now : FrameBufferState) (out : List Picture) (n : ℕ) (rest' : List ℕ)
    (new : FrameBufferState) (more out' : List Picture) → HasStored sps numbers from' rest now out → is_ok (with_missing sps numbers from'.history) ≡ true →
    slice_get rest 0 ≡ Some n → rest' ≡ drop 1 rest → Stores now (missing_frame sps n) more new → out' ≡ out ++ more → HasStored sps numbers from' rest' new out'
missing_is_stored sps numbers from' rest now out n rest' new more out' h marked first rest_is stores out_is =
    let entry = missing_frame sps n in
    let after : new.history ≡ entry ∷ now.history = ap (λ (b : FrameBufferState). b.history) stores.state in
    record {
      going = ap (λ (b : FrameBufferState). b.failed) stores.state;
      same = λ more. ap (λ (h : History). is_same_sps (sequence_sps h) sps) after ∙ h.same (some_left rest n first);
      left = ap₂ (λ l h. with_missing sps l h) rest_is after ∙ left_after sps rest n now.history first (ap is_ok h.left ∙ marked) ∙ h.left;
      output = ap (λ (b : FrameBufferState). b.output) stores.state ∙ h.output;
      extends = subst (Extends from'.output from'.history) (sym after) (extends_more from'.output entry from'.history now.history h.extends);
      pictures =
          out_is
          ∙ ap₂ (λ (a b : List Picture). a ++ b) h.pictures (stores.pictures ∙ ap (λ (o : Output). output_pictures o now.history (entry ∷ now.history)) h.output)
          ∙ sym (output_more from'.output entry from'.history now.history h.extends) ∙ ap (output_pictures from'.output from'.history) (sym after);
    }

outputs_on : (output : Output) (sps : Sps) (numbers : List ℕ) (old mid : History) → Extends output old mid →
    output_pictures output old (with_all_missing sps numbers mid) ≡ output_pictures output old mid ++ output_pictures output mid (with_all_missing sps numbers mid)
outputs_on output sps [] old mid x = sym (ap (λ l. output_pictures output old mid ++ l) (sym (nothing_goes_out output mid)) ∙ append-nil (output_pictures output old mid))
outputs_on output sps (n ∷ numbers) old mid x =
    let e = missing_frame sps n in
    let full = with_all_missing sps numbers (e ∷ mid) in
    let itself = extends_itself output mid in
    outputs_on output sps numbers old (e ∷ mid) (extends_more output e old mid x)
    ∙ ap (λ l. l ++ output_pictures output (e ∷ mid) full) (output_more output e old mid x)
    ∙ append_assoc (output_pictures output old mid) (output_pictures output mid (e ∷ mid)) (output_pictures output (e ∷ mid) full)
    ∙ ap (λ l. output_pictures output old mid ++ l) (sym (outputs_on output sps numbers mid (e ∷ mid) (extends_more output e mid mid itself)
    ∙ ap (λ l. l ++ output_pictures output (e ∷ mid) full) (output_more output e mid mid itself ∙ ap (λ l. l ++ output_pictures output mid (e ∷ mid)) (sym (nothing_goes_out output mid)))))

-- and then all others at once
pub stored_rest : (sps : Sps) (numbers : List ℕ) (from' : FrameBufferState) (rest : List ℕ) (now : FrameBufferState) (out : List Picture)
    (new : FrameBufferState) (more out' : List Picture) → HasStored sps numbers from' rest now out → StoresAll now (with_missing sps rest now.history) more new →
    out' ≡ out ++ more → StoresAll from' (with_missing sps numbers from'.history) out' new
stored_rest sps numbers from' rest now out new more out' h stores out_is = search (rules, is_with_all, outputs_on)

-- ---- what goes out for missing numbers, of the pictures that are needed for output

-- with one number more
needed_longer : (output : Output) (sps : Sps) (n : ℕ) (history : History)
    → held_pictures output history ≡ output_pictures output history (missing_frame sps n ∷ history) ++ held_pictures output (missing_frame sps n ∷ history)
needed_longer output sps n history =
    let e = missing_frame sps n in
    let order : all_held output history ≡ new_output output history (e ∷ history) ++ all_held output (e ∷ history) =
    missing_frames_keep_the_order output (length (arrivals history)) (arrival e history) (buffer_of output history) (stands_in_decoding_order output (arrivals history)) refl refl in
    sym (pictures_stay e history (all_held output history) (needed_below output history))
    ∙ ap (pictures_at (e ∷ history)) order
    ∙ flat_map-append (λ index. entry_pictures (entry_at (e ∷ history) index)) (new_output output history (e ∷ history)) (all_held output (e ∷ history))

needed_along : (output : Output) (sps : Sps) (numbers : List ℕ) (old history full : History) → Extends output old history
    → held_pictures output old ≡ output_pictures output old history ++ held_pictures output history → with_missing sps numbers history ≡ Ok full
    → held_pictures output old ≡ output_pictures output old full ++ held_pictures output full
needed_along output sps [] old history full x so_far e = so_far ∙ ap (λ h. output_pictures output old h ++ held_pictures output h) (ok_same history full e)
needed_along output sps (n ∷ numbers) old history full x so_far e =
    let entry = missing_frame sps n in
    let marked = first_marked sps n numbers history (ap is_ok e) in
    needed_along output sps numbers old (entry ∷ history) full (extends_more output entry old history x)
    (so_far
    ∙ ap (λ l. output_pictures output old history ++ l) (needed_longer output sps n history)
    ∙ sym (append_assoc (output_pictures output old history) (output_pictures output history (entry ∷ history)) (held_pictures output (entry ∷ history)))
    ∙ ap (λ l. l ++ held_pictures output (entry ∷ history)) (sym (output_more output entry old history x)))
    (sym (one_stored sps n numbers history marked) ∙ e)

pub missing_numbers_keep_the_order : MissingNumbersKeepTheOrder
missing_numbers_keep_the_order output sps h history full e =
    let o = opened_by sps h history full e in
    needed_along output sps o.numbers history history full (extends_itself output history) (ap (λ l. l ++ held_pictures output history) (nothing_goes_out output history)) o.missing

-- ---- one more missing number in a settled window: entries among those of reference frames

below_all : (low next p : ℕ) (rs : List Reference) → p < low → StandFrom low next rs → is_index_of rs p ≡ false
below_all low next p [] before h = refl
below_all low next p (r ∷ rs) before h = grind (arith, nat_tests, below_all (r.decoding_index + 1) next p rs (omega arith) h.1)

above_all : (index p : ℕ) (rs : List Reference) → index ≤ p → StandBelow index rs → is_index_of rs p ≡ false
above_all index p [] low h = refl
above_all index p (r ∷ rs) low h = grind (arith, nat_tests, above_all index p rs low h.1)

-- ---- frames that stay, and frames that leave

stays_below : (index : ℕ) (rs all : List Reference) (frames : List Stored) → ((p : ℕ) → p < index → is_index_of all p ≡ is_index_of rs p) → AreBefore index frames →
    needed_frames (indices_of all) frames ≡ needed_frames (indices_of rs) frames
stays_below index rs all [] same h = refl
stays_below index rs all (s ∷ frames) same h = grind (arith, same s.decoding_index h.0, stays_below index rs all frames same h.1)

-- the frames of reference frames are among them
lasts_stay : (all rs : List Reference) (frames : List Stored) → ((p : ℕ) → is_index_of rs p ≡ true → is_index_of all p ≡ true) → AreNotNeeded rs frames →
    needed_frames (indices_of all) frames ≡ frames
lasts_stay all [] [] among h = refl
lasts_stay all [] (s ∷ frames) among h = absurd h
lasts_stay all (r ∷ rs) [] among h = absurd h
lasts_stay all (r ∷ rs) (s ∷ frames) among h =
    let own = among r.decoding_index in
    let rest = lasts_stay all rs frames (λ p here. let there = among p in grind (arith, there)) h.2 in
    grind (arith, nat_tests, own, rest)

-- ---- one more at the end

stand_on : (low lower next number : ℕ) (rs : List Reference) → lower ≤ low → StandFrom low next rs → StandFrom lower (suc next) (rs ++ missing_reference number next ∷ [])
stand_on low lower next number [] less h = omega arith
stand_on low lower next number (r ∷ rs) less h = grind (arith, stand_on (r.decoding_index + 1) (r.decoding_index + 1) next number rs (omega arith) h.1)

count_on : (max low lower number index : ℕ) (rs : List Reference) → lower ≤ low → CountFrom max low number rs →
    CountFrom max lower (number + 1) (rs ++ missing_reference (number % max) index ∷ [])
count_on max low lower number index [] less h = (number, (omega (arith, less, h), record { frame_num = refl; short = refl }, omega arith))
count_on max low lower number index (r ∷ rs) less h =
    (h.0, (omega (arith, less, (h.1).0), (h.1).1, count_on max (h.0 + 1) (h.0 + 1) number index rs (omega arith) (h.1).2))

not_needed_on : (number index : ℕ) (rs : List Reference) (frames : List Stored) → AreNotNeeded rs frames →
    AreNotNeeded (rs ++ missing_reference number index ∷ []) (frames ++ missing_stored index ∷ [])
not_needed_on number index [] [] h = (refl, refl, tt)
not_needed_on number index [] (s ∷ frames) h = absurd h
not_needed_on number index (r ∷ rs) [] h = absurd h
not_needed_on number index (r ∷ rs) (s ∷ frames) h = (h.0, h.1, not_needed_on number index rs frames h.2)

-- ---- one missing number

pub settled_once : (output : Output) (sps : Sps) (h : History) (low number index : ℕ) (stays : Staying) (r : Reference) (rs : List Reference) (s : Stored) (ss : List Stored) →
    IsSettled output sps h low number index stays (r ∷ rs) (s ∷ ss) → number < low + max_frame_num sps →
    IsSettled output sps (missing_frame sps (number % max_frame_num sps) ∷ h) low (number + 1) index stays
    (rs ++ missing_reference (number % max_frame_num sps) (length h) ∷ []) (ss ++ missing_stored (length h) ∷ [])
settled_once output sps h low number index stays r rs s ss settled near = record {
  marked = marked;
  buffer = buffer;
  window = record {
    long = (settled.window).long;
    full = ap (λ n. length stays.longs + n) (length-append rs (new ∷ [])) ∙ is_full;
    indices = behind;
    longs_before = (settled.window).longs_before;
  };
  counts = count_on max (counts.0 + 1) low number n rs (omega (arith, (counts.1).0)) (counts.1).2;
  not_needed = not_needed_on (number % max) n rs ss (settled.not_needed).2;
  needed = settled.needed;
  before = settled.before;
  room = room;
}
  where
    n : ℕ
    n = length h

    max : ℕ
    max = max_frame_num sps

    e : Entry
    e = missing_frame sps (number % max)

    new : Reference
    new = missing_reference (number % max) n

    counts : CountFrom max low number (r ∷ rs)
    counts = settled.counts

    all : List Reference
    all = stays.longs ++ (rs ++ new ∷ [])

    is_full : length stays.longs + (length rs + 1) ≡ reference_limit sps
    is_full = let f = (settled.window).full in omega (arith, f)

    room : length stays.frames + length (ss ++ missing_stored n ∷ []) ≤ dpb_size sps
    room = let l = length-append ss (missing_stored n ∷ []) in omega (arith, settled.room, l)

    behind : StandFrom index (suc n) (rs ++ new ∷ [])
    behind = stand_on (r.decoding_index + 1) index n (number % max) rs (let p = ((settled.window).indices).0 in omega (arith, p)) ((settled.window).indices).1

    behind_first : StandFrom (r.decoding_index + 1) (suc n) (rs ++ new ∷ [])
    behind_first = stand_on (r.decoding_index + 1) (r.decoding_index + 1) n (number % max) rs (omega arith) ((settled.window).indices).1

    m : Marks
    m = record { references = stays.longs ++ r ∷ rs; max_long_term_frame_idx = stays.max_long_term_frame_idx }

    marked : marks_of (e ∷ h) ≡ Ok (record { references = all; max_long_term_frame_idx = stays.max_long_term_frame_idx })
    marked =
        marks_then e h m settled.marked
        ∙ window_takes_the_first (marking_entry e) n max low number index stays.longs rs r m refl settled.window settled.counts near refl
        ∙ ap (λ l. Ok (record { references = l; max_long_term_frame_idx = stays.max_long_term_frame_idx })) (append_assoc stays.longs rs (new ∷ []))

    -- the first short-term frame leaves the buffer, and all others stay
    stay : needed_frames (indices_of all) (stays.frames ++ s ∷ ss) ≡ stays.frames ++ ss
    stay =
        let among : (p : ℕ) → is_index_of all p ≡ (is_index_of stays.longs p || (is_index_of rs p || (n == p))) = λ p. grind (arith, is_index_of-append) in
        let first = below_all (r.decoding_index + 1) (suc n) r.decoding_index (rs ++ new ∷ []) (omega arith) behind_first in
        let long = above_all index r.decoding_index stays.longs ((settled.window).indices).0 (settled.window).longs_before in
        let before = stays_below index stays.longs all stays.frames (λ p low. let none = below_all index (suc n) p (rs ++ new ∷ []) low behind in grind (arith, is_index_of-append, none)) settled.before in
        let rest = lasts_stay all rs ss (λ p here. let there = among p in grind (arith, there)) (settled.not_needed).2 in
        let gone : is_index_of all r.decoding_index ≡ false = is_index_of-append stays.longs (rs ++ new ∷ []) r.decoding_index ∙ ap₂ (λ a b. a || b) long first in
        let test : (s.needed_for_output || is_index_of all s.decoding_index) ≡ false = rw ((settled.not_needed).1, (settled.not_needed).0) gone in
        let out : needed_frames (indices_of all) (s ∷ ss) ≡ ss =
        ap (λ b. cond b (s ∷ needed_frames (indices_of all) ss) (needed_frames (indices_of all) ss)) test ∙ rest in
        filter-append (λ s. s.needed_for_output || is_index_of all s.decoding_index) stays.frames (s ∷ ss) ∙ ap₂ (λ l r. l ++ r) (before ∙ settled.needed) out

    fits : length (needed_frames (indices_of all) (stays.frames ++ s ∷ ss)) + 1 ≤ dpb_size sps
    fits = let l = ap length stay ∙ length-append stays.frames ss in omega (arith, settled.room, l)

    buffer : buffer_of output (e ∷ h) ≡ record { frames = stays.frames ++ (ss ++ missing_stored n ∷ []); out = stays.out }
    buffer =
        ap₂ (λ k b. after_entry output k (missing_arrival (dpb_size sps) (indices_of (or_no_references (marks_of (e ∷ h))))) b) (length-arrivals h) settled.buffer
        ∙ ap (λ r. after_entry output n (missing_arrival (dpb_size sps) (indices_of (or_no_references r))) (record { frames = stays.frames ++ s ∷ ss; out = stays.out })) marked
        ∙ missing_frames_find_room output n (dpb_size sps) (indices_of all) (record { frames = stays.frames ++ s ∷ ss; out = stays.out }) fits
        ∙ ap (λ (l : List Stored). record { frames = l ++ missing_stored n ∷ []; out = stays.out }) stay
        ∙ ap (λ (l : List Stored). record { frames = l; out = stays.out }) (append_assoc stays.frames ss (missing_stored n ∷ []))

-- ---- several

-- numbers may be left out
pub settled_later : (output : Output) (sps : Sps) (h : History) (low number later index : ℕ) (stays : Staying) (shorts : List Reference) (lasts : List Stored) →
    number ≤ later → IsSettled output sps h low number index stays shorts lasts → IsSettled output sps h low later index stays shorts lasts
settled_later output sps h low number later index stays shorts lasts less settled = record {
  marked = settled.marked;
  buffer = settled.buffer;
  window = settled.window;
  counts = counts_later low shorts settled.counts;
  not_needed = settled.not_needed;
  needed = settled.needed;
  before = settled.before;
  room = settled.room;
}
  where
    counts_later : (low : ℕ) (rs : List Reference) → CountFrom (max_frame_num sps) low number rs → CountFrom (max_frame_num sps) low later rs
    counts_later low [] h = omega (arith, less, h)
    counts_later low (r ∷ rs) h = (h.0, ((h.1).0, (h.1).1, counts_later (h.0 + 1) rs (h.1).2))

-- the first n frames have left, and those of the n numbers have come
pub settled_on : (output : Output) (sps : Sps) (n q : ℕ) (h : History) (low number index : ℕ) (stays : Staying) (shorts : List Reference) (lasts : List Stored) →
    length h ≡ q → IsSettled output sps h low number index stays shorts lasts → number + n ≤ low + max_frame_num sps → 0 < length shorts →
    IsSettled output sps (with_all_missing sps (frame_nums_from (max_frame_num sps) number n) h) low (number + n) index stays
    (drop n (shorts ++ missing_references (max_frame_num sps) number q n)) (drop n (lasts ++ stored_missing q n))
settled_on output sps zero q h low number index stays shorts lasts long settled near some =
    simp append-nil (settled_later output sps h low number (number + 0) index stays shorts lasts (omega arith) settled)
settled_on output sps (suc n) q h low number index stays [] lasts long settled near some = absurd (omega (arith, some))
settled_on output sps (suc n) q h low number index stays (r ∷ rs) [] long settled near some = absurd settled.not_needed
settled_on output sps (suc n) q h low number index stays (r ∷ rs) (s ∷ ss) long settled near some =
    let max = max_frame_num sps in
    let new = missing_reference (number % max) q in
    let once = rw long at (settled_once output sps h low number index stays r rs s ss settled (omega (arith, near))) in
    let more = settled_on output sps n (q + 1) (missing_frame sps (number % max) ∷ h) low (number + 1) index stays (rs ++ new ∷ []) (ss ++ missing_stored q ∷ [])
    (omega (arith, long)) once (omega (arith, near)) (let l = length-append rs (new ∷ []) in omega (arith, l)) in
    rw (← append_assoc rs (new ∷ []) (missing_references max (number + 1) (q + 1) n), ← append_assoc ss (missing_stored q ∷ []) (stored_missing (q + 1) n))
    (settled_later output sps _ low (number + 1 + n) (number + suc n) index stays _ _ (omega arith) more)

-- ---- the frames that a long gap leaves are those of its last numbers: the last numbers

numbers_from : (max k n m a : ℕ) → m ≡ k + n → drop k (frame_nums_from max a m) ≡ frame_nums_from max (a + k) n
numbers_from max zero n m a is = grind arith
numbers_from max (suc k) n zero a is = absurd (omega arith)
numbers_from max (suc k) n (suc m) a is = grind (arith, numbers_from max k n m (a + 1) (omega arith))

references_from : (max k n m a index : ℕ) → m ≡ k + n → drop k (missing_references max a index m) ≡ missing_references max (a + k) (index + k) n
references_from max zero n m a index is = grind arith
references_from max (suc k) n zero a index is = absurd (omega arith)
references_from max (suc k) n (suc m) a index is = grind (arith, references_from max k n m (a + 1) (index + 1) (omega arith))

frames_from : (k n m index : ℕ) → m ≡ k + n → drop k (stored_missing index m) ≡ stored_missing (index + k) n
frames_from zero n m index is = grind arith
frames_from (suc k) n zero index is = absurd (omega arith)
frames_from (suc k) n (suc m) index is = grind (arith, frames_from k n m (index + 1) (omega arith))

as_many : (rs : List Reference) (frames : List Stored) → AreNotNeeded rs frames → length frames ≡ length rs
as_many [] [] h = refl
as_many [] (s ∷ frames) h = absurd h
as_many (r ∷ rs) [] h = absurd h
as_many (r ∷ rs) (s ∷ frames) h = ap suc (as_many rs frames h.2)

-- only the last are left
last_left : (output : Output) (sps : Sps) (k : ℕ) (h : History) (low number index : ℕ) (stays : Staying) (shorts : List Reference) (lasts : List Stored) →
    IsSettled output sps h low number index stays shorts lasts → number + (length shorts + k) ≤ low + max_frame_num sps → 0 < length shorts →
    IsSettled output sps (with_all_missing sps (frame_nums_from (max_frame_num sps) number (length shorts + k)) h) low (number + (length shorts + k)) index stays
    (missing_references (max_frame_num sps) (number + k) (length h + k) (length shorts)) (stored_missing (length h + k) (length shorts))
last_left output sps k h low number index stays shorts lasts settled near some =
    let max = max_frame_num sps in
    let w = length shorts in
    let references = missing_references max number (length h) (w + k) in
    let frames = stored_missing (length h) (w + k) in
    let shorts_are : drop (w + k) (shorts ++ references) ≡ missing_references max (number + k) (length h + k) w =
    drop-append-add shorts references k ∙ references_from max k w (w + k) number (length h) (omega arith) in
    let lasts_are : drop (w + k) (lasts ++ frames) ≡ stored_missing (length h + k) w =
    ap (λ n. drop (n + k) (lasts ++ frames)) (sym (as_many shorts lasts settled.not_needed))
    ∙ drop-append-add lasts frames k ∙ frames_from k w (w + k) (length h) (omega arith) in
    rw (← shorts_are, ← lasts_are) (settled_on output sps (w + k) (length h) h low number index stays shorts lasts refl settled near some)

-- ---- the entries of the history

entries_before : (sps : Sps) (numbers : List ℕ) (h : History) (p : ℕ) → p < length h → entry_at (with_all_missing sps numbers h) p ≡ entry_at h p
entries_before sps [] h p low = refl
entries_before sps (n ∷ numbers) h p low =
    entries_before sps numbers (missing_frame sps n ∷ h) p (omega (arith, low)) ∙ entry_before (missing_frame sps n) h p low

entries_missing : (sps : Sps) (max n a i p number : ℕ) (h : History) → i < n → p ≡ length h + i → number ≡ a + i →
    entry_at (with_all_missing sps (frame_nums_from max a n) h) p ≡ Some (missing_frame sps (number % max))
entries_missing sps max zero a i p number h low index is = absurd (omega (arith, low))
entries_missing sps max (suc n) a zero p number h low index is = search (rules, entries_before, frame_nums_from, entry_newest)
entries_missing sps max (suc n) a (suc i) p number h low index is =
    entries_missing sps max n (a + 1) i p number (missing_frame sps (a % max) ∷ h) (omega arith) (omega arith) (omega arith)

newest_number : (sps : Sps) (max n a number : ℕ) (h : History) → 0 < n → number + 1 ≡ a + n →
    prev_ref_frame_num (marking_entries (with_all_missing sps (frame_nums_from max a n) h)) ≡ number % max
newest_number sps max zero a number h some is = absurd (omega arith)
newest_number sps max (suc zero) a number h some is = ap (λ n. n % max) (let same : a ≡ number = omega arith in same)
newest_number sps max (suc (suc n)) a number h some is =
    newest_number sps max (suc n) (a + 1) number (missing_frame sps (a % max) ∷ h) (omega arith) (omega arith)

-- ---- marks

mark_first : (xs ys : List Reference) (p : ℕ) → mark_in ys p ≡ None → mark_in (xs ++ ys) p ≡ mark_in xs p
mark_first [] ys p e = e
mark_first (x ∷ xs) ys p e = grind (arith, mark_first xs ys p e)

mark_last : (xs ys : List Reference) (index p : ℕ) → index ≤ p → StandBelow index xs → mark_in (xs ++ ys) p ≡ mark_in ys p
mark_last [] ys index p low h = refl
mark_last (x ∷ xs) ys index p low h = grind (arith, nat_tests, mark_last xs ys index p low h.1)

missing_unmarked : (max a index n p : ℕ) → p < index → mark_in (missing_references max a index n) p ≡ None
missing_unmarked max a index zero p low = refl
missing_unmarked max a index (suc n) p low = grind (arith, nat_tests, missing_unmarked max (a + 1) (index + 1) n p (omega arith))

missing_marked : (max a index n i : ℕ) → i < n → mark_in (missing_references max a index n) (index + i) ≡ Some Short
missing_marked max a index zero i low = absurd (omega (arith, low))
missing_marked max a index (suc n) zero low = grind (arith, nat_tests)
missing_marked max a index (suc n) (suc i) low = grind (arith, nat_tests, missing_marked max (a + 1) (index + 1) n i (omega arith))

-- ---- the frames

-- a frame for a missing number
abbrev missing_of : Sps → ℕ → Frame 16
missing_of sps n = coded_frame sps no_picture_info None n (Some Short)

-- what the frames of the missing numbers show, and what those before show
at_missing : {A : Type 0} (f g : ℕ → A) (max w t q : ℕ) → ((i : ℕ) → i < w → f (q + i) ≡ g ((t + i) % max)) →
    map (λ s. f s.decoding_index) (stored_missing q w) ≡ map g (frame_nums_from max t w)
at_missing f g max zero t q each = refl
at_missing f g max (suc w) t q each =
    let rest = at_missing f g max w (t + 1) (q + 1) (λ i low. let e = each (suc i) (omega arith) in grind (arith, e)) in grind (arith, rest, each 0)

at_before : {A : Type 0} (f g : ℕ → A) (index : ℕ) (frames : List Stored) → ((p : ℕ) → p < index → f p ≡ g p) → AreBefore index frames →
    map (λ s. f s.decoding_index) frames ≡ map (λ s. g s.decoding_index) frames
at_before f g index [] same h = refl
at_before f g index (s ∷ frames) same h = grind (arith, same s.decoding_index h.0, at_before f g index frames same h.1)

same_slots : (w q q' : ℕ) → map slot_of (stored_missing q w) ≡ map slot_of (stored_missing q' w)
same_slots zero q q' = refl
same_slots (suc w) q q' = ap (λ l. slot_of (missing_stored q) ∷ l) (same_slots w (q + 1) (q' + 1))

-- ---- reference frames by their decoding indices

references_at-append : (ps qs : List ℕ) (fs gs : List MarkedFrame) → length ps ≡ length fs → references_at (ps ++ qs) (fs ++ gs) ≡ references_at ps fs ++ references_at qs gs
references_at-append [] qs [] gs long = refl
references_at-append [] qs (f ∷ fs) gs long = absurd (omega (arith, long))
references_at-append (p ∷ ps) qs [] gs long = absurd (omega (arith, long))
references_at-append (p ∷ ps) qs (f ∷ fs) gs long = grind (arith, references_at-append ps qs fs gs (omega (arith, long)))

references_missing : (sps : Sps) (max w t q : ℕ) →
    references_at (map (λ s. s.decoding_index) (stored_missing q w)) (map marked_frame (map (missing_of sps) (frame_nums_from max t w))) ≡ missing_references max t q w
references_missing sps max zero t q = refl
references_missing sps max (suc w) t q = ap (λ l. missing_reference (t % max) q ∷ l) (references_missing sps max w (t + 1) (q + 1))

length_missing : (max n a index : ℕ) → length (missing_references max a index n) ≡ n
length_missing max zero a index = refl
length_missing max (suc n) a index = ap suc (length_missing max n (a + 1) (index + 1))

-- ---- the end of a gap

-- H is the history h with missing numbers. The last w of them go on from t, stand from the decoding index q on, and have the last frames.
record EndsIn (output : Output) (sps : Sps) (h H : History) (t q w index : ℕ) (stays : Staying) : Type 0 where
  low : ℕ
  later : ℕ
  settled : IsSettled output sps H low later index stays (missing_references (max_frame_num sps) t q w) (stored_missing q w)
  behind : index ≤ q
  before : (p : ℕ) → p < index → entry_at H p ≡ entry_at h p
  last : (i : ℕ) → i < w → entry_at H (q + i) ≡ Some (missing_frame sps ((t + i) % max_frame_num sps))
  previous : prev_ref_frame_num (marking_entries H) ≡ (t + (w - 1)) % max_frame_num sps
  sequence : sequence_sps H ≡ sequence_sps h

not_above : (low next : ℕ) (rs : List Reference) → StandFrom low next rs → low ≤ next
not_above low next [] h = h
not_above low next (r ∷ rs) h = let e = not_above (r.decoding_index + 1) next rs h.1 in omega (arith, h.0, e)

-- where the numbers from a on are missing, as many as the window has frames and k more
ends_in : (output : Output) (sps : Sps) (h : History) (low number index : ℕ) (stays : Staying) (shorts : List Reference) (lasts : List Stored) (a k : ℕ) →
    IsSettled output sps h low number index stays shorts lasts → 0 < length shorts → number ≤ a → a + (length shorts + k) ≤ low + max_frame_num sps →
    EndsIn output sps h (with_all_missing sps (frame_nums_from (max_frame_num sps) a (length shorts + k)) h) (a + k) (length h + k) (length shorts) index stays
ends_in output sps h low number index stays shorts lasts a k settled some less near =
    let max = max_frame_num sps in
    let w = length shorts in
    let numbers = frame_nums_from max a (w + k) in
    let first = not_above index (length h) shorts (settled.window).indices in
    record {
      low = low;
      later = a + (w + k);
      settled = last_left output sps k h low a index stays shorts lasts (settled_later output sps h low number a index stays shorts lasts less settled) near some;
      behind = omega (arith, first);
      before = λ p below. entries_before sps numbers h p (omega (arith, below, first));
      last = λ i below. entries_missing sps max (w + k) a (k + i) (length h + k + i) (a + k + i) h (omega (arith, below)) (omega arith) (omega arith);
      previous = newest_number sps max (w + k) a (a + k + (w - 1)) h (omega (arith, some)) (omega (arith, some));
      sequence = set_stays sps numbers h;
    }

-- What is kept does not depend on the numbers before the last.
same_state : (sps : Sps) (h S L : History) (t qs qf w index : ℕ) (stays : Staying) (c : Contents) (idx : Option ℕ) (previous : ℕ) →
    EndsIn c.output sps h S t qs w index stays → EndsIn c.output sps h L t qf w index stays → IsWithin 16 (arrivals L) →
    IsStateAfter S c idx previous → IsStateAfter L c idx previous
same_state sps h S L t qs qf w index stays c idx previous shorter longer within s = record {
  marks = marks qf;
  marked = (longer.settled).marked;
  idx_is = s.idx_is ∙ ap (λ (m : Marks). m.max_long_term_frame_idx) same_marks;
  previous_is = s.previous_is ∙ shorter.previous ∙ sym longer.previous;
  buffer = record {
    works = (s.buffer).works;
    slots = (s.buffer).slots ∙ whole slot_of S qs shorter ∙ ap (λ l. map slot_of stays.frames ++ l) (same_slots w qs qf) ∙ sym (whole slot_of L qf longer);
    frames = frames_are ∙ sym (frames_of L qf longer);
    rising = subst (λ n. IsRising (buffer_of c.output L).frames n) (length-arrivals L) (stands_in_decoding_order c.output (arrivals L));
  };
  references =
      ap (references_at (indices_in (buffer_of c.output L))) (ap (map marked_frame) frames_are) ∙ references_of_frames L qf longer
      ∙ ap (λ l. l ++ missing_references max t qf w) old_references;
  few = subst (λ o. IfSome o (λ x. length (references qf) ≤ reference_limit x)) sequence
      (subst (λ n. IfSome (sequence_sps S) (λ x. n ≤ reference_limit x)) as_long s.few);
  within = within;
  sized = subst (λ o. IfSome o (λ x. Each (IsSizedAt L x) (indices_in (buffer_of c.output L)))) sequence
      (if_some (λ x. Each (IsSizedAt S x) (indices_in (buffer_of c.output S))) (λ x. Each (IsSizedAt L x) (indices_in (buffer_of c.output L))) (sequence_sps S)
      (λ x is h. each_from_map (IsSizedIn x) (entry_at L) (indices_in (buffer_of c.output L))
      (subst (Each (IsSizedIn x)) (entries_of S qs shorter ∙ sym (entries_of L qf longer)) (each_map (IsSizedIn x) (entry_at S) (indices_in (buffer_of c.output S)) h))) s.sized);
}
  where
    max : ℕ
    max = max_frame_num sps

    sequence : sequence_sps S ≡ sequence_sps L
    sequence = shorter.sequence ∙ sym longer.sequence

    references : (q : ℕ) → List Reference
    references q = stays.longs ++ missing_references max t q w

    marks : (q : ℕ) → Marks
    marks q = record { references = references q; max_long_term_frame_idx = stays.max_long_term_frame_idx }

    same_marks : s.marks ≡ marks qs
    same_marks = ok_same s.marks (marks qs) (sym s.marked ∙ (shorter.settled).marked)

    as_long : length (s.marks).references ≡ length (references qf)
    as_long =
        let shorts = length-append stays.longs (missing_references max t qs w) in
        let longs = length-append stays.longs (missing_references max t qf w) in
        ap (λ (m : Marks). length m.references) same_marks ∙ omega (arith, shorts, longs, length_missing max w t qs, length_missing max w t qf)

    IsSizedIn : Sps → Option Entry → Type 0
    IsSizedIn x o = IfSome (planes_in o) (AreSized (width_in_mbs x) (height_in_mbs x))

    -- all frames: those that stay, and those of the last numbers
    whole : {A : Type 0} (f : Stored → A) (H : History) (q : ℕ) → EndsIn c.output sps h H t q w index stays →
        map f (buffer_of c.output H).frames ≡ map f stays.frames ++ map f (stored_missing q w)
    whole f H q x = ap (λ (b : Buffer). map f b.frames) (x.settled).buffer ∙ map-append f stays.frames (stored_missing q w)

    entries_of : (H : History) (q : ℕ) → EndsIn c.output sps h H t q w index stays →
        map (entry_at H) (indices_in (buffer_of c.output H))
        ≡ map (λ s. entry_at h s.decoding_index) stays.frames ++ map (λ n. Some (missing_frame sps n)) (frame_nums_from max t w)
    entries_of H q x =
        map-map (entry_at H) (λ s. s.decoding_index) (buffer_of c.output H).frames ∙ whole (λ s. entry_at H s.decoding_index) H q x
        ∙ ap₂ (λ l r. l ++ r) (at_before (entry_at H) (entry_at h) index stays.frames x.before (x.settled).before)
        (at_missing (entry_at H) (λ n. Some (missing_frame sps n)) max w t q x.last)

    stayed : List (Frame 16)
    stayed = map (λ s. frame_of (entry_at h s.decoding_index) (mark_in stays.longs s.decoding_index)) stays.frames

    came : List (Frame 16)
    came = map (missing_of sps) (frame_nums_from max t w)

    frames_of : (H : History) (q : ℕ) → EndsIn c.output sps h H t q w index stays →
        map (λ s. frame_at H (references q) s.decoding_index) (buffer_of c.output H).frames ≡ stayed ++ came
    frames_of H q x =
        whole (λ s. frame_at H (references q) s.decoding_index) H q x
        ∙ ap₂ (λ l r. l ++ r)
        (at_before (frame_at H (references q)) (λ p. frame_of (entry_at h p) (mark_in stays.longs p)) index stays.frames
        (λ p low. ap₂ frame_of (x.before p low) (mark_first stays.longs new p (missing_unmarked max t q w p (omega (arith, low, x.behind))))) (x.settled).before)
        (at_missing (frame_at H (references q)) (missing_of sps) max w t q
        (λ i low. ap₂ frame_of (x.last i low)
        (mark_last stays.longs new index (q + i) (omega (arith, x.behind)) ((x.settled).window).longs_before ∙ missing_marked max t q w i low)))
      where
        new : List Reference
        new = missing_references max t q w

    frames_are : c.frames ≡ stayed ++ came
    frames_are = (s.buffer).frames ∙ ap (λ (m : Marks). map (λ x. frame_at S m.references x.decoding_index) (buffer_of c.output S).frames) same_marks ∙ frames_of S qs shorter

    stayed_references : List Reference
    stayed_references = references_at (map (λ s. s.decoding_index) stays.frames) (map marked_frame stayed)

    references_of_frames : (H : History) (q : ℕ) → EndsIn c.output sps h H t q w index stays →
        references_at (indices_in (buffer_of c.output H)) (map marked_frame (stayed ++ came)) ≡ stayed_references ++ missing_references max t q w
    references_of_frames H q x =
        let long = length-map stays.frames (λ (s : Stored). s.decoding_index) ∙ sym (length-map stayed marked_frame ∙ length-map stays.frames _) in
        ap₂ references_at (whole (λ s. s.decoding_index) H q x) (map-append marked_frame stayed came)
        ∙ references_at-append (map (λ s. s.decoding_index) stays.frames) (map (λ s. s.decoding_index) (stored_missing q w)) (map marked_frame stayed) (map marked_frame came) long
        ∙ ap (λ l. stayed_references ++ l) (references_missing sps max w t q)

    old_references : stayed_references ≡ stays.longs
    old_references =
        append_cancel_right stayed_references stays.longs (missing_references max t qs w)
        (sym (ap (references_at (indices_in (buffer_of c.output S))) (ap (map marked_frame) frames_are) ∙ references_of_frames S qs shorter)
        ∙ s.references ∙ ap (λ (m : Marks). m.references) same_marks)

-- ---- the law

within_parts : (sps : Sps) (n : ℕ) (numbers : List ℕ) (h : History) → IsWithin 16 (arrivals (with_all_missing sps (n ∷ numbers) h)) →
    (dpb_size sps ≤ 16) × IsWithin 16 (arrivals h)
within_parts sps n [] h i = i
within_parts sps n (m ∷ numbers) h i = (within_parts sps m numbers (missing_frame sps n ∷ h) i).1

within_after : (sps : Sps) (numbers : List ℕ) (h : History) → dpb_size sps ≤ 16 → IsWithin 16 (arrivals h) → IsWithin 16 (arrivals (with_all_missing sps numbers h))
within_after sps [] h few i = i
within_after sps (n ∷ numbers) h few i = within_after sps numbers (missing_frame sps n ∷ h) few (few, i)

-- the size of the buffer is known where a number is missing
within_longer : (sps : Sps) (numbers others : List ℕ) (h : History) → 0 < length numbers → IsWithin 16 (arrivals (with_all_missing sps numbers h)) →
    IsWithin 16 (arrivals (with_all_missing sps others h))
within_longer sps [] others h some i = absurd (omega (arith, some))
within_longer sps (n ∷ numbers) others h some i = let both = within_parts sps n numbers h i in within_after sps others h both.0 both.1

nothing_out : (output : Output) (sps : Sps) (h H : History) (low number index t q w : ℕ) (stays : Staying) (shorts : List Reference) (lasts : List Stored) →
    IsSettled output sps h low number index stays shorts lasts → EndsIn output sps h H t q w index stays → output_pictures output h H ≡ []
nothing_out output sps h H low number index t q w stays shorts lasts s x = grind (arith, drop-length)

-- the numbers of a long gap but for the first ones
left_over : (output : Output) (sps : Sps) (h : History) (numbers : List ℕ) (skipped n : ℕ) (g : IsLongGap output sps h numbers) → length numbers ≡ skipped + n →
    drop skipped numbers ≡ frame_nums_from (max_frame_num sps) (g.number + skipped) n
left_over output sps h numbers skipped n g long = grind (arith, numbers_from)

pub long_gaps_leave_their_end : LongGapsLeaveTheirEnd
long_gaps_leave_their_end output sps h numbers skipped g far = record {
  same_state = λ c idx previous is state.
      same_state sps h S L (g.number + skipped + k) (length h + k) (length h + (skipped + k)) w g.index g.stays c idx previous
      (rw is shorter) (rw is longer) (within_longer sps (drop skipped numbers) numbers h (omega (arith, parts, long, g.some_short)) state.within) state;
  nothing_out = nothing_out output sps h L g.low g.number g.index _ _ w g.stays g.shorts g.lasts g.settled longer;
  nothing_out_shorter = nothing_out output sps h S g.low g.number g.index _ _ w g.stays g.shorts g.lasts g.settled shorter;
}
  where
    max : ℕ
    max = max_frame_num sps

    w : ℕ
    w = length g.shorts

    k : ℕ
    k = length numbers - skipped - w

    parts : length numbers ≡ skipped + (w + k)
    parts = omega (arith, far, g.few_shorts)

    near : g.number + (w + (skipped + k)) ≤ g.low + max
    near = let n = g.near in omega (arith, n, parts)

    S : History
    S = with_all_missing sps (drop skipped numbers) h

    L : History
    L = with_all_missing sps numbers h

    long : length (drop skipped numbers) + skipped ≡ length numbers
    long = omega (arith, length-drop skipped numbers, parts)

    shorter : EndsIn output sps h S (g.number + skipped + k) (length h + k) w g.index g.stays
    shorter =
        rw (left_over output sps h numbers skipped (w + k) g parts)
        (ends_in output sps h g.low g.number g.index g.stays g.shorts g.lasts (g.number + skipped) k g.settled g.some_short (omega arith) (omega (arith, near)))

    longer : EndsIn output sps h L (g.number + skipped + k) (length h + (skipped + k)) w g.index g.stays
    longer =
        let all : numbers ≡ frame_nums_from max g.number (w + (skipped + k)) =
        g.numbers_are ∙ ap (frame_nums_from max g.number) (let n : length numbers ≡ w + (skipped + k) = omega (arith, parts) in n) in
        let times : g.number + (skipped + k) ≡ g.number + skipped + k = omega arith in
        subst (λ l. EndsIn output sps h (with_all_missing sps l h) (g.number + skipped + k) (length h + (skipped + k)) w g.index g.stays) (sym all)
        (rw times at (ends_in output sps h g.low g.number g.index g.stays g.shorts g.lasts g.number (skipped + k) g.settled g.some_short (omega arith) near))

-- ---- the last numbers can be marked

one_marked : (output : Output) (sps : Sps) (h : History) (low number index : ℕ) (stays : Staying) (shorts : List Reference) (lasts : List Stored) →
    IsSettled output sps h low number index stays shorts lasts → number < low + max_frame_num sps → 0 < length shorts →
    is_ok (marks_of (missing_frame sps (number % max_frame_num sps) ∷ h)) ≡ true
one_marked output sps h low number index stays [] lasts settled near some = absurd (omega (arith, some))
one_marked output sps h low number index stays (r ∷ rs) [] settled near some = absurd settled.not_needed
one_marked output sps h low number index stays (r ∷ rs) (s ∷ ss) settled near some =
    ap is_ok (settled_once output sps h low number index stays r rs s ss settled near).marked

pub end_marked : (output : Output) (sps : Sps) (h : History) (numbers : List ℕ) (skipped : ℕ) → IsLongGap output sps h numbers → skipped + 16 ≤ length numbers →
    is_ok (with_missing sps (drop skipped numbers) h) ≡ true
end_marked output sps h numbers skipped g far =
    let max = max_frame_num sps in
    let a = g.number + skipped in
    let m = length numbers - skipped - 1 in
    let later = settled_later output sps h g.low g.number a g.index g.stays g.shorts g.lasts (omega arith) g.settled in
    let first = one_marked output sps h g.low a g.index g.stays g.shorts g.lasts later (let n = g.near in omega (arith, n, far)) g.some_short in
    rw (left_over output sps h numbers skipped (suc m) g (omega (arith, far))) (ap is_ok (all_marked sps (a % max) (frame_nums_from max (a + 1) m) h first))

pub all_of : (sps : Sps) (numbers : List ℕ) (h : History) → is_ok (with_missing sps numbers h) ≡ true → with_missing sps numbers h ≡ Ok (with_all_missing sps numbers h)
all_of sps [] h e = refl
all_of sps (n ∷ numbers) h e = all_marked sps n numbers h (first_marked sps n numbers h e)
