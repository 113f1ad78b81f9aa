-- The rows of a window, gathered into writes and laid into memory.
pub mod Common
unfoldable pub use Common.*
use Rattle.avc_types.specs.PictureInfos.{no_picture_info}

-- ---- bytes that are written in parts, and the rows of a window

-- a `write` that took some
pub done_is : (before done taken next : ℕ) → Ok next ≡ done_after before done taken → next ≡ done + taken
done_is before done taken next is = search rules

-- a row of which d bytes were taken, and then t more
pub row_more : (old mid new : Option (List ℕ)) (row : List ℕ) (d t : ℕ) → Appends old mid (take d row) → Appends mid new (take t (take (length row - d) (drop d row)))
    → Appends old new (take (d + t) row)
row_more old mid new row d t p q = search (rules, take_rest, take-add, Appends, Appends-trans)

-- the writer took the first part, and fewer bytes than all of the second
pub second_failed : (before : ℕ) (first second rest : List ℕ) (old mid new : Option (List ℕ)) (written : ℕ) (f : WriteFault)
    → Writes before first old mid (Ok written) → Writes written second mid new (Err f) → Writes before (first ++ second ++ rest) old new (Err f)
second_failed before first second rest old mid new written f p q =
    let ahead : f.written - before ≡ length first + (f.written - written) = omega (arith, p.0, q.0, q.1) in
    let few : f.written - written ≤ length second = omega (arith, q.0, q.1) in (
      omega (arith, p.0, q.0),
      omega (arith, p.0, q.0, q.1, length-append (first ++ second) rest, length-append first second),
      rw (
        ahead,
        append_assoc first second rest,
        take-append-add first (second ++ rest) (f.written - written),
        take-append-le (f.written - written) second rest few,
      )
          (Appends-trans old mid new first _ p.1 q.2),
    )

pub range_split : (a n m : ℕ) → range_with_len a (n + m) ≡ range_with_len a n ++ range_with_len (a + n) m
range_split a zero m = search rules
range_split a (suc n) m = let e : suc n + m ≡ suc (n + m) = omega arith in search (rules, e, range_split (a + 1) n m)

rows_more : (row : ℕ → List ℕ) (top n : ℕ) → flat_map row (range_with_len top (n + 1)) ≡ flat_map row (range_with_len top n) ++ row (top + n)
rows_more row top n = search (rules, range_split, flat_map-append, append-nil)

pub length-part_of_row : (row_length : ℕ) (samples : List ℕ) (left width y : ℕ) → length (part_of_row row_length samples left width y) ≡ width
length-part_of_row row_length samples left width y = length-map-range_with_len (λ x. slice_index samples (y * row_length + x)) left width

-- a part of a row of the plane
pub part_of_row_is : (row_length : ℕ) (samples : List ℕ) (left width y : ℕ) → left + width ≤ row_length → y * row_length + row_length ≤ length samples
    → take (left + width - left) (drop left (slice_range samples (y * row_length) (y * row_length + row_length))) ≡ part_of_row row_length samples left width y
part_of_row_is row_length samples left width y columns inside =
    let row = take (y * row_length + row_length - y * row_length) (drop (y * row_length) samples) in
    let long : length row ≡ row_length = omega (arith, length-take-le (y * row_length + row_length - y * row_length) (drop (y * row_length) samples) (omega (arith, length-drop (y * row_length) samples))) in
    same_lists (take (left + width - left) (drop left row)) _
    (omega (arith, long, length-take-le (left + width - left) (drop left row) (omega (arith, long, length-drop left row)), length-part_of_row row_length samples left width y))
    (λ k d h. grind (arith, long, length-take-le, length-drop, get_or-take, get_or-drop, get_or_default samples (y * row_length + (left + k)) d 0, get_or-map-range_with_len))

pub length-window : (row_length : ℕ) (samples : List ℕ) (left top width height : ℕ) → length (window row_length samples left top width height) ≡ height * width
length-window row_length samples left top width zero = search rules
length-window row_length samples left top width (suc n) =
    search (rules, length-append, length-map-range_with_len, length-window row_length samples left (top + 1) width n)

-- a component has the samples of all its rows
pub row_inside : (p : Picture) (c : Component) (y : ℕ) → IsWhole p → y < rows_of p c → y * columns_of p c + columns_of p c ≤ length (samples_of p c)
row_inside p Luma y whole row = let all = mul-le-mul_right p.width row in omega (arith, all, whole.luma)
row_inside p Cb y whole row = let all = mul-le-mul_right (p.width / 2) row in omega (arith, all, whole.cb)
row_inside p Cr y whole row = let all = mul-le-mul_right (p.width / 2) row in omega (arith, all, whole.cr)

-- what is shown of a component lies inside it
pub window_inside : (p : Picture) (c : Component) → IsWhole p → p.width < 2 ^ 32 → p.height < 2 ^ 32 → IsInside p c (window_of p c)
window_inside p Luma whole narrow low = record {
  columns = omega (arith, whole.columns);
  rows = omega (arith, whole.rows);
  narrow = narrow;
  low = low;
}
window_inside p Cb whole narrow low = record {
  columns = omega (arith, whole.columns);
  rows = omega (arith, whole.rows);
  narrow = omega (arith, narrow);
  low = omega (arith, low);
}
window_inside p Cr whole narrow low = record {
  columns = omega (arith, whole.columns);
  rows = omega (arith, whole.rows);
  narrow = omega (arith, narrow);
  low = omega (arith, low);
}

-- the bytes of all three planes can be counted
pub room : (width height w h long : ℕ) → long ≡ width * height → long < 2 ^ 63 → w ≤ width → h ≤ height → h * w + (h / 2) * (w / 2) + (h / 2) * (w / 2) < 2 ^ 64
room width height w h long is few narrow low =
    let quarter : (h / 2 * 2) * (w / 2) ≤ h * w = mul-le-mul (omega arith) (omega arith) in omega (arith, mul-le-mul low narrow, quarter)

-- how many bytes a picture has
pub length-i420 : (p : Picture) (l c : Window) → l ≡ window_of p Luma → c ≡ window_of p Cb → l.height * l.width + c.height * c.width + c.height * c.width ≡ length (i420 p)
length-i420 p l c is_luma is_chroma = search (rules, length-append, length-window)

-- ---- rows that wait in a room

-- bytes more came behind those that wait
pub gathered_more : (before : ℕ) (bytes more room now : List ℕ) (old mid new : Option (List ℕ)) (g h : Gathered) → IsGathered before bytes room old mid g
    → IsGathered g.written (take g.waiting room ++ more) now mid new h → IsGathered before (bytes ++ more) now old new h
gathered_more before bytes more room now old mid new g h p q = record {
  out = p.out ++ q.out;
  all = rw (append_assoc p.out q.out (take h.waiting now), q.all, ← append_assoc p.out (take g.waiting room) more, p.all) refl;
  sent = omega (arith, p.sent, q.sent, length-append p.out q.out);
  within = q.within;
  taken = Appends-trans old mid new p.out q.out p.taken q.taken;
}

-- a write failed before all of them were out
pub gathered_failed : (before : ℕ) (bytes more rest room : List ℕ) (old mid new : Option (List ℕ)) (g : Gathered) (f : WriteFault) → IsGathered before bytes room old mid g
    → Writes g.written (take g.waiting room ++ more) mid new (Err f) → Writes before (bytes ++ more ++ rest) old new (Err f)
gathered_failed before bytes more rest room old mid new g f p q =
    rw (← p.all, append_assoc p.out (take g.waiting room) more)
    (second_failed before p.out (take g.waiting room ++ more) rest old mid new g.written f (p.sent, p.taken) q)

-- those that waited went out first
pub gathered_anew : (g : Gathered) (row room now : List ℕ) (old mid new : Option (List ℕ)) (written : ℕ) (r : Result Gathered WriteFault)
    → Writes g.written (take g.waiting room) old mid (Ok written) → Gathers (nothing_waits written) row room now mid new r → Gathers g row room now old new r
gathered_anew g row room now old mid new written (Ok h) p q = record {
  out = take g.waiting room ++ q.out;
  all = append_assoc (take g.waiting room) q.out (take h.waiting now) ∙ ap (λ l. take g.waiting room ++ l) q.all;
  sent = omega (arith, p.0, q.sent, length-append (take g.waiting room) q.out);
  within = q.within;
  taken = Appends-trans old mid new _ _ p.1 q.taken;
}
gathered_anew g row room now old mid new written (Err f) p q =
    subst (λ l. Writes g.written l old new (Err f)) (append-nil (take g.waiting room ++ row))
    (second_failed g.written (take g.waiting room) row [] old mid new written f p q)

-- how many came
pub gathered_count : (before : ℕ) (bytes room : List ℕ) (old new : Option (List ℕ)) (g : Gathered) → IsGathered before bytes room old new g → g.written + g.waiting ≡ before + length bytes
gathered_count before bytes room old new g p =
    omega (arith, p.sent, length-append p.out (take g.waiting room), length-take-le g.waiting room p.within, ap length p.all)

-- the first rows, and those after them
window_split : (row_length : ℕ) (samples : List ℕ) (left top width n more : ℕ)
    → window row_length samples left top width (n + more) ≡ window row_length samples left top width n ++ window row_length samples left (top + n) width more
window_split row_length samples left top width n more = search (rules, range_split, flat_map-append)

-- one row more came
pub row_gathered : (before : Gathered) (row_length : ℕ) (samples : List ℕ) (left top width n : ℕ) (row first room now : List ℕ) (old mid new : Option (List ℕ)) (g h : Gathered)
    → IsGathered before.written (take before.waiting first ++ window row_length samples left top width n) room old mid g → row ≡ part_of_row row_length samples left width (top + n)
    → IsGathered g.written (take g.waiting room ++ row) now mid new h → IsGathered before.written (take before.waiting first ++ window row_length samples left top width (n + 1)) now old new h
row_gathered before row_length samples left top width n row first room now old mid new g h p is q =
    let more = gathered_more before.written (take before.waiting first ++ window row_length samples left top width n) row room now old mid new g h p q in
    rw (rows_more (part_of_row row_length samples left width) top n, ← is, ← append_assoc (take before.waiting first) (window row_length samples left top width n) row) more

-- a write failed at the next row
row_failed : (before : Gathered) (row_length : ℕ) (samples : List ℕ) (left top width height n : ℕ) (row first room : List ℕ) (now : List ℕ) (old mid new : Option (List ℕ)) (g : Gathered) (f : WriteFault)
    (r : Result Gathered WriteFault) → r ≡ Err f → n < height → IsGathered before.written (take before.waiting first ++ window row_length samples left top width n) room old mid g
    → row ≡ part_of_row row_length samples left width (top + n) → Writes g.written (take g.waiting room ++ row) mid new (Err f)
    → Gathers before (window row_length samples left top width height) first now old new r
row_failed before row_length samples left top width height n row first room now old mid new g f r failed low p is q =
    let win = window row_length samples left in
    let rest = win (top + (n + 1)) width (height - (n + 1)) in
    let all : height ≡ n + 1 + (height - (n + 1)) = omega (arith, low) in
    let split : win top width height ≡ win top width n ++ row ++ rest =
    ap (λ h. win top width h) all ∙ window_split row_length samples left top width (n + 1) (height - (n + 1))
    ∙ ap (λ l. l ++ rest) (rows_more (part_of_row row_length samples left width) top n ∙ ap (λ l. win top width n ++ l) (sym is)) in
    let parts : take before.waiting first ++ win top width height ≡ take before.waiting first ++ win top width n ++ row ++ rest =
    ap (λ l. take before.waiting first ++ l) split ∙ rw (append_assoc (take before.waiting first) (win top width n) row, append_assoc (take before.waiting first) (win top width n ++ row) rest) refl in
    rw failed (subst (λ l. Writes before.written l old new (Err f)) (sym parts)
    (gathered_failed before.written (take before.waiting first ++ win top width n) row rest room old mid new g f p q))

-- ---- the rows of a component

-- what is shown of a row is a part of it
pub shown_row_is : (p : Picture) (c : Component) (w : Window) (y : ℕ) (row : List ℕ) → w ≡ window_of p c → w.left + w.width ≤ columns_of p c
    → row ≡ slice_range (samples_of p c) (y * columns_of p c) (y * columns_of p c + columns_of p c) → y * columns_of p c + columns_of p c ≤ length (samples_of p c)
    → take (w.left + w.width - w.left) (drop w.left row) ≡ shown_of_row p c y
shown_row_is p c w y row w_is columns is inside =
    ap (λ r. take (w.left + w.width - w.left) (drop w.left r)) is ∙ part_of_row_is (columns_of p c) (samples_of p c) w.left w.width y columns inside
    ∙ ap (λ (v : Window). part_of_row (columns_of p c) (samples_of p c) v.left v.width y) w_is

-- the rows of this window, so many, came behind those that waited first
abbrev pub IsRowsGathered : (p : Picture) (c : Component) (w : Window) (before : Gathered) (first room : List ℕ) (old new : Option (List ℕ)) (n : ℕ) (g : Gathered) → Type 0
IsRowsGathered p c w before first room old new n g =
    IsGathered before.written (take before.waiting first ++ window (columns_of p c) (samples_of p c) w.left w.top w.width n) room old new g

-- the row in the words of the window
row_in : (p : Picture) (c : Component) (w : Window) (n : ℕ) (row : List ℕ) → w ≡ window_of p c → row ≡ shown_of_row p c (w.top + n)
    → row ≡ part_of_row (columns_of p c) (samples_of p c) w.left w.width (w.top + n)
row_in p c w n row w_is is = is ∙ sym (ap (λ (v : Window). part_of_row (columns_of p c) (samples_of p c) v.left v.width (w.top + n)) w_is)

-- one row more came
pub next_gathered : (p : Picture) (c : Component) (w : Window) (before : Gathered) (n : ℕ) (row first room now : List ℕ) (old mid new : Option (List ℕ)) (g h : Gathered) → w ≡ window_of p c
    → IsRowsGathered p c w before first room old mid n g → row ≡ shown_of_row p c (w.top + n) → IsGathered g.written (take g.waiting room ++ row) now mid new h
    → IsRowsGathered p c w before first now old new (n + 1) h
next_gathered p c w before n row first room now old mid new g h w_is so_far is more =
    row_gathered before (columns_of p c) (samples_of p c) w.left w.top w.width n row first room now old mid new g h so_far (row_in p c w n row w_is is) more

-- a write failed at it
pub next_failed : (p : Picture) (c : Component) (w : Window) (before : Gathered) (n : ℕ) (row first room now : List ℕ) (old mid new : Option (List ℕ)) (g : Gathered) (f : WriteFault) (r : Result Gathered WriteFault)
    → w ≡ window_of p c → r ≡ Err f → n < w.height → IsRowsGathered p c w before first room old mid n g → row ≡ shown_of_row p c (w.top + n)
    → Writes g.written (take g.waiting room ++ row) mid new (Err f) → Gathers before (shown_of p c) first now old new r
next_failed p c w before n row first room now old mid new g f r w_is failed low so_far is more =
    subst (λ (v : Window). Gathers before (window (columns_of p c) (samples_of p c) v.left v.top v.width v.height) first now old new r) w_is
    (row_failed before (columns_of p c) (samples_of p c) w.left w.top w.width w.height n row first room now old mid new g f r failed low so_far (row_in p c w n row w_is is) more)

-- before the first row
pub none_yet : (p : Picture) (c : Component) (w : Window) (before : Gathered) (first : List ℕ) (old : Option (List ℕ)) → before.waiting ≤ length first
    → IsRowsGathered p c w before first first old old 0 before
none_yet p c w before first old within =
    record { out = []; all = sym (append-nil (take before.waiting first)); sent = omega arith; within = within; taken = search rules }

-- after the last row
pub rows_gathered : (p : Picture) (c : Component) (w : Window) (before : Gathered) (n : ℕ) (first room : List ℕ) (old new : Option (List ℕ)) (g : Gathered) → w ≡ window_of p c
    → n ≡ w.height → IsRowsGathered p c w before first room old new n g → IsGathered before.written (take before.waiting first ++ shown_of p c) room old new g
rows_gathered p c w before n first room old new g w_is all so_far =
    subst (λ (v : Window). IsRowsGathered p c v before first room old new v.height g) w_is (subst (λ m. IsRowsGathered p c w before first room old new m g) all so_far)

-- how many samples are shown of a component
length-shown_of : (p : Picture) (c : Component) (w : Window) → w ≡ window_of p c → length (shown_of p c) ≡ w.height * w.width
length-shown_of p c w w_is = rw w_is (length-window (columns_of p c) (samples_of p c) (window_of p c).left (window_of p c).top (window_of p c).width (window_of p c).height)

-- the next row can be counted
pub next_counted : (p : Picture) (c : Component) (w : Window) (before : Gathered) (n : ℕ) (row first room : List ℕ) (old mid : Option (List ℕ)) (g : Gathered) → w ≡ window_of p c
    → IsRowsGathered p c w before first room old mid n g → before.waiting ≤ length first → before.written + before.waiting + length (shown_of p c) < 2 ^ 64
    → length row ≡ w.width → n < w.height → g.written + g.waiting + length row < 2 ^ 64
next_counted p c w before n row first room old mid g w_is so_far within counted long low =
    let count = gathered_count before.written _ room old mid g so_far in
    let rows = mul-le-mul_right w.width low in
    omega (
      arith,
      count,
      rows,
      counted,
      long,
      length-append (take before.waiting first) (window (columns_of p c) (samples_of p c) w.left w.top w.width n),
      length-take-le before.waiting first within,
      length-window (columns_of p c) (samples_of p c) w.left w.top w.width n,
      length-shown_of p c w w_is,
    )

-- after so many rows, one more was put behind them
pub put_more : (p : Picture) (c : Component) (w : Window) (first n place : ℕ) (row old mid new : List ℕ) → w ≡ window_of p c → row ≡ shown_of_row p c (w.top + (first + n)) → length row ≡ w.width
    → take (place + n * w.width) mid ≡ take place old ++ window (columns_of p c) (samples_of p c) w.left (w.top + first) w.width n
    → take (place + n * w.width + length row) new ≡ take (place + n * w.width) mid ++ row
    → take (place + (n + 1) * w.width) new ≡ take place old ++ window (columns_of p c) (samples_of p c) w.left (w.top + first) w.width (n + 1)
put_more p c w first n place row old mid new w_is is long so_far put_is =
    let part = part_of_row (columns_of p c) (samples_of p c) w.left w.width in
    let end : place + (n + 1) * w.width ≡ place + n * w.width + length row = omega (arith, long) in
    let y : w.top + first + n ≡ w.top + (first + n) = omega arith in
    rw (end, put_is, so_far, rows_more part (w.top + first) n, y, ← row_in p c w (first + n) row w_is is)
    (append_assoc (take place old) (window (columns_of p c) (samples_of p c) w.left (w.top + first) w.width n) row)

-- rows were put behind those that wait, and none was written
pub rows_put : (p : Picture) (c : Component) (w : Window) (before : Gathered) (n count : ℕ) (first room now : List ℕ) (old new : Option (List ℕ)) (g : Gathered) → IsRowsGathered p c w before first room old new n g
    → count * w.width ≤ length room - g.waiting → length now ≡ length room
    → take (g.waiting + count * w.width) now ≡ take g.waiting room ++ window (columns_of p c) (samples_of p c) w.left (w.top + n) w.width count
    → IsRowsGathered p c w before first now old new (n + count) (record { written = g.written; waiting = g.waiting + count * w.width })
rows_put p c w before n count first room now old new g so_far fit long put_is =
    let win = window (columns_of p c) (samples_of p c) w.left in
    let ahead = take before.waiting first in
    record {
      out = so_far.out;
      all =
          ap (λ l. so_far.out ++ l) put_is ∙ sym (append_assoc so_far.out (take g.waiting room) (win (w.top + n) w.width count))
          ∙ ap (λ l. l ++ win (w.top + n) w.width count) so_far.all ∙ append_assoc ahead (win w.top w.width n) (win (w.top + n) w.width count)
          ∙ ap (λ l. ahead ++ l) (sym (window_split (columns_of p c) (samples_of p c) w.left w.top w.width n count));
      sent = so_far.sent;
      within = omega (arith, so_far.within, fit, long);
      taken = so_far.taken;
    }

-- ---- the three components of a picture

-- nothing waits at first
none_gathered : (old : Option (List ℕ)) → IsGathered 0 [] [] old old (nothing_waits 0)
none_gathered old = record { out = []; all = refl; sent = refl; within = omega arith; taken = search rules }

-- all bytes of a picture can be counted
pub picture_counted : (p : Picture) → IsWhole p → length p.luma < 2 ^ 63 → length (shown_of p Luma) + length (shown_of p Cb) + length (shown_of p Cr) < 2 ^ 64
picture_counted p whole few =
    let all = room p.width p.height (shown_width p) (shown_height p) (length p.luma) whole.luma few (omega arith) (omega arith) in
    omega (arith, all, length-shown_of p Luma (window_of p Luma) refl, length-shown_of p Cb (window_of p Cb) refl, length-shown_of p Cr (window_of p Cr) refl)

-- Cb came behind luma
pub both_gathered : (p : Picture) (room now : List ℕ) (old mid new : Option (List ℕ)) (g h : Gathered) → IsGathered 0 (shown_of p Luma) room old mid g
    → IsGathered g.written (take g.waiting room ++ shown_of p Cb) now mid new h → IsGathered 0 (shown_of p Luma ++ shown_of p Cb) now old new h
both_gathered p room now old mid new g h first second = gathered_more 0 (shown_of p Luma) (shown_of p Cb) room now old mid new g h first second

-- all of them came
pub all_gathered : (p : Picture) (one two three : List ℕ) (old mid late new : Option (List ℕ)) (g h k : Gathered) → IsGathered 0 (shown_of p Luma) one old mid g
    → IsGathered g.written (take g.waiting one ++ shown_of p Cb) two mid late h → IsGathered h.written (take h.waiting two ++ shown_of p Cr) three late new k
    → IsGathered 0 (i420 p) three old new k
all_gathered p one two three old mid late new g h k first second third =
    gathered_more 0 (shown_of p Luma ++ shown_of p Cb) (shown_of p Cr) two three old late new h k (both_gathered p one two old mid late g h first second) third

-- a fault in luma, in Cb, in Cr, and at the end
pub luma_failed : (p : Picture) (old new : Option (List ℕ)) (f : WriteFault) → Writes 0 (shown_of p Luma) old new (Err f) → Writes 0 (i420 p) old new (Err f)
luma_failed p old new f w =
    subst (λ l. Writes 0 l old new (Err f)) (sym (append_assoc (shown_of p Luma) (shown_of p Cb) (shown_of p Cr)))
    (gathered_failed 0 [] (shown_of p Luma) (shown_of p Cb ++ shown_of p Cr) [] old old new (nothing_waits 0) f (none_gathered old) w)

pub cb_failed : (p : Picture) (room : List ℕ) (old mid new : Option (List ℕ)) (g : Gathered) (f : WriteFault) → IsGathered 0 (shown_of p Luma) room old mid g
    → Writes g.written (take g.waiting room ++ shown_of p Cb) mid new (Err f) → Writes 0 (i420 p) old new (Err f)
cb_failed p room old mid new g f first second = gathered_failed 0 (shown_of p Luma) (shown_of p Cb) (shown_of p Cr) room old mid new g f first second

pub cr_failed : (p : Picture) (one two : List ℕ) (old mid late new : Option (List ℕ)) (g h : Gathered) (f : WriteFault)
    → IsGathered 0 (shown_of p Luma) one old mid g → IsGathered g.written (take g.waiting one ++ shown_of p Cb) two mid late h
    → Writes h.written (take h.waiting two ++ shown_of p Cr) late new (Err f) → Writes 0 (i420 p) old new (Err f)
cr_failed p one two old mid late new g h f first second third =
    subst (λ l. Writes 0 l old new (Err f)) (append-nil (i420 p))
    (gathered_failed 0 (shown_of p Luma ++ shown_of p Cb) (shown_of p Cr) [] two old late new h f (both_gathered p one two old mid late g h first second) third)

pub end_failed : (bytes room : List ℕ) (old mid new : Option (List ℕ)) (g : Gathered) (f : WriteFault)
    → IsGathered 0 bytes room old mid g → Writes g.written (take g.waiting room) mid new (Err f) → Writes 0 bytes old new (Err f)
end_failed bytes room old mid new g f p q =
    rw (← p.all, ← append-nil (p.out ++ take g.waiting room))
    (second_failed 0 p.out (take g.waiting room) [] old mid new g.written f (p.sent, p.taken) q)

-- what a fault says of the bytes: how many of them were written, and that they are the first
pub written_before_all : (bytes : List ℕ) (old new : Option (List ℕ)) (f : WriteFault) (r : Result (Unit {0}) WriteFault) → r ≡ Err f
    → Writes 0 bytes old new (Err f) → IfErr r (λ fault. fault.written < length bytes)
written_before_all bytes old new f r failed w = rw failed (omega (arith, w.1))

pub written_first : (bytes : List ℕ) (old new : Option (List ℕ)) (f : WriteFault) (r : Result (Unit {0}) WriteFault) → r ≡ Err f
    → Writes 0 bytes old new (Err f) → IfErr r (λ fault. Appends old new (take fault.written bytes))
written_first bytes old new f r failed w = let all : f.written ≡ f.written - 0 = omega arith in rw (failed, all) w.2

-- all of them were written, those that waited at the end
pub all_written : (bytes room : List ℕ) (old mid new : Option (List ℕ)) (g : Gathered) → IsGathered 0 bytes room old mid g → Appends mid new (take g.waiting room) → Appends old new bytes
all_written bytes room old mid new g p q = subst (λ l. Appends old new l) p.all (Appends-trans old mid new p.out (take g.waiting room) p.taken q)

-- ---- rows laid into memory, and three planes one behind another

-- the first row of memory
first_row : (stride : ℕ) (row memory : List ℕ) → length row ≤ stride → take stride (row ++ drop (length row) memory) ++ drop stride memory ≡ row ++ drop (length row) memory
first_row stride row memory narrow =
    rw (← drop-append-drop (length row) memory row stride narrow refl) (take-append-drop stride (row ++ drop (length row) memory))

-- one row is laid behind what stands in front
laid_behind : (front back row : List ℕ) (k : ℕ) → laid_at (length front + k) row (front ++ back) ≡ front ++ laid_at k row back
laid_behind front back row k = search (rules, take-append-add, drop-append-add, append_assoc)

-- a row more
laid_more : (f : ℕ → List ℕ) (stride width a n : ℕ) (memory : List ℕ) → width ≤ stride → ((y : ℕ) → length (f y) ≡ width) → n * stride + width ≤ length memory
    → laid stride (map f (range_with_len a (n + 1))) memory ≡ laid_at (n * stride) (f (a + n)) (laid stride (map f (range_with_len a n)) memory)
laid_more f stride width a zero memory narrow long inside = search (rules, first_row stride (f a) memory (omega (arith, long a, narrow)))
laid_more f stride width a (suc n) memory narrow long inside =
    let more : suc n * stride ≡ stride + n * stride = omega arith in
    let all = f a ++ drop (length (f a)) memory in
    let filled = length-take-le stride all
    (omega (arith, length-append (f a) (drop (length (f a)) memory), length-drop (length (f a)) memory, more, inside, long a, narrow)) in
    let place : suc n * stride ≡ length (take stride all) + n * stride = omega (arith, filled, more) in
    let y : a + suc n ≡ a + 1 + n = omega arith in
    let e : suc n + 1 ≡ suc (n + 1) = omega arith in
    rw (e, place, y, laid_behind (take stride all) (laid stride (map f (range_with_len (a + 1) n)) (drop stride memory)) (f (a + 1 + n)) (n * stride))
    (ap (λ l. take stride all ++ l) (laid_more f stride width (a + 1) n (drop stride memory) narrow long
    (omega (arith, length-drop stride memory, more, inside))))

-- rows without gaps between them are a list
pub dense : (f : ℕ → List ℕ) (width : ℕ) → ((y : ℕ) → length (f y) ≡ width) → (ys memory : List ℕ) → laid width (map f ys) memory ≡ flat_map f ys ++ drop (length ys * width) memory
dense f width w [] memory = let none : zero * width ≡ 0 = omega arith in ap (λ n. drop n memory) (sym none)
dense f width w (y ∷ ys) memory = search (rules, take-append_seam, drop-drop, append_assoc, dense f width w ys (drop width memory))

-- three parts, each laid behind the one before
pub three_laid : (a b c old : List ℕ) (n m : ℕ) → n ≡ length a → m ≡ n + length b
    → laid_at m c (laid_at n b (a ++ drop (length a) old)) ≡ a ++ b ++ c ++ drop (length (a ++ b ++ c)) old
three_laid a b c old n m at behind = search (rules, length-append, take-append_seam, drop-append-add, drop-drop, append_assoc)

-- the next row is laid
pub row_laid : (p : Picture) (c : Component) (w : Window) (n stride : ℕ) (row mid new memory : List ℕ) → w ≡ window_of p c → row ≡ shown_of_row p c (w.top + n) → w.width ≤ stride
    → n * stride + w.width ≤ length memory → mid ≡ laid stride (map (shown_of_row p c) (range_with_len (window_of p c).top n)) memory
    → new ≡ laid_at (n * stride) row mid → new ≡ laid stride (map (shown_of_row p c) (range_with_len (window_of p c).top (n + 1))) memory
row_laid p c w n stride row mid new memory w_is is wide room so_far laid_is =
    let wide_too = rw w_is at wide in
    let room_too = rw w_is at room in
    laid_is ∙ rw (so_far, is, w_is)
    (sym (laid_more (shown_of_row p c) stride (window_of p c).width (window_of p c).top n memory wide_too
    (length-part_of_row (columns_of p c) (samples_of p c) (window_of p c).left (window_of p c).width) room_too))

-- a component without gaps, behind what stands in front
dense_at : (p : Picture) (c : Component) (old part : List ℕ) (place : ℕ) → part ≡ laid (window_of p c).width (shown_rows p c) (drop place old)
    → take place old ++ part ≡ laid_at place (shown_of p c) old
dense_at p c old part place is = search (rules, length-part_of_row, length-range_with_len, length-window, dense, drop-drop, append_assoc)

pub dense_component : (p : Picture) (c : Component) (w : Window) (old part : List ℕ) (place : ℕ) → w ≡ window_of p c → part ≡ laid w.width (shown_rows p c) (drop place old)
    → take place old ++ part ≡ laid_at place (shown_of p c) old
dense_component p c w old part place w_is is = dense_at p c old part place (rw w_is at is)

-- all three components are copied
pub all_copied : (p : Picture) (l c : Window) (old one two new : List ℕ) (n m : ℕ) → l ≡ window_of p Luma → c ≡ window_of p Cb → n ≡ 0 + l.height * l.width → m ≡ n + c.height * c.width
    → one ≡ laid_at 0 (shown_of p Luma) old → two ≡ laid_at n (shown_of p Cb) one → new ≡ laid_at m (shown_of p Cr) two → new ≡ i420 p ++ drop (length (i420 p)) old
all_copied p l c old one two new n m is_l is_c at behind first second third =
    let none : 0 + length (shown_of p Luma) ≡ length (shown_of p Luma) = omega arith in
    rw (third, second, first, none)
    (three_laid (shown_of p Luma) (shown_of p Cb) (shown_of p Cr) old n m (omega (arith, at, length-shown_of p Luma l is_l)) (omega (arith, behind, length-shown_of p Cb c is_c)))

-- a part of memory to its end is written anew
pub end_written : (place : ℕ) (old part : List ℕ) → put_mid place (length old - place) old part ≡ take place old ++ part
end_written place old part = search (rules, drop_of_length-le, length-drop, append-nil)

-- ---- worked examples: a cropped picture, and rows in memory

-- 16x16 of which 10x10 are shown; luma sample (x, y) is 16 y + x
abbrev rising : Picture
rising = record {
  width = 16;
  height = 16;
  crop = record { left = 0; right = 6; top = 0; bottom = 6 };
  info = no_picture_info;
  luma = range_with_len 0 256;
  cb = replicate 64 0x40;
  cr = replicate 64 0xC0;
}

shown : i420 rising ≡ flat_map (λ y. range_with_len (16 * y) 10) (range_with_len 0 10) ++ replicate 25 0x40 ++ replicate 25 0xC0
shown = refl

-- two rows of three bytes in memory, five bytes apart
laid_apart : laid 5 ((1 ∷ 2 ∷ 3 ∷ []) ∷ (4 ∷ 5 ∷ 6 ∷ []) ∷ []) (replicate 9 0xFF) ≡ 1 ∷ 2 ∷ 3 ∷ 0xFF ∷ 0xFF ∷ 4 ∷ 5 ∷ 6 ∷ 0xFF ∷ []
laid_apart = refl
