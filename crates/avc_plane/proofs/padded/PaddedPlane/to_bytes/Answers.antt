use Rattle.avc_plane.proofs.PlaneMaps.{ℕ, ◌≡◌, ◌+◌, ◌-◌, ◌*◌, ◌∙◌, ◌++◌, List, length, take, slice_range, arith, ap, sym, mul_comm, take-add}
use Rattle.avc_plane.proofs.PlaneMaps.{take-length, Plane, sizes, all_samples}
use Rattle.avc_plane.proofs.padded.PaddedPlane.to_bytes.Goals as goal

-- one row more
row_more : (samples bytes row : List ℕ) (y width : ℕ) → bytes ≡ take (y * width) samples → row ≡ slice_range samples (y * width) (y * width + width) → bytes ++ row ≡ take ((y + 1) * width) samples
row_more samples bytes row y width so_far here =
    let one : y * width + width - y * width ≡ width = omega arith in
    let more : (y + 1) * width ≡ y * width + width = omega arith in
    rw (so_far, here, more, take-add (y * width) width samples, one)

all_rows : (p : Plane) (bytes : List ℕ) (y : ℕ) → length p.samples ≡ p.width * p.height → y ≡ p.height → bytes ≡ take (y * p.width) p.samples → bytes ≡ p.samples
all_rows p bytes y long last so_far =
    so_far ∙ ap (λ n. take n p.samples) (ap (λ v. v * p.width) last ∙ mul_comm p.height p.width ∙ sym long) ∙ take-length p.samples

pub loop-y-preserved : goal.loop-y-preserved
loop-y-preserved g c = c.in_ok-extend_from_slice.ensures.items ∙ row_more c.args.self.now.samples c.loop-y.bytes.items c.row.result.now c.loop-y.y c.args.self.now.width c.loop-y.invariant c.row.ensures

pub returns : goal.returns
returns g c =
    let a = c.self.inside in
    let wide = c.self.invariant.rows.wide in
    let long = c.self.invariant.rows.long in
    let rows = (sizes g.row.PAD a.stride a.width a.height a.stored.items wide long _ c.self.view_is).1 in
    let all = all_samples g.row.PAD a.stride a.width a.height a.stored.items wide long _ c.self.view_is in
    c.from_vec.ensures ∙ all_rows c.args.self.now c.loop-y.bytes.items c.loop-y.y all (omega arith) c.loop-y.invariant
