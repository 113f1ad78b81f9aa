use Rattle.avc_transform.proofs.Residuals.{level, zigzag, scaled_line}
use Rattle.avc_transform.proofs.scaling.scaled_levels.Goals as goal

pub scaled-requires : goal.scaled-requires
scaled-requires c = record { levels = c.in_columns-columns.ensures.small.zeroth; scales = c.column_scales-scales.ensures.even_small }

pub scaled-requires-2 : goal.scaled-requires-2
scaled-requires-2 c = record { levels = c.in_columns-columns.ensures.small.first; scales = c.column_scales-scales.ensures.odd_small }

pub scaled-requires-3 : goal.scaled-requires-3
scaled-requires-3 c = record { levels = c.in_columns-columns.ensures.small.second; scales = c.column_scales-scales.ensures.even_small }

pub scaled-requires-4 : goal.scaled-requires-4
scaled-requires-4 c = record { levels = c.in_columns-columns.ensures.small.third; scales = c.column_scales-scales.ensures.odd_small }

pub returns : goal.returns
returns c =
    let qp = c.args.qp in
    let l = c.args.levels.now in
    let even = c.column_scales-scales.ensures.even in
    let odd = c.column_scales-scales.ensures.odd in
    let columns = c.in_columns-columns.ensures.values in
    record {
      values = record {
        zeroth = scaled_line qp 0 (λ k. level l (zigzag 0 k)) _ _ _ c.scaled.ensures.values columns.zeroth even;
        first = scaled_line qp 1 (λ k. level l (zigzag 1 k)) _ _ _ c.scaled-2.ensures.values columns.first odd;
        second = scaled_line qp 2 (λ k. level l (zigzag 2 k)) _ _ _ c.scaled-3.ensures.values columns.second even;
        third = scaled_line qp 3 (λ k. level l (zigzag 3 k)) _ _ _ c.scaled-4.ensures.values columns.third odd;
      };
      small = record { zeroth = c.scaled.ensures.small; first = c.scaled-2.ensures.small; second = c.scaled-3.ensures.small; third = c.scaled-4.ensures.small };
    }
