-- What is told of the stage at which a macroblock differs.
use Rattle.std.specs.Prelude.{ℕ, ℤ, pos, ◌+◌, ◌*◌, Bool, true, false, if◌then◌else◌, List, [], ◌++◌}
use Rattle.std.specs.Prelude.{slice_index, slice_index_or, codes}
use Rattle.std.specs.Fmt.{decimal, signed_decimal}
use Rattle.avc_types.specs.declared.vector.Mv.{Mv}
use Rattle.avc_motion.specs.Motion.{zero_vector}
use Rattle.avc_report.specs.Text.{newline}
use Rattle.avc_stages.specs.Stages.{stage_of}
use Rattle.avc_stages.specs.Strengths.{no_edge}
use Rattle.avc_stages.specs.declared.edges.Edge.{Edge}
use Rattle.avc_stages.specs.declared.stage.Counts.{Counts}
use Rattle.avc_stages.specs.declared.stage.Stage.{Stage}
use Rattle.avc_stages.specs.declared.stage.Stage.TheVariants.{Unfiltered, BeforeDeblocking}
use Rattle.avc_stages.specs.declared.stage.Stage.TheVariants.{Deblocking}
use Rattle.avc_stages.specs.declared.text.Explained.{Explained}
use Rattle.avc_stages.specs.declared.motion.InterMotion.{InterMotion}
use Rattle.avc_stages.specs.declared.motion.Motion.{Motion}
use Rattle.avc_stages.specs.declared.motion.Motion.TheVariants.{Intra, Inter}

-- how many samples of a macroblock are of which kind
abbrev pub counts_line : (address : ℕ) → Counts → List ℕ
counts_line address c =
    codes "macroblock " ++ decimal address ++ codes ": " ++ decimal c.differing ++ codes " of its "
    ++ decimal c.shown ++ codes " samples differ, "
    ++ decimal c.unchanged ++ codes " of these are not changed by our deblocking; "
    ++ decimal c.unfiltered
    ++ codes " of the other's are ours before deblocking" ++ newline

-- the stages before deblocking, by how the macroblock is predicted
abbrev pub stages_before : Motion → List ℕ
stages_before Intra = codes "intra prediction (8.3), residual (8.5), or samples of I_PCM (8.3.5)"
stages_before (Inter m) =
    if m.has_luma_levels then codes "inter prediction (8.4) or residual (8.5)"
    else codes "inter prediction (8.4), or residual of chroma (8.5)"

-- the stage
abbrev pub stage_words : Motion → Stage → List ℕ
stage_words motion Unfiltered =
    codes "deblocking (8.7): the other's samples are ours before it, so its filter changed none"
stage_words motion BeforeDeblocking =
    codes "before deblocking, unless the other filters more: " ++ stages_before motion
stage_words motion Deblocking =
    codes "deblocking (8.7), or before it: our filter changes each sample that differs"

abbrev pub stage_line : Motion → Stage → List ℕ
stage_line motion stage = codes "stage: " ++ stage_words motion stage ++ newline

-- a vector, in quarter samples
abbrev pub vector_words : Mv → List ℕ
vector_words v = codes " (" ++ signed_decimal v.x ++ codes ", " ++ signed_decimal v.y ++ codes ")"

-- where a quarter is predicted from: PicOrderCnt of its reference picture (8.2.1)
abbrev pub quarter_words : (quarter : ℕ) → (order_count : ℤ) → List ℕ
quarter_words q order_count =
    codes "quarter " ++ decimal q ++ codes ": PicOrderCnt " ++ signed_decimal order_count
    ++ codes ", vectors"

-- the vector of a block, in block order (8.4.1)
abbrev pub block_vector : InterMotion → (block : ℕ) → List ℕ
block_vector m k = vector_words (slice_index_or m.vectors k zero_vector)

-- both, for the four blocks of the quarter
abbrev pub quarter_line : InterMotion → (quarter : ℕ) → List ℕ
quarter_line m q =
    quarter_words q (slice_index_or m.order_counts q (pos 0)) ++ block_vector m (4 * q)
    ++ block_vector m (4 * q + 1) ++ block_vector m (4 * q + 2) ++ block_vector m (4 * q + 3)
    ++ newline

-- those of the four quarters of an inter macroblock
abbrev pub motion_lines : Motion → List ℕ
motion_lines Intra = []
motion_lines (Inter m) =
    quarter_line m 0 ++ quarter_line m 1 ++ quarter_line m 2 ++ quarter_line m 3

abbrev pub direction : (is_vertical : Bool) → List ℕ
direction true = codes "vertical"
direction false = codes "horizontal"

-- the strengths of an edge, if it is filtered
abbrev pub edge_words : Edge → List ℕ
edge_words e =
    if e.is_filtered
    then decimal (slice_index e.strengths 0) ++ codes " " ++ decimal (slice_index e.strengths 1)
    ++ codes " " ++ decimal (slice_index e.strengths 2)
    ++ codes " " ++ decimal (slice_index e.strengths 3)
    else codes "not filtered"

abbrev pub edge_line : (is_vertical : Bool) → (n : ℕ) → Edge → List ℕ
edge_line v n e =
    direction v ++ codes " edge " ++ decimal n ++ codes ": " ++ edge_words e ++ newline

abbrev pub lines_along : (is_vertical : Bool) → List Edge → List ℕ
lines_along v edges =
    edge_line v 0 (slice_index_or edges 0 no_edge) ++ edge_line v 1 (slice_index_or edges 1 no_edge)
    ++ edge_line v 2 (slice_index_or edges 2 no_edge)
    ++ edge_line v 3 (slice_index_or edges 3 no_edge)

-- how a macroblock differs, at which stage, where it is predicted from, and how its edges are
-- filtered
abbrev pub explained_text : Explained → List ℕ
explained_text e =
    counts_line e.address e.counts ++ stage_line e.motion (stage_of e.counts)
    ++ motion_lines e.motion
    ++ lines_along true (e.edges).vertical ++ lines_along false (e.edges).horizontal
