-- What follows for a macroblock from its neighbours: its prediction modes (8.3.1.1) and its motion
-- (8.4.1).
use Rattle.std.specs.Prelude.{pos, Bool, if◌then◌else◌, List, [], ◌∷◌, ◌++◌, length, map}
use Rattle.std.specs.List.{list_all}
use Rattle.avc_types.specs.Macroblock.{Mb}
use Rattle.avc_types.specs.Pictures.{Coded, PicMb}
use Rattle.avc_neigh.specs.Modes.{modes_of}
use Rattle.avc_neigh.specs.declared.neighbour_info.Motion.{Motion}
use Rattle.avc_motion.specs.Motion.{is_in_range, motion_of, no_motion}
use Rattle.avc_mbsyntax.specs.SliceData.{SliceStart, placed}
use Rattle.avc_selection.specs.declared.derived.Derived.{Derived}

-- the picture up to these macroblocks, for those definitions that ask for neighbours: they ask for
-- nothing but the width, constrained_intra_pred_flag and the macroblocks
abbrev pub coded_up_to : (constrained_intra_pred : Bool) → SliceStart → List PicMb → Coded
coded_up_to constrained_intra_pred s mbs = record {
  width = s.width;
  height = 0;
  chroma_qp_index_offset = pos 0;
  constrained_intra_pred = constrained_intra_pred;
  slices = [];
  mbs = mbs;
}

-- A macroblock of which a vector can't be had counts as one without motion (this decoder's rule).
abbrev pub had : List Motion → List Motion
had motion = if list_all is_in_range motion then motion else no_motion

-- of a macroblock behind those before it, of which this is known
abbrev pub derived_of : (constrained_intra_pred : Bool) → SliceStart → (before : List PicMb) →
    (known : List Derived) → Mb → Derived
derived_of constrained_intra_pred s before known mb =
    let picture = coded_up_to constrained_intra_pred s (before ++ placed s mb ∷ []) in
    record {
      modes = modes_of picture (map (λ d. d.modes) known) (length before) mb.syntax;
      motion = had (motion_of picture (map (λ d. d.motion) known) (length before) mb.syntax);
    }

-- of these macroblocks, one after another
abbrev pub all_derived : (constrained_intra_pred : Bool) → SliceStart → (before : List PicMb) →
    (known : List Derived) → List Mb → List Derived
all_derived constrained_intra_pred s before known [] = []
all_derived constrained_intra_pred s before known (mb ∷ mbs) =
    let d = derived_of constrained_intra_pred s before known mb in
    d ∷ all_derived constrained_intra_pred s (before ++ placed s mb ∷ []) (known ++ d ∷ []) mbs
