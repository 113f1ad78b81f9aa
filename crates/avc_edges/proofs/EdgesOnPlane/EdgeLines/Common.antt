-- The names that the proofs cite of std, of the crates below and of the definitions here, passed on from one place. Declares nothing.
pub use Rattle.std.proofs.Common.{ℕ, ◌<◌, zero, suc, arith, [], ◌≡◌, ◌+◌, ◌-◌, ◌≤◌, ◌∷◌, Bool, true, false, slice_index, refl, sym, ap, ◌∙◌, if◌then◌else◌}
pub use Rattle.std.proofs.Common.{◌==◌, ◌&&◌, ◌*◌, List, ℤ, pos, negsuc, ◌+ℤ◌, ◌-ℤ◌, nat_abs, nat_lt, ◌/◌, ◌%◌, below_more, add-zero, length, get_or, ◌≢◌}
pub use Rattle.std.proofs.Common.{slice_set, ⊎_elim, inl, inr, mul_comm, get_or-set_other, get_or-set_same, length-set, map, subst}
pub use Rattle.std.proofs.Common.{rules, w8}
pub use Rattle.std.proofs.Math.Nat.{div-lt_iff_lt-mul}
pub use Rattle.std.proofs.lemmas.Bool.{cases_lt, cases_eq, and_parts, eqb-true, leb-true}
pub use Rattle.std.proofs.lemmas.Bool.Decides.{nat_tests}
pub use Rattle.std.proofs.lemmas.Int.{ints}
pub use Rattle.std.proofs.lemmas.List.{set-get_or}
pub use Rattle.std.proofs.lemmas.List.FromFn.{fill_by_all}
pub use Rattle.std.proofs.lemmas.Nat.{mul-add-lt, same_from_place, mod_below}
pub use Rattle.std.proofs.lemmas.Simd.{Each1-from_get_or, get_or_wider, get_or-chunk, length-chunk, SwzOk-from_below, get_or-swz_l_below}
pub use Rattle.std.specs.List.{range_with_len}
pub use Rattle.std.specs.Prelude.{◌||◌, nat_le, not}
pub use Rattle.avc_plane.proofs.PlaneMaps.{plane_of_same, inside, sample-with_block, length-plane_of, by_place}
pub use Rattle.avc_plane.specs.Plane.{Plane, sample, with_block, is_inside}
pub use Rattle.avc_types.specs.Arithmetic.{clip1, distance}
pub use lib.Lanes.{chunk, number_l, digits_l}
pub use Rattle.avc_edges.specs.PlaneLine.{with_line, line_filtered, line_at, place, HasLines}
pub use Rattle.avc_edges.specs.Line.{Line, Setting, filtered, filtered_weakly, filtered_strongly, is_filtered, mirrored, strong_p0, strong_p1, strong_p2}
pub use Rattle.avc_edges.specs.Line.{alpha_of, beta_of, tc0_of, setting_of}
pub use Rattle.avc_edges.specs.OneEdge.{tc1_of, strength_along, AreLimits, AreStrengths, FitsWeak, lines_filtered, edge_behind, chroma_setting, chroma_filtered}
unfoldable pub use Rattle.avc_edges.specs.OneEdge.{edge_filtered}
pub use Rattle.avc_edges.specs.Rows.{line, line_of, line_of_rows, line_within, line_inside, line_across, line_down, samples_at, line_near, IsTransposed, AreSet, IsKeptOutside}
pub use Rattle.avc_edges.specs.Rows.{IsNearSet, IsWeak, slope, bend, held, IsStrong, IsRiffled, IsInnerSet}
pub use Rattle.avc_edges.specs.declared.strengths.Strengths.{Strengths}
pub use Rattle.avc_edges.specs.declared.strengths.Strengths.TheVariants.{Four, BelowFour}
pub use Rattle.avc_edges.specs.declared.thresholds.EdgeQp.{EdgeQp}
pub use Rattle.avc_edges.specs.declared.thresholds.QpLimits.{QpLimits}
