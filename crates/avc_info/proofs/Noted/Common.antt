-- The names that the proofs cite of std, of the crates below and of the definitions here, passed on from one place. Declares nothing.
pub use Rattle.std.proofs.Common.{◌≡◌, ℕ, List, ap, ◌∙◌, ◌≤◌, Bool, true, false, [], ◌∷◌, ◌++◌, length, if◌then◌else◌, refl, sym, append_assoc, append-nil}
pub use Rattle.std.proofs.Common.{◌+◌, length-append, string_bytes}
pub use Rattle.std.proofs.Common.{rules, arith}
pub use Rattle.avc_annexb.specs.SplitterState.{SplitterState, after_feed, units_waiting}
pub use Rattle.avc_annexb.specs.Units.{saturated, units}
pub use Rattle.avc_annexb.specs.declared.unit.Unit.{Unit}
pub use Rattle.avc_params.specs.Tables.{sets_after}
pub use Rattle.avc_params.specs.declared.set_unit.SetUnit.{SetUnit}
pub use Rattle.avc_tools.proofs.Taking.{IsDraining, all_taken, draining_begun, one_more, sets_again, feed_keeps_end}
pub use Rattle.avc_tools.proofs.Taking.Stages.{drained, left_by_finish, left_by_feed, whole_units}
pub use Rattle.avc_units.proofs.SetUnits.{set_units-append, set_units_more, sets_then}
pub use Rattle.avc_tools.specs.Streams.{AreLeft, StreamSoFar, after_end, after_piece, after_units_left, units_left, max_unit}
pub use Rattle.avc_units.specs.Grouping.{list_of, set_unit, set_units}
unfoldable pub use Rattle.serde_json.proofs.OnLiterals.{serde_json_on_literals}
pub use Rattle.serde_json.proofs.Views.{view-Object}
pub use Rattle.serde_json.specs.Data.{Data, Members, put, object, string}
pub use Rattle.serde_json.specs.View.{members_view}
pub use Rattle.avc_info.specs.Facts.{no_facts}
pub use Rattle.avc_info.specs.Info.{AreNoted, info_so_far}
pub use Rattle.avc_info.specs.Json.{count, count_if_given, kinds_data, ratio_data, sizes_data}
pub use Rattle.avc_info.specs.Noting.{after_unit, facts_after}
pub use Rattle.avc_info.specs.PictureText.{colour_text}
pub use Rattle.avc_sequence.specs.Rates.{bit_rate, duration}
pub use Rattle.avc_info.specs.Text.{level_name, profile_name}
pub use Rattle.avc_info.specs.declared.stream_facts.StreamFacts.{StreamFacts}
