-- What parameter sets and slice headers say of a stream.
use Rattle.std.specs.Prelude.{ℕ, ◌+◌, max, Bool, true, ◌&&◌, if◌then◌else◌, [], ◌∷◌, ◌++◌, Option}
use Rattle.std.specs.Prelude.{Some, None}
use Rattle.std.specs.Option.{option_map}
use Rattle.avc_types.specs.declared.fault.Fault.{Fault}
use Rattle.avc_annexb.specs.Units.{saturated}
use Rattle.avc_params.specs.Tables.{Sets}
use Rattle.avc_slice.specs.Begins.{begins}
use Rattle.avc_slice.specs.Header.{is_idr}
use Rattle.avc_slice.specs.declared.header.Header.{Header}
use Rattle.avc_units.specs.Bringing.{sps_under}
use Rattle.avc_info.specs.Sizes.{no_sizes, shown_size, with_size_if}
use Rattle.avc_sequence.specs.Finding.{first_of}
use Rattle.avc_sequence.specs.Sequences.{said_by}
use Rattle.avc_sequence.specs.declared.sequence_facts.SequenceFacts.{SequenceFacts}
use Rattle.avc_info.specs.declared.slice_counts.SliceCounts.{SliceCounts}
use Rattle.avc_info.specs.declared.stream_facts.SetHead.{SetHead}
use Rattle.avc_info.specs.declared.stream_facts.StreamFacts.{StreamFacts}

-- ---- slices

-- the slice begins a picture (7.4.1.2.4), behind the slice before it
abbrev pub begins_after : Option Header → Header → Bool
begins_after None h = true
begins_after (Some last) h = begins last h

-- one more, where this holds
abbrev pub one_more_if : Bool → ℕ → ℕ
one_more_if more n = if more then saturated (n + 1) else n

-- how many slices its picture has up to this one
abbrev pub slices_with : (is_first : Bool) → (before : ℕ) → ℕ
slices_with is_first before = if is_first then 1 else saturated (before + 1)

-- with one slice more. An IDR picture begins a coded video sequence (3.30)
abbrev pub with_slice : SliceCounts → Header → SliceCounts
with_slice c h = record {
  last = Some h;
  pictures = one_more_if (begins_after c.last h) c.pictures;
  sequences = one_more_if (begins_after c.last h && is_idr h) c.sequences;
  slices = slices_with (begins_after c.last h) c.slices;
  most_slices = max c.most_slices (slices_with (begins_after c.last h) c.slices);
}

-- of no slices
abbrev pub no_slices : SliceCounts
no_slices = record { last = None; pictures = 0; sequences = 0; slices = 0; most_slices = 0 }

-- ---- a stream

-- nothing has come
abbrev pub no_facts : StreamFacts
no_facts = record {
  sequence = None;
  first_set = None;
  sizes = no_sizes;
  counts = no_slices;
  refused = 0;
  first_refusal = None;
  refusals = [];
  refused_set = None;
}

-- with a slice whose header was read under these sets: what is said of the sequence is what the
-- first slice's set says
abbrev pub after_slice : Sets → Header → StreamFacts → StreamFacts
after_slice sets h f = record f {
  sequence = first_of f.sequence (option_map said_by (sps_under sets h));
  sizes = with_size_if f.sizes (option_map shown_size (sps_under sets h));
  counts = with_slice f.counts h;
}

-- with a unit that is refused
abbrev pub after_refusal : (unit : ℕ) → Fault → StreamFacts → StreamFacts
after_refusal unit fault f = record f {
  refused = saturated (f.refused + 1);
  first_refusal = first_of f.first_refusal (Some (record { unit = unit; fault = fault }));
  refusals = f.refusals ++ record { unit = unit; fault = fault } ∷ [];
}

-- with a sequence parameter set: what it says, or what it begins with where it is refused
abbrev pub with_set : Option SequenceFacts → Option SetHead → StreamFacts → StreamFacts
with_set said refused f =
    record f { first_set = first_of f.first_set said; refused_set = first_of f.refused_set refused }
