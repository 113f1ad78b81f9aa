-- What the functions say that put what they read into the header.
use Rattle.std.specs.Prelude.{◌≡◌, pos, Option, None, List, Result, Ok, Err, MatchResult}
use Rattle.avc_types.specs.declared.fault.Fault.{Fault}
use Rattle.avc_types.specs.declared.references.Marking.{Marking}
use Rattle.avc_types.specs.declared.references.Marking.TheVariants.{Adaptive}
use Rattle.avc_types.specs.declared.references.Modification.{Modification}
use Rattle.avc_bits.specs.Bits.{Read, ◌>>=◌, give}
use Rattle.avc_bits.specs.Reader.{reader_bits, reader_bytes}
use Rattle.avc_bits.specs.declared.reader.BitReader.{BitReader}
use Rattle.avc_slice.specs.Reading.{most_operations, operations}
use Rattle.avc_slice.specs.declared.header.CodedOrder.TheVariants.{Type2}
use Rattle.avc_slice.specs.declared.header.Header.{Header}
use Rattle.avc_slice.specs.declared.header.SliceType.TheVariants.{I}
use Rattle.avc_slice.specs.declared.parts.ActiveCount.{ActiveCount}
use Rattle.avc_slice.specs.declared.parts.ListPart.{ListPart}
use Rattle.avc_slice.specs.declared.weights.PredWeightTable.{PredWeightTable}

-- What this part of the syntax reads from the bits ahead stands in its place, and the reader goes
-- on after it.
abbrev pub Fills : {V : Type 0} → Result (Unit {0}) Fault → V → Read V → BitReader → BitReader →
    Type 0
Fills result place read old new = MatchResult result
    (λ _. (read (reader_bits old) ≡ Ok (place, reader_bits new)) ×
    (reader_bytes new ≡ reader_bytes old))
    (λ fault. read (reader_bits old) ≡ Err fault)

-- the operations of a picture that is no IDR picture (7.3.3.3)
abbrev pub adaptive : Read Marking
adaptive = operations most_operations >>= λ list. give (Adaptive list)

-- what RefPicList0 is made by, of its parts
abbrev pub list_of : ActiveCount → Option (List Modification) → Option PredWeightTable → ListPart
list_of c modifications table = record {
  active_override = c.active_override;
  num_ref_idx_active = c.num_ref_idx_active;
  modifications = modifications;
  pred_weight_table = table;
}

-- The part of P slices was read, with its large parts put into their places.
abbrev pub FillsList : Result ActiveCount Fault → Option (List Modification) →
    Option PredWeightTable → Read ListPart → BitReader → BitReader → Type 0
FillsList result modifications table read old new = MatchResult result
    (λ c. (read (reader_bits old) ≡ Ok (list_of c modifications table, reader_bits new)) ×
    (reader_bytes new ≡ reader_bytes old))
    (λ fault. read (reader_bits old) ≡ Err fault)

-- what stands in a place, or the fault for which it was not read
abbrev pub filled : {V : Type 0} → Result (Unit {0}) Fault → V → Result V Fault
filled (Ok _) place = Ok place
filled (Err f) place = Err f

-- a header in which nothing stands yet
abbrev pub empty_header : Header
empty_header = record {
  nal_ref_idc = 0;
  first_mb_in_slice = 0;
  slice_type = I;
  pic_parameter_set_id = 0;
  frame_num = 0;
  idr_pic_id = None;
  order = Type2;
  redundant_pic_cnt = None;
  active_override = None;
  num_ref_idx_active = 0;
  modifications = None;
  pred_weight_table = None;
  marking = None;
  slice_qp_delta = pos 0;
  deblocking = None;
  position = 0;
}
