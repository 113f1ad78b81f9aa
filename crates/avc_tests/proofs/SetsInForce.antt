-- A header that was read under the sets in force is within these.
use Rattle.std.proofs.Common.{◌≡◌, ◌∙◌, ℕ, List, Some, ap, sym}
use Rattle.avc_params.specs.Tables.{Sets}
use Rattle.avc_params.specs.declared.pps.Pps.{Pps}
use Rattle.avc_params.specs.declared.sps.Sps.{Sps}
use Rattle.avc_slice.specs.Within.{IsHeader, IsReadUnder}
use Rattle.avc_slice.specs.declared.header.Header.{Header}

some_is : {A : Type 0} (a b : A) → Some a ≡ Some b → a ≡ b
some_is a b e = cc

pub within_sets : (sets : Sets) (rbsp : List ℕ) (h : Header) (pps : Pps) (sps : Sps) → IsReadUnder sets rbsp h
    → sets.pps h.pic_parameter_set_id ≡ Some pps → sets.sps pps.seq_parameter_set_id ≡ Some sps → IsHeader sps pps rbsp h
within_sets sets rbsp h pps sps t ep es =
    let p : t.pps ≡ pps = some_is t.pps pps (sym t.pps_is ∙ ep) in
    let s : t.sps ≡ sps = some_is t.sps sps (sym t.sps_is ∙ ap (λ (q : Pps). sets.sps q.seq_parameter_set_id) p ∙ es) in
    rw (p, s) at t.within
