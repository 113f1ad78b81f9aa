-- Laws of slice headers (7.3.3).
use Rattle.std.specs.Prelude.{◌≡◌, ℕ, true, false, List, is_some, Ok}
use Rattle.avc_params.specs.Tables.{Sets}
use Rattle.avc_slice.specs.Header.{has_idr_marking, is_idr, is_p, is_reference}
use Rattle.avc_slice.specs.Reading.{header_in_rbsp}
use Rattle.avc_slice.specs.declared.header.Header.{Header}

-- An IDR picture has I slices alone; a reference picture alone has dec_ref_pic_marking, and that of
-- an IDR picture is one of its own (7.3.3, 7.4.1.2.4).
pub record KeepsIdrRules (h : Header) : Type 0 where
  pub intra : is_idr h ≡ true → is_p h ≡ false
  pub reference : is_some h.marking ≡ is_reference h
  pub marking : is_idr h ≡ true → has_idr_marking h ≡ true

-- Each header that can be read keeps to these rules.
abbrev pub HeadersKeepIdrRules : Type 0
HeadersKeepIdrRules =
    (header : ℕ) (sets : Sets) (rbsp : List ℕ) (h : Header) → header_in_rbsp header sets rbsp
    ≡ Ok h → KeepsIdrRules h
