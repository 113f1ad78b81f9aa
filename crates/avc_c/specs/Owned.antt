-- What the address of a decoder owns.
use Rattle.std.specs.Prelude.{Option, Some, None}
use base.Fml.{Fml, ftrue}
use denote.RawPtr.{Ptr}
use Rattle.std.specs.Box.Ownership.{box_owns}
use Rattle.std.specs.declared.alloc.Global.{Global}
use Rattle.std.specs.contracts.impls.GlobalAllocator.TheImpl.{ghosts}
use Rattle.avc_c.specs.declared.address.OpenDecoder.{OpenDecoder}
use Rattle.avc_c.specs.contracts.address.OpenDecoder.{the_row}

-- the box with the decoder, where there is one
abbrev pub owned : Global → Ptr → Option OpenDecoder → Fml
owned alloc at (Some d) = box_owns (ghosts.dealloc_token alloc) the_row at d
owned alloc at None = ftrue
