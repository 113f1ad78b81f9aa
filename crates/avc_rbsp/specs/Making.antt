-- How a maker keeps its bits: these words are the crate's own, and callers need none of them.
use Rattle.std.specs.Prelude.{◌≡◌, ◌-◌, ◌*◌, false, length, take}
use Rattle.avc_bits.specs.Bits.{byte_bits}
use Rattle.avc_rbsp.specs.Made.{Made, IsFilled}
use Rattle.avc_rbsp.specs.declared.maker.BitMaker.TheInside.{Inside}

-- the bits in the bytes so far, without the free ones of the last byte
abbrev pub made_by : Inside → Made
made_by s = record {
  bits = take (8 * length s.bytes.items - s.free) (byte_bits s.bytes.items);
  failed = s.failed;
}

-- the free bits of the last byte are 0, unless memory was refused
abbrev pub IsMakerState : Inside → Type 0
IsMakerState s =
    s.failed ≡ false →
    IsFilled s.bytes.items (take (8 * length s.bytes.items - s.free) (byte_bits s.bytes.items))
    s.free
