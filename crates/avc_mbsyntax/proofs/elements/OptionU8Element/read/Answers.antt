use Rattle.avc_mbsyntax.proofs.SliceDataReading.{◌∙◌, arith, None, Some, reader_bits, skip, fault_told, mode_none, mode_some, then_fault, then_given}
use Rattle.avc_mbsyntax.proofs.elements.OptionU8Element.read.Goals as goal

pub returns : goal.returns
returns c =
    let b = reader_bits c.args.reader.now in
    let four = c.peek-four.result in
    record {
      read = (
        mode_some b four c.peek-four.ensures.bits c.if-four-ge8.false ∙ then_given (skip 4) _ (Some four) b (reader_bits c.skip-2.new.self) c.in_ok-skip-2.ensures.read.0,
        c.in_ok-skip-2.ensures.read.1,
      );
    }

pub returns-in_err-skip : goal.returns-in_err-skip
returns-in_err-skip c =
    let b = reader_bits c.args.reader.now in
    let four = c.peek-four.result in
    record {
      read = fault_told _ c.from_residual.result c.from_residual.ensures.1
          (mode_none b four c.peek-four.ensures.bits (omega (arith, c.peek-four.ensures.below)) c.if-four-ge8.true ∙ then_fault (skip 1) None b _ c.in_err-skip.ensures.read);
    }

pub returns-in_err-skip-2 : goal.returns-in_err-skip-2
returns-in_err-skip-2 c =
    let b = reader_bits c.args.reader.now in
    let four = c.peek-four.result in
    record {
      read = fault_told _ c.from_residual-in_err-skip-2.result c.from_residual-in_err-skip-2.ensures.1
          (mode_some b four c.peek-four.ensures.bits c.if-four-ge8.false ∙ then_fault (skip 4) (Some four) b _ c.in_err-skip-2.ensures.read);
    }
