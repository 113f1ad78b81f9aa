use Rattle.avc_mbsyntax.proofs.SliceDataReading.{◌≡◌, ◌<◌, Err, arith, rules, ◌∙◌, length, take, length-set, times, reader_bits, take_more_set}
use Rattle.avc_mbsyntax.proofs.SliceDataReading.{times_more, times_fault}
use Rattle.avc_mbsyntax.proofs.elements.read_elements.Goals as goal

pub returns-in_err-element-clause-read : goal.returns-in_err-element-clause-read
returns-in_err-element-clause-read g c =
    let fault : times c.args.count (g.T.Element.part c.args.most) (reader_bits c.args.reader.now) ≡ Err c.in_err-element.field-0.0 =
    times_fault (g.T.Element.part c.args.most) c.args.count c.elements.k (reader_bits c.args.reader.now) (reader_bits c.elements.reader) (take c.elements.k c.elements.elements) c.in_err-element.field-0.0 (omega arith) c.elements.invariant.read c.in_err-element.ensures.read in
    search rules

pub returns-in_err-element-clause-whole : goal.returns-in_err-element-clause-whole
returns-in_err-element-clause-whole g c = λ all.
    let fault : times g.row.N (g.T.Element.part c.args.most) (reader_bits c.args.reader.now) ≡ Err c.in_err-element.field-0.0 =
    times_fault (g.T.Element.part c.args.most) g.row.N c.elements.k (reader_bits c.args.reader.now) (reader_bits c.elements.reader) (take c.elements.k c.elements.elements) c.in_err-element.field-0.0 (omega arith) c.elements.invariant.read c.in_err-element.ensures.read in
    search rules

pub elements-preserved : goal.elements-preserved
elements-preserved g c =
    let within : c.elements.k < length c.elements.elements = omega (arith, c.elements.invariant.long) in
    record {
      long = length-set c.elements.elements c.elements.k c.in_ok-element.element ∙ c.elements.invariant.long;
      read = rw (take_more_set c.elements.elements c.elements.k c.in_ok-element.element within)
          (times_more (g.T.Element.part c.args.most) c.elements.k (reader_bits c.args.reader.now) (reader_bits c.elements.reader) (reader_bits c.read.new.reader) (take c.elements.k c.elements.elements) c.in_ok-element.element c.elements.invariant.read c.in_ok-element.ensures.read.0);
      bytes = c.in_ok-element.ensures.read.1 ∙ c.elements.invariant.bytes;
    }
