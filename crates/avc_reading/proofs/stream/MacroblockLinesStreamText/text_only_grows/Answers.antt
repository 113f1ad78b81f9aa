use Rattle.avc_reading.proofs.Read.{asked_in, lines_grow, selection_of_text, text_number}
use Rattle.avc_reading.proofs.stream.MacroblockLinesStreamText.text_only_grows.Goals as goal

pub returns : goal.returns
returns g c = lines_grow (asked_in g.F.MacroblockForm.form (selection_of_text (text_number c.args.self.now.selection))) c.units_stay.ensures
