use Rattle.avc_vlc.proofs.Entries.{sym, subst, written_table, IsWritten}
use Rattle.avc_vlc.proofs.codeword.Codeword.in_table.Goals as goal

pub returns : goal.returns
returns g c = λ each written.
    let rows = c.index-tables-table.result in
    let same = g.V.Coded.same in
    c.of.ensures (each c.args.table) (subst (IsWritten same (each c.args.table) c.args.tail) (sym c.index-tables-table.is)
    (written_table same each c.args.tail c.args.tables.now c.args.table rows written c.requires.there))
