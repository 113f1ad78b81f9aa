use Rattle.avc_vlc.proofs.Entries.{arith, all_at, indexed_table}
use Rattle.avc_vlc.specs.Indexing.{is_within}
use Rattle.avc_vlc.proofs.entry.number_in.Goals as goal

pub returns-clause-decides : goal.returns-clause-decides
returns-clause-decides g c = λ each ahead is there.
    c.number_at.ensures.decides (each c.args.table) ahead (indexed_table each 2 g.row.ROWS c.args.tables.now c.args.table _ is (omega (arith, c.requires.there, c.told-tables))) there

pub returns-clause-short : goal.returns-clause-short
returns-clause-short g c = λ most all.
    c.number_at.ensures.short most (all_at (is_within most) c.args.tables.now c.args.table _ all (omega (arith, c.requires.there, c.told-tables)))
