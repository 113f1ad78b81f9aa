use Rattle.avc_vlc.proofs.Entries.{arith, all_at, indexed_table}
use Rattle.avc_vlc.specs.Indexing.{is_within}
use Rattle.avc_vlc.proofs.coeff_token.token_in.Goals as goal

pub returns-clause-decides : goal.returns-clause-decides
returns-clause-decides c = λ each ahead is there.
    c.token_at.ensures.decides (each c.args.table) ahead (indexed_table each 3 16 c.args.tables.now c.args.table _ is (omega (arith, c.requires, c.told-tables))) there

pub returns-clause-short : goal.returns-clause-short
returns-clause-short c = λ most all.
    c.token_at.ensures.short most (all_at (is_within most) c.args.tables.now c.args.table _ all (omega (arith, c.requires, c.told-tables)))
