use Rattle.avc_vlc.proofs.Entries.{◌≡◌, ◌<◌, length, get_or, [], arith, run_decides, run_most, run_short}
use Rattle.avc_vlc.proofs.run_before.run_of_three.Goals as goal

there : (c : goal.After-result-1) → c.front-front.result < length (get_or c.args.tables.now c.args.table [])
there c = let long : length (get_or c.args.tables.now c.args.table []) ≡ 8 = c.told-tables c.args.table c.requires.there in omega (arith, c.front-front.ensures.below)

pub returns-clause-decides : goal.returns-clause-decides
returns-clause-decides c = λ ahead are is. run_decides c.args.tables.now c.args.table c.front-front.result ahead _ are c.requires.there (omega (arith, c.front-front.ensures.below)) (there c) (c.front-front.ensures.agrees ahead is)

pub returns-clause-most : goal.returns-clause-most
returns-clause-most c = λ are. run_most c.args.tables.now c.args.table c.front-front.result _ are c.requires.few (there c)

pub returns-clause-short : goal.returns-clause-short
returns-clause-short c = λ are. run_short c.args.tables.now c.args.table c.front-front.result _ are c.requires.few (there c)
