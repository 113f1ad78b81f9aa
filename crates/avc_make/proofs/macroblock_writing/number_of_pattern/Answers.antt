use Rattle.avc_make.proofs.Slices.{◌+◌, drop, arith, drop_at, number_below, number_is_place, place_behind, place_here, table_of}
use Rattle.avc_make.proofs.macroblock_writing.number_of_pattern.Goals as goal

pub numbers-init : goal.numbers-init
numbers-init c = record { place = omega (arith, number_is_place c.args.intra c.args.pattern) }

pub returns-then-cbp_of-pattern-clause-value : goal.returns-then-cbp_of-pattern-clause-value
returns-then-cbp_of-pattern-clause-value c =
    let all = drop c.numbers.k (table_of c.args.intra) in
    let here = place_here c.args.pattern c.cbp_of.result (drop (c.numbers.k + 1) (table_of c.args.intra)) all (drop_at c.args.intra c.numbers.k c.cbp_of.result c.cbp_of.ensures.value) c.if-cbp_of-pattern.true in
    omega (arith, here, c.numbers.invariant.place)

pub numbers-preserved : goal.numbers-preserved
numbers-preserved c =
    let all = drop c.numbers.k (table_of c.args.intra) in
    let behind = place_behind c.args.pattern c.cbp_of.result (drop (c.numbers.k + 1) (table_of c.args.intra)) all (drop_at c.args.intra c.numbers.k c.cbp_of.result c.cbp_of.ensures.value) c.if-cbp_of-pattern.false in
    record { place = omega (arith, behind, c.numbers.invariant.place) }

pub returns-clause-value : goal.returns-clause-value
returns-clause-value c = omega (arith, c.numbers.invariant.place, (number_below c.args.intra c.args.pattern c.requires).small)
