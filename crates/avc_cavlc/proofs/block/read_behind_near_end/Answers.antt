use Rattle.avc_cavlc.proofs.Levels.{◌≡◌, ◌-◌, Ok, Err, length, take, drop, replicate, pos, arith, rules, sym, ◌∙◌, length-take-le, reader_bits, block_behind}
use Rattle.avc_cavlc.proofs.Levels.{some_levels, levels_fault, shorter_count}
use Rattle.avc_cavlc.proofs.block.read_behind_near_end.Goals.{In_ok-read_placed}
use Rattle.avc_cavlc.proofs.block.read_behind_near_end.Goals as goal

all : (c : In_ok-read_placed) →
    (block_behind c.args.max c.args.token (reader_bits c.args.reader.now) ≡ Ok (take c.args.max c.read_placed.new.block, reader_bits c.read_placed.new.reader)) × (drop c.args.max c.read_placed.new.block ≡ replicate (16 - c.args.max) (pos 0))
all c =
    let long : length (take c.args.token.total c.read_levels.new.values) ≡ c.args.token.total = length-take-le c.args.token.total c.read_levels.new.values (omega (arith, c.read_levels.array_long)) in
    some_levels c.args.max c.args.token (take c.args.token.total c.read_levels.new.values) c.read_placed.new.block (reader_bits c.args.reader.now) (reader_bits c.read_levels.new.reader) (reader_bits c.read_placed.new.reader)
    c.requires.few (omega arith) long c.in_ok-read_levels.ensures.read.0 c.in_ok-read_placed.ensures.read.0

pub returns-clause-read : goal.returns-clause-read
returns-clause-read c = ((all c).0, c.in_ok-read_placed.ensures.read.1 ∙ c.in_ok-read_levels.ensures.read.1)

pub returns-clause-rest : goal.returns-clause-rest
returns-clause-rest c = (all c).1

pub returns-clause-count : goal.returns-clause-count
returns-clause-count c = sym (shorter_count c.args.max c.read_placed.new.block _ (all c).1 ∙ c.in_ok-read_placed.ensures.count)

pub returns-in_err-read_placed-clause-read : goal.returns-in_err-read_placed-clause-read
returns-in_err-read_placed-clause-read c =
    let fault : block_behind c.args.max c.args.token (reader_bits c.args.reader.now) ≡ Err c.in_err-read_placed.field-0.0 =
    levels_fault c.args.max c.args.token (take c.args.token.total c.read_levels.new.values) (reader_bits c.args.reader.now) (reader_bits c.read_levels.new.reader) c.in_err-read_placed.field-0.0
    (omega arith) c.in_ok-read_levels.ensures.read.0 c.in_err-read_placed.ensures.read in
    search rules
