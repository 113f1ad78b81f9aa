use Rattle.avc_make.proofs.macroblock_writing.write_macroblock.Goals as goal

pub returns-in-INxN : goal.returns-in-INxN
returns-in-INxN c = rw c.in-INxN.is c.put_i_nxn.ensures

pub returns-in-I16x16 : goal.returns-in-I16x16
returns-in-I16x16 c = rw c.in-I16x16.is c.put_i_16x16.ensures

pub returns-in-PInter : goal.returns-in-PInter
returns-in-PInter c = rw c.in-PInter.is c.put_p_inter.ensures
