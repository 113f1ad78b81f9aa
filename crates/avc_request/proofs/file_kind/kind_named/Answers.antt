use Rattle.std.proofs.Common.{arith, sym}
use Rattle.avc_request.proofs.file_kind.kind_named.Goals as goal

pub returns-in-mp4-3 : goal.returns-in-mp4-3
returns-in-mp4-3 c = (2, omega arith, sym c.in-mp4.is-mov)

pub returns-in-mp4-4 : goal.returns-in-mp4-4
returns-in-mp4-4 c = (3, omega arith, sym c.in-mp4.is-mkv)

pub returns-in-mp4-5 : goal.returns-in-mp4-5
returns-in-mp4-5 c = (4, omega arith, sym c.in-mp4.is-webm)

pub returns-in-mp4-6 : goal.returns-in-mp4-6
returns-in-mp4-6 c = (5, omega arith, sym c.in-mp4.is-ts)

pub returns-in-mp4-7 : goal.returns-in-mp4-7
returns-in-mp4-7 c = (6, omega arith, sym c.in-mp4.is-flv)

pub returns-in-mp4-8 : goal.returns-in-mp4-8
returns-in-mp4-8 c = (7, omega arith, sym c.in-mp4.is-avi)

pub returns-in-mp4-9 : goal.returns-in-mp4-9
returns-in-mp4-9 c = (8, omega arith, sym c.in-mp4.is-ivf)

pub returns-in-mp4-10 : goal.returns-in-mp4-10
returns-in-mp4-10 c = (9, omega arith, sym c.in-mp4.is-jpg)

pub returns-in-mp4-11 : goal.returns-in-mp4-11
returns-in-mp4-11 c = (10, omega arith, sym c.in-mp4.is-jpeg)
