use Rattle.std.proofs.Common.{◌++◌, codes}
use Rattle.std.specs.Fmt.{decimal}
use Rattle.avc_report.specs.Text.{decibels, newline, psnr_line}
use Rattle.avc_report.proofs.Lines.{joined_five, seven_parts}
use Rattle.avc_report.proofs.text.add_psnr.Goals as goal

pub returns : goal.returns
returns c =
    joined_five (psnr_line c.args.number c.args.psnr) _ _ _ _ _ _ _ _ _ _ _ c.in_ok-write.ensures.bytes c.in_ok-add_ratio.ensures c.in_ok-add_ratio-2.ensures c.in_ok-add_ratio-3.ensures
    c.in_ok-push_str.ensures.bytes
    (seven_parts (codes "picture ") (decimal c.args.number) (codes " psnr") (codes " Y " ++ decibels c.args.psnr.luma) (codes " U " ++ decibels c.args.psnr.cb) (codes " V " ++ decibels c.args.psnr.cr) newline)
