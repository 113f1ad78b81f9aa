use Rattle.std.proofs.Common.{Option, None, Some}
use Rattle.std.specs.Option.{IfSome, option_copied}
use Rattle.avc_deblock.specs.declared.mb_info.MbInfo.{MbInfo}
use Rattle.avc_deblock.specs.MbLimits.{IsFor, ArePairLimits}
use Rattle.avc_deblock.proofs.kept_limits.RowLimits.fit.Goals as goal

of_each : (P Q : MbInfo → Type 0) → ((p : MbInfo) → P p → Q p) → (given : Option MbInfo) → IfSome given P → IfSome given Q
of_each P Q follows None holds = holds
of_each P Q follows (Some p) holds = follows p holds

pub returns-clause-inside : goal.returns-clause-inside
returns-clause-inside c = c.fit_inside.ensures.kept c.args.q.now c.args.q.now c.fit_inside.ensures.own

pub returns-clause-left : goal.returns-clause-left
returns-clause-left c =
    of_each (λ p. IsFor c.fit.new.self p c.args.q.now) (λ p. ArePairLimits c.fit.new.self.limits c.args.place.chroma_qp_index_offset p c.args.q.now)
    (λ p. c.fit.ensures.kept p c.args.q.now) (option_copied c.args.left) c.fit.ensures.own

pub returns-clause-above : goal.returns-clause-above
returns-clause-above c =
    of_each (λ p. IsFor c.fit-2.new.self p c.args.q.now) (λ p. ArePairLimits c.fit-2.new.self.limits c.args.place.chroma_qp_index_offset p c.args.q.now)
    (λ p. c.fit-2.ensures.kept p c.args.q.now) (option_copied c.args.above) c.fit-2.ensures.own
