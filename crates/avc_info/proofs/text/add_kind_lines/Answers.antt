use Rattle.std.proofs.Common.{◌≡◌, ℕ, ◌+◌, ◌<◌, List, ◌++◌, length, take, get_or, ap, sym, ◌∙◌, add-one, take-suc}
use Rattle.std.proofs.lemmas.List.{flat_map_more}
use Rattle.std.specs.List.{flat_map}
use Rattle.avc_info.specs.Text.{kind_line}
use Rattle.avc_info.specs.declared.refusals.RefusalKind.{RefusalKind}
use Rattle.avc_info.proofs.text.add_kind_lines.Goals as goal

one_told : (line : RefusalKind → List ℕ) (old before after : List ℕ) (kinds : List RefusalKind) (i : ℕ) (d : RefusalKind) → i < length kinds
    → before ≡ old ++ flat_map line (take i kinds) → after ≡ before ++ line (get_or kinds i d) → after ≡ old ++ flat_map line (take (i + 1) kinds)
one_told line old before after kinds i d low told is =
    is
    ∙ ap (λ (l : List ℕ). l ++ line (get_or kinds i d)) told
    ∙ flat_map_more line old (take i kinds) (get_or kinds i d)
    ∙ ap (λ (ks : List RefusalKind). old ++ flat_map line ks) (sym (ap (λ n. take n kinds) (add-one i) ∙ take-suc kinds i d low))

pub loop-kind-preserved : goal.loop-kind-preserved
loop-kind-preserved c = record {
  told = one_told kind_line _ _ _ c.args.kinds.now c.loop-kind.kind-index _ c.loop-kind-test.true c.loop-kind.invariant.told c.in_ok-add_kind_line.ensures;
}
