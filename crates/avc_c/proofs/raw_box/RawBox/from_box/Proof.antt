-- `from_box`: the call takes the box by value and gives back its address, its handle and what it owned; these make the struct.
use Rattle.avc_c.proofs.Common.{◌≡◌, List, [], ◌∷◌, ◌++◌, refl, sym, ap, ◌∙◌, subst, a_type, dcons, dnil, bare, Val, vptr, vstruct, of_list}
use Rattle.avc_c.proofs.Common.{inst_fn, SProp, ent, emp, never, id⊢, fst∗, ftrue, fsep, flft, WpFn, sem, stop, fld, of_opd, no_more}
use Rattle.avc_c.proofs.Common.{and_then, returns, enter, agg, sub, whole, fact, fact_i, tables, no, RattleType, owns, types_at, plain}
use Rattle.avc_c.proofs.Common.{RawPtr, Ptr, block_ptr, null_ptr, ptr_val, in_a_block, nothing, only, heard, param, layout, bounded}
use Rattle.avc_c.proofs.Common.{param_laws, triple_of, calls_at, Stays, stay_dropped, walk_of, Goes-blank, handle_tells, fm, box_owns}
use Rattle.avc_c.proofs.Common.{box_out, box_in, proved_at, leaves}
use types.Kit.{‵, raw, ◌⊛◌, some, later, ◌$◌, ◌∵◌, !, qed, by, move, keep, drop, split, split3, join, fsplit, fjoin, fpick, pick, suffices, use0, use1, await, rewrite, feq_l}
use types.ByLocal.{alloc_all, pass_all, free_all, look_at, get, get_in, sets, lands_as}
use denote.Struct.Tuple.{Tuple}
use Rattle.std_alloc.proofs.BoxSteps.Form as box
use Rattle.std_alloc.specs.contracts.boxed.Box.into_raw_with_allocator as callee
use Rattle.std_alloc.proofs.boxed.Box.into_raw_with_allocator.Met.{met}
use Rattle.avc_c.proofs.RawBoxes.{two, is_typed, closed}
use Rattle.avc_c.specs.contracts.raw_box.RawBox.from_box.{ended, clauses}
use Rattle.avc_c.specs.contracts.raw_box.RawBox.from_box.Key.{name as #self}
use Rattle.avc_c.proofs.raw_box.RawBox.from_box.Statement.{statement}
use Rattle.avc_c.proofs.raw_box.RawBox.from_box.Code as code

pub from_box_spec : {M : Type 1} → statement M
from_box_spec 𝓤 𝓛 𝓜 𝓡 wired T A L LA g d dx dd allocator drops_value drops_handle =
    let H = 𝓛.H in let 𝓣 = tables 𝓤 H 𝓜 𝓡 𝓡.env in
    let R : RattleType = param 0 T in let Z : RattleType = param 1 A in let laws = param_laws 1 A LA in
    let at_types = bounded (a_type ∷ a_type ∷ []) (T, (A, tt)) (dcons d (dcons dx (dcons dd dnil))) in
    let fn = inst_fn at_types code.function in let signed = ended T A g d dx dd in let clause = clauses T A g d dx dd 𝓛 𝓜.mem 𝓡.returns in
    let E : box.Bx = record { row = T; laws = L; al = record { row = A; laws = LA; g = g; d = d; drops = dd } } in
    let stays : Stays signed.signature.params signed.kept = (stay_dropped (plain (λ _. box.B E)) no, tt) in
    let called = triple_of 𝓛 (callee.signature T A g d dd dx) (callee.spec T A g d dd dx 𝓛 𝓜.mem 𝓡.returns) in
    let Pair = Tuple (RawPtr ∷ Z ∷ []) in
    proved_at 𝓛 signed stays clause 𝓜 𝓡 (Goes-blank 𝓛 2 (plain (λ _. box.B E)) no (λ κs x f. tt), tt) (#self at_types) fn (code.unfolded 𝓤 H 𝓜 𝓡 wired (T, (A, tt)) d dx dd) (λ z are.
    let κs = z.0.0 in let qs = z.0.1 in let value = z.0.3.0 in let handle = value.alloc in
    let Post : Val → SProp 𝓤 = (walk_of 𝓛 signed stays clause).post z in let Run : List Val → SProp 𝓤 = λ ws. WpFn 𝓤 H 𝓣.C 𝓣.Λ fn ws Post in
    let alive = ‵ (flft κs.0 qs.0) ⊛ ‵ (flft κs.1.0 qs.1.0) ⊛ ‵ ftrue in
    qed 𝓛 ((alive ⊛ ‵ (owns (types_at signed.signature.params κs) z.0.3 z.0.4)) ∷ raw ((clause κs z.0.3).requires z.1) ∷ []) ∵
    -- the box's machine value
    split ! $ move ! (1 ∷ []) $ fsplit ! $ box_out E ! value z.0.4.0 (λ b o h at given good. box_in E ! value b o value.value at refl $
    let w : Val = box.word E h b o in let typed = is_typed R Z laws g b o h good in
    let y : called.Ghost = ((κs, qs, tt, (value, tt), (w ∷ [], tt)), tt) in
    -- what the call asks for
    fjoin ! $ move ! (1 ∷ 0 ∷ []) $ join ! $ join ! $ use1 𝓛 (raw (called.pre y)) (id⊢ 𝓤 _) $
    suffices ! (Run (w ∷ [])) (subst (λ (us : List Val). ent 𝓤 (Run (w ∷ [])) (Run us)) (sym (λ i. given i ++ [])) (id⊢ 𝓤 (Run (w ∷ [])))) $
    enter ! 𝓣.C 𝓣.Λ fn (w ∷ []) Post $ alloc_all ! (λ l. pass_all ! refl (typed, tt) $ sets ! (of_opd ! (get ! refl)) refl typed $
    calls_at ! (fm 𝓛 𝓜 𝓡) called
    (met 𝓤 𝓛 𝓜 𝓡 (code.calls-std_alloc::boxed::Box::into_raw_with_allocator 𝓡.env wired) T A L LA g d dd dx allocator drops_handle drops_value) y (and_then ! (get ! refl) (no_more !)) (λ u.
    -- what it gives
    use1 𝓛 (later (some (λ (r : Ptr × A.Denot). (alive ⊛ ‵ (Pair.own_val r (u ∷ []))) ⊛ some (λ (_ : (Unit {0} × (Unit {0} × Unit {0})) × Unit {0}).
    ‵ (fsep (fsep ftrue (fsep ftrue ftrue)) ftrue) ⊛ (raw (fact 𝓤 (r.1 ≡ handle)) ⊛ ‵ (box_owns (g.dealloc_token handle) R r.0 value.value)))))) (id⊢ 𝓤 _) $
    await ! tt $ pick ! (λ r. split ! $ move ! (1 ∷ []) $ pick ! (λ _. split3 ! $ drop ! $ heard ! (r.1 ≡ handle) (λ same.
    in_a_block ! r.0 (λ p. box_owns (g.dealloc_token handle) R p value.value) (fst∗ 𝓤 (never 𝓤) (sem 𝓛 (g.dealloc_token handle (bare (layout T)) null_ptr))) (λ b' o' at'.
    move ! (1 ∷ []) $ split ! $ move ! (1 ∷ []) $ fpick ! (λ parts. fsplit ! $ feq_l ! (λ is. fsplit ! $ feq_l ! (λ address. fsplit ! $
    rewrite ! 0 (λ (s : A.Denot). ‵ (A.own_val s parts.1.0)) same refl $ handle_tells E.al ! handle parts.1.0 (λ h' only' good'.
    let made = is_typed R Z laws g b' o' h' good' in let result : Val = two (vptr b' o') h' in
    let lands = ap only (is ∙ (λ j. vstruct (of_list ((address ∙ ap (λ (p : Ptr). ptr_val p ∷ []) at') j ++ (only' j ++ []))) ∷ [])) in
    -- the struct of both
    lands_as ! lands refl made $ sets ! (of_opd ! (get_in ! (fld ! refl (stop !)) (sub ! 0 refl (whole !)))) refl (tt, tt) $
    sets ! (of_opd ! (get_in ! (fld ! refl (stop !)) (sub ! 1 refl (whole !)))) refl good' $ sets ! (of_opd ! (get ! refl)) refl good' $
    sets ! (agg ! (and_then ! (get ! refl) (and_then ! (get ! refl) (no_more !)))) refl made $ move ! (3 ∷ 0 ∷ []) $ closed R Z laws g ! b' o' h' handle value.value $
    use0 𝓛 (raw (fact 𝓤 (value.value ≡ value.value))) (fact_i 𝓤 (value.value ≡ value.value) (emp 𝓤) refl) $ nothing ! $ nothing ! $ fjoin ! $
    returns ! (look_at ! 0 refl) $ free_all ! refl $ keep ! (4 ∷ 0 ∷ 2 ∷ 1 ∷ []) $
    by ! (leaves 𝓛 signed stays clause z result (record { at = block_ptr b' o'; alloc = handle; value = value.value }) ((tt, (tt, tt)), tt) (tt, tt))))))))))))))
