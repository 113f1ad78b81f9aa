-- `into_box`: the call asks for the address, the handle and what the struct owned, and gives the box.
use Rattle.avc_c.proofs.Common.{◌≡◌, List, [], ◌∷◌, ◌++◌, refl, sym, ap, subst, a_type, dcons, dnil, Val, vptr, inst_fn, SProp, ent, id⊢}
use Rattle.avc_c.proofs.Common.{ftrue, flft, WpFn, stop, fld, of_opd, no_more, and_then, first, blocks, exec, returns, enter, sub, whole}
use Rattle.avc_c.proofs.Common.{fact, tables, no, RattleType, owns, types_at, plain, block_ptr, nothing, only, param, layout, bounded}
use Rattle.avc_c.proofs.Common.{param_laws, triple_of, calls_at_last, Stays, stay_dropped, walk_of, Goes-blank, fm, Good, box_out, box_in}
use Rattle.avc_c.proofs.Common.{proved_at, leaves}
use types.Kit.{‵, raw, ◌⊛◌, some, later, at_ret, ◌$◌, ◌∵◌, !, qed, by, move, keep, drop, split, split3, join, fsplit, fjoin, pick, suffices, use1, await, rewrite, feq_i}
use types.ByLocal.{alloc_all, pass_all, free_all, look_at, get, get_in, sets, lands_last, env}
use contract.BorrowLft.{◌⊑◌}
use denote.Triple.Clauses.{Lasts, lasts}
use Rattle.core.proofs.alloc.Shapes.{after}
use Rattle.std_alloc.proofs.BoxSteps.Form as box
use Rattle.std_alloc.specs.contracts.boxed.Box.from_raw as callee
use Rattle.std_alloc.proofs.boxed.Box.from_raw.Met.{met}
use Rattle.avc_c.proofs.RawBoxes.{two, Apart, is_typed, opened}
use Rattle.avc_c.specs.contracts.raw_box.RawBox.into_box.{ended, clauses}
use Rattle.avc_c.specs.contracts.raw_box.RawBox.into_box.Key.{name as #self}
use Rattle.avc_c.proofs.raw_box.RawBox.into_box.Statement.{statement}
use Rattle.avc_c.proofs.raw_box.RawBox.into_box.Code as code

pub into_box_spec : {M : Type 1} → statement M
into_box_spec 𝓤 𝓛 𝓜 𝓡 wired T A L LA g d dx dd allocator drops_value drops_handle =
    let H = 𝓛.H in let 𝓣 = tables 𝓤 H 𝓜 𝓡 𝓡.env in
    let R : RattleType = param 0 T in let Z : RattleType = param 1 A in let laws = param_laws 1 A LA in
    let at_types = bounded (a_type ∷ a_type ∷ []) (T, (A, tt)) (dcons d (dcons dx (dcons dd dnil))) in
    let fn = inst_fn at_types code.function in let signed = ended T A g d dx dd in let clause = clauses T A g d dx dd 𝓛 𝓜.mem 𝓡.returns in
    let E : box.Bx = record { row = T; laws = L; al = record { row = A; laws = LA; g = g; d = d; drops = dd } } in let B : RattleType = box.B E in
    let stays : Stays signed.signature.params signed.kept = (stay_dropped (plain (λ _. Apart R Z laws g)) no, tt) in
    let called = triple_of 𝓛 (callee.signature T A g d dd) (callee.spec T A g d dd 𝓛 𝓜.mem 𝓡.returns) in
    proved_at 𝓛 signed stays clause 𝓜 𝓡 (Goes-blank 𝓛 2 (plain (λ _. Apart R Z laws g)) no (λ κs x f. tt), tt) (#self at_types) fn (code.unfolded 𝓤 H 𝓜 𝓡 wired (T, (A, tt)) d dx dd) (λ z are.
    let κs = z.0.0 in let qs = z.0.1 in let apart = z.0.3.0 in let handle = apart.alloc in
    let Post : Val → SProp 𝓤 = (walk_of 𝓛 signed stays clause).post z in let Run : List Val → SProp 𝓤 = λ ws. WpFn 𝓤 H 𝓣.C 𝓣.Λ fn ws Post in
    let alive = ‵ (flft κs.0 qs.0) ⊛ ‵ (flft κs.1.0 qs.1.0) ⊛ ‵ ftrue in
    qed 𝓛 ((alive ⊛ ‵ (owns (types_at signed.signature.params κs) z.0.3 z.0.4)) ∷ raw ((clause κs z.0.3).requires z.1) ∷ []) ∵
    -- the struct's machine value, and what it owns
    split ! $ move ! (1 ∷ []) $ fsplit ! $ opened R Z laws g ! apart z.0.4.0 (λ b o h at given good.
    let w : Val = two (vptr b o) h in let typed = is_typed R Z laws g b o h good in
    let y : called.Ghost = ((κs, qs, tt, (handle, (block_ptr b o, tt)), (h ∷ [], (vptr b o ∷ [], tt))), apart.value) in
    -- what the call asks for
    move ! (4 ∷ []) $ use1 𝓛 (raw (fact 𝓤 (κs.0 ⊑ T.lives)) ⊛ raw (fact 𝓤 (κs.1.0 ⊑ A.lives)) ⊛ ‵ ftrue) (id⊢ 𝓤 _) $ split3 ! $ move ! (2 ∷ []) $ drop ! $ move ! (1 ∷ 2 ∷ []) $ join ! $
    move ! (1 ∷ 0 ∷ []) $ join ! $ move ! (2 ∷ []) $ feq_i ! (List Val) (vptr b o ∷ []) (vptr b o ∷ []) refl $ fjoin ! $ move ! (2 ∷ 0 ∷ []) $ fjoin ! $ move ! (2 ∷ 0 ∷ []) $ join ! $ join ! $
    use1 𝓛 (raw (called.pre y)) (id⊢ 𝓤 _) $
    suffices ! (Run (w ∷ [])) (subst (λ (us : List Val). ent 𝓤 (Run (w ∷ [])) (Run us)) (sym (λ i. given i ++ [])) (id⊢ 𝓤 (Run (w ∷ [])))) $
    enter ! 𝓣.C 𝓣.Λ fn (w ∷ []) Post $ alloc_all ! (λ l. pass_all ! refl (typed, tt) $ let locals = env fn.locals l in
    sets ! (of_opd ! (get_in ! (fld ! refl (stop !)) (sub ! 0 refl (whole !)))) refl (tt, tt) $ sets ! (of_opd ! (get_in ! (fld ! refl (stop !)) (sub ! 1 refl (whole !)))) refl good $
    first ! $ blocks ! $ sets ! (of_opd ! (get ! refl)) refl good $
    calls_at_last ! (fm 𝓛 𝓜 𝓡) called
    (met 𝓤 𝓛 𝓜 𝓡 (code.calls-std_alloc::boxed::Box::from_raw 𝓡.env wired) T A L LA g d dd allocator drops_handle) y (and_then ! (get ! refl) (and_then ! (get ! refl) (no_more !))) (λ u.
    -- what it gives: a box, whose machine value is of its type
    use1 𝓛 (later (some (λ (r : B.Denot). (alive ⊛ ‵ (B.own_val r (u ∷ []))) ⊛ some (λ (ls : Lasts (callee.ended T A g d dd) κs y.0.3).
    ‵ (lasts (callee.ended T A g d dd) κs y.0.3 ls) ⊛ (raw (fact 𝓤 (r.value ≡ apart.value)) ⊛ raw (fact 𝓤 (r.alloc ≡ handle))))))) (id⊢ 𝓤 (called.post y u)) $
    await ! tt $ pick ! (λ r. split ! $ move ! (1 ∷ []) $ pick ! (λ _. split3 ! $ drop ! $ move ! (2 ∷ []) $ split ! $ move ! (1 ∷ []) $
    box_out E ! r (u ∷ []) (λ b' o' h' at' is good'. box_in E ! r b' o' r.value at' refl $ rewrite ! 0 (λ (xs : List Val). ‵ (B.own_val r xs)) (sym is) refl $
    let of_type : Good (layout B) u = subst (Good (layout B)) (sym (ap only is)) (is_typed R Z laws g b' o' h' good') in
    lands_last ! refl of_type $ exec ! 𝓣.C 𝓣.Λ locals (after 3 fn.body) (at_ret locals Post) $ sets ! (of_opd ! (get ! refl)) refl of_type $ nothing ! $ nothing ! $ fjoin ! $
    returns ! (look_at ! 0 refl) $ free_all ! refl $ keep ! (2 ∷ 0 ∷ 1 ∷ 3 ∷ []) $ by ! (leaves 𝓛 signed stays clause z u r ((tt, (tt, tt)), tt) (tt, tt)))))))))
