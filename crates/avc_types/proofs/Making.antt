-- How `History`'s functions are proved: each makes the empty struct, with items of its own. Assumes `Logic`.
use Rattle.std.proofs.Common.{◌≡◌, ℕ, List, [], ◌∷◌, ◌++◌, length, map, refl, ◌+◌}
use seplogic.Ra.Ura.{Ura}
use mir.Val.{Val, vptr, vstruct, vcons, vnil, WT, has_ty}
use types.Logic.{Logic}
use denote.RattleType.{RattleType, Valss, owns}
use denote.Steps.{nothing, owned}
use Rattle.std.proofs.raw_atomic.Walks.{proved}
use lib.Dec.{T}
use mir.Syntax.{Fn, Ty, ty_ref, named, imm, Callee, local, value_local, assign, seq, return, place, copy, aggregate}
use base.Logic.{SProp}
use base.Fml.{ftrue, Lft}
use prog.Wp.{Closed}
use prog.Model.{Model}
use contract.BorrowLft.{◌⊑◌}
use contract.Lifetimes.{Lfts, lft_at}
use contract.Monad.{fact}
use contract.Notation.{connectives}
use contract.Running.{Running, MachineTables, tables}
use types.Kit.{Goal, Step, step, Item as Entry, ‵, raw, ◌⊛◌, ◌$◌, ◌∵◌, !, qed, move, keep, split, fjoin, fpack, feq_i, suffices, done}
use types.Part.{agg}
use types.Run.{enter, returns, and_then, no_more}
use types.ByLocal.{alloc_all, pass_all, free_all, look_at, get, sets}
use denote.Exit.{yes, Last, left}
use denote.Ref.{shr_vals}
use denote.Builtin.{RefOf, SliceRefOf}
use denote.Slice.{slice_ty, slice_val}
use denote.Laws.{Is, Tells}
use denote.Param.{param}
use denote.Signature.{Slot, plain, types_at}
use denote.Struct.Laws.{makes}
use denote.Struct.Struct.{within}
use denote.Triple.Clauses.{Clauses, Ended, closing}
use denote.Triple.Entry.{alive}
use denote.Triple.Spec.{Meets}
use denote.Triple.Walked.{Stays, says, stay_dropped, walk_of, ends_at, Goes-dropped}
use Rattle.std.specs.contracts.marker.PhantomData as Mark
use Rattle.avc_types.specs.contracts.history.History as Log
use Rattle.avc_types.specs.contracts.history.History.new as New
use Rattle.avc_types.specs.contracts.history.History.with as With

abbrev none : Val
none = vstruct vnil

abbrev one : Val → Val
one u = vstruct (vcons u vnil)

module _ (A : RattleType) where
  abbrev pub Item : Type 0
  Item = (param 0 A).Denot

  abbrev row : RattleType
  row = Log.the_row (param 0 A)

  abbrev mark : RattleType
  mark = Mark.the_row (param 0 A)

  abbrev holding : List Item → row.Denot
  holding items = record { of = record {}; items = items }

  -- it owns nothing
  module _ {M : Type 1} {𝓤 : Ura M} {𝓛 : Logic 𝓤} {K : Type 0} {Γ : List (Entry 𝓤)} {G : Goal 𝓤 𝓛.H} where
    held : K → (items : List Item) → Step K 𝓛 (‵ (row.own_val (holding items) (one none ∷ [])) ∷ Γ) G Γ G
    held t items = step (λ s.
        nothing t $ owned t mark (Is mark) (makes (Mark.the_type (param 0 A)) tt 𝓛) (record {}) (none ∷ []) (tt, (refl, tt)) $
        nothing t $ move t (1 ∷ 0 ∷ []) $ fjoin t $ feq_i t (List Val) (one none ∷ []) (one none ∷ []) refl $ fjoin t $
        fpack t (Valss (mark ∷ [])) (within (record { name = []; args = []; types = []; fields = mark ∷ [] }) (record {}, tt) (one none ∷ [])) (none ∷ [], tt) $ fjoin t $ s)

  -- ---- what a function is given beside the history: one machine value of the type τ, of which nothing is said at exit
  pub record Given (τ : Ty) : Type 2 where
    pub slot : Slot 3
    pub last : (κs : Lfts 3) (x : (slot.row κs).Denot) → Last ((slot.row κs).exit yes) x
    pub silent : (κs : Lfts 3) (x : (slot.row κs).Denot) (w : Last ((slot.row κs).exit yes) x) → left ((slot.row κs).exit yes) x w ≡ ftrue
    pub value : (κs : Lfts 3) → (slot.row κs).Denot → Val
    pub tells : (κs : Lfts 3) → Tells (slot.row κs) (Is (slot.row κs)) (λ x. value κs x ∷ [])
    pub typed : (κs : Lfts 3) (x : (slot.row κs).Denot) → Is (slot.row κs) x (value κs x ∷ []) → T (has_ty τ (value κs x)) × WT (value κs x)

  abbrev pub one_item : (τ : Ty) → Given (ty_ref (named 1) imm τ)
  one_item τ = record {
    slot = RefOf (1 ∷ []) tt (plain (λ _. param 0 A)) (λ _. tt);
    last = λ κs x. tt;
    silent = λ κs x w. refl;
    value = λ κs x. vptr x.ref_ptr.0 x.ref_ptr.1;
    tells = λ κs x vs is. is.0;
    typed = λ κs x is. (tt, tt);
  }

  abbrev pub more_items : (τ : Ty) → Given (slice_ty (ty_ref (named 1) imm τ))
  more_items τ = record {
    slot = SliceRefOf (1 ∷ []) tt (plain (λ _. param 0 A)) (λ _. tt);
    last = λ κs x. tt;
    silent = λ κs x w. refl;
    value = λ κs x. slice_val x.ref_ptr (length x.now);
    tells = λ κs x vs is. is.0.0;
    typed = λ κs x is. (tt, (tt, (record { fits = is.0.1.0 }, tt)));
  }

  -- ---- the code of each, given types of these, with the locals' types as the machine has them
  abbrev filled : (params : ℕ) → List (ℕ × ℕ) → List Ty → Fn
  filled params outlives given = record {
    lifetimes = params;
    outlives = outlives;
    ty_params = [];
    givens = 0;
    params = params;
    locals = map (λ τ. local τ value_local) (row.mir ++ given ++ mark.mir);
    body = let marked = place (params + 1) [] in seq (assign marked (aggregate [])) (seq (assign (place 0 []) (aggregate (copy marked ∷ []))) return);
  }

  module _ {M : Type 1} {𝓤 : Ura M} (𝓛 : Logic 𝓤) (𝓜 : Model 𝓤 𝓛.H) (𝓡 : Running 𝓤 𝓛.H 𝓜) where
    abbrev 𝓣 : MachineTables 𝓤 𝓛.H 𝓜
    𝓣 = tables 𝓤 𝓛.H 𝓜 𝓡 𝓡.env

    -- what each asks: that an item lives as long as the call
    abbrev asks : Lft → SProp 𝓤
    asks κ = let 𝓝 = connectives 𝓤 in 𝓝.◌∗◌ (𝓝.⌜◌⌝ (κ ⊑ A.lives)) 𝓝.⊤ₛ

    abbrev nothing_said : Clauses 𝓤 (New.ended A)
    nothing_said κs a = record { ghost = Unit {0}; requires = λ g. asks (lft_at 1 0 tt κs); ensures = λ g r e. fact 𝓤 (r.items ≡ []) }

    -- of nothing
    pub made : {k : Callee} → Closed 𝓤 𝓛.H 𝓣.C 𝓣.Λ k (filled 0 [] []) → Meets 𝓛 (New.signature A) (𝓣.C k) (closing 𝓛 (New.ended A) nothing_said)
    made {k} closed = proved 𝓛 (New.ended A) tt nothing_said 𝓜 𝓡 tt k (filled 0 [] []) closed (λ κs. tt) (λ κs. tt) (λ κs qs bounds a g are.
        let toks = alive 𝓛 (New.signature A) κs qs in
        qed 𝓛 ((raw toks ⊛ ‵ ftrue) ∷ raw (asks (lft_at 1 0 tt κs)) ∷ []) ∵ keep ! (0 ∷ []) $ split ! $ keep ! (0 ∷ []) $
        enter ! _ _ _ _ _ $ alloc_all ! (λ l. pass_all ! refl tt $
        sets ! (agg ! (no_more !)) refl (tt, tt) $
        sets ! (agg ! (and_then ! (get ! refl) (no_more !))) refl (tt, (tt, tt)) $
        returns ! (look_at ! 0 refl) $ free_all ! refl $
        suffices ! _ (ends_at 𝓛 (New.ended A) tt nothing_said ((κs, qs, bounds, tt, tt), tt) (one none) (holding []) tt tt) $ says ! refl $
        held ! [] $ nothing ! $ move ! (2 ∷ 0 ∷ 1 ∷ []) $ done !))

    module _ {τ : Ty} (given : Given τ) (items : (κs : Lfts 3) → List Item → (given.slot.row κs).Denot → List Item) where
      abbrev self : Slot 3
      self = RefOf (0 ∷ []) tt (plain (λ _. row)) (λ _. tt)

      abbrev ended : Ended
      ended = record { signature = record (With.signature A) { params = self ∷ given.slot ∷ [] }; kept = (yes, (yes, tt)) }

      abbrev said : Clauses 𝓤 ended
      said κs a = record {
        ghost = Unit {0};
        requires = λ g. asks (lft_at 3 2 tt κs);
        ensures = λ g r e. fact 𝓤 (r.items ≡ items κs a.0.now.items a.1.0);
      }

      abbrev stayed : Stays ended.signature.params ended.kept
      stayed = (stay_dropped self yes, (stay_dropped given.slot yes, tt))

      -- of a history and what is given
      pub made_with : (σ : Ty) {k : Callee} → Closed 𝓤 𝓛.H 𝓣.C 𝓣.Λ k (filled 2 ((2, 0) ∷ (2, 1) ∷ []) (ty_ref (named 0) imm σ ∷ τ ∷ []))
          → Meets 𝓛 ended.signature (𝓣.C k) (closing 𝓛 ended said)
      made_with σ {k} closed =
          proved 𝓛 ended stayed said 𝓜 𝓡 (Goes-dropped 𝓛 3 self yes (λ κs x w. refl), (Goes-dropped 𝓛 3 given.slot yes given.silent, tt))
          k _ closed (λ κs. (shr_vals, ((λ x. given.value κs x ∷ []), tt))) (λ κs. ((λ x vs is. is.0), (given.tells κs, tt)))
          (λ κs qs bounds a g are.
          let toks = alive 𝓛 ended.signature κs qs in
          let y : (walk_of 𝓛 ended stayed said).Ghost = ((κs, qs, bounds, a, (shr_vals a.0, (given.value κs a.1.0 ∷ [], tt))), g) in
          let new = items κs a.0.now.items a.1.0 in
          qed 𝓛 ((raw toks ⊛ ‵ (owns (types_at ended.signature.params κs) a y.0.4)) ∷ raw (asks (lft_at 3 2 tt κs)) ∷ []) ∵
          keep ! (0 ∷ []) $ split ! $ keep ! (0 ∷ []) $
          enter ! _ _ _ _ _ $ alloc_all ! (λ l. pass_all ! refl ((tt, tt), (given.typed κs a.1.0 are.1.0, tt)) $
          sets ! (agg ! (no_more !)) refl (tt, tt) $
          sets ! (agg ! (and_then ! (get ! refl) (no_more !))) refl (tt, (tt, tt)) $
          returns ! (look_at ! 0 refl) $ free_all ! refl $
          suffices ! _ (ends_at 𝓛 ended stayed said y (one none) (holding new) (tt, (given.last κs a.1.0, tt)) (tt, (tt, tt))) $ says ! refl $
          held ! new $ nothing ! $ nothing ! $ fjoin ! $ nothing ! $ fjoin ! $ move ! (2 ∷ 0 ∷ 1 ∷ []) $ done !))
