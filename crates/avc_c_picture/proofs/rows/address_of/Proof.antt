-- `address_of` returns the pointer of the slice.
use Rattle.std.proofs.Common.{ℕ, ◌^◌, ◌<◌, List, [], ◌∷◌, ◌++◌, length, refl, sym, subst}
use seplogic.Ra.Ura.{Ura}
use mir.Val.{Val, vptr}
use base.Logic.{SProp, ent, via, fst∗, snd∗}
use base.Fml.{Fml}
use prog.Memory.{Memory}
use prog.Routine.{Routine}
use prog.Wp.{Calls, Loops, WpFn, Tables}
use types.Logic.{Logic, sem}
use contract.Monad.{Fun, fact_use}
use contract.Running.{tables, tables_of}
use sound.WpLaws.{WpFn-mono}
use types.Kit.{‵, raw, ◌⊛◌, ◌$◌, ◌∵◌, !, qed, move, keep, split, join, fjoin, feq_i, suffices, done}
use types.Part.{whole, sub}
use types.Run.{stop, addr, from, fld, hop, returns, enter}
use types.ByLocal.{alloc_all, pass_all, free_all, look_at, look_in_at, sets}
use denote.RattleType.{RattleType, owns}
use denote.Exit.{yes}
use denote.Laws.{Are, Ises, owns_show, showss}
use denote.RawPtr.{block_ptr}
use denote.Slice.{slice_val}
use denote.Builtin.{SliceRefOf, u8}
use denote.Signature.{types_at, plain}
use denote.Steps.{nothing}
use denote.Triple.Clauses.{Clauses}
use denote.Triple.Entry.{on_entry, alive}
use denote.Triple.Spec.{Meets, triple_of}
use denote.Triple.Table.{entered}
use denote.Triple.Walked.{says, Stays, stay_dropped, walk_of, ends_at, Goes-dropped, walk_Meets}
use Rattle.avc_c_picture.specs.contracts.rows.address_of as self
use Rattle.avc_c_picture.specs.contracts.rows.address_of.Key.{name as #self}
use Rattle.avc_c_picture.proofs.rows.address_of.Statement as stated
use Rattle.avc_c_picture.proofs.rows.address_of.Code as code

abbrev stayed : Stays (self.ended).signature.params (self.ended).kept
stayed = (stay_dropped (SliceRefOf (0 ∷ []) tt (plain (λ _. u8)) (λ _. tt)) yes, tt)

module _ {M : Type 1} {𝓤 : Ura M} (𝓛 : Logic 𝓤) (at_mem : Memory → SProp 𝓤) (run : Routine → Fun 𝓤) where
  open 𝓛 use {H}

  abbrev held : Clauses 𝓤 self.ended
  held = self.clauses 𝓛 at_mem run

  module _ (C : Calls 𝓤 H) (Λ : Loops 𝓤 H) (z : (walk_of 𝓛 self.ended stayed held).Ghost) where
    abbrev At : List Val → (walk_of 𝓛 self.ended stayed held).Ghost
    At us = ((z.0.0, z.0.1, z.0.2, z.0.3, (us, tt)), z.1)

    abbrev Post : List Val → Val → SProp 𝓤
    Post us = (walk_of 𝓛 self.ended stayed held).post (At us)

    abbrev Goes : List Val → Type 1
    Goes us = ent 𝓤 ((walk_of 𝓛 self.ended stayed held).pre (At us)) (WpFn 𝓤 H C Λ code.function (us ++ []) (Post us))

    abbrev b : ℕ
    b = z.0.3.0.ref_ptr.0

    abbrev o : ℕ
    o = z.0.3.0.ref_ptr.1

    abbrev count : ℕ
    count = length z.0.3.0.now

    abbrev slice : Val
    slice = slice_val (b, o) count

    abbrev toks : SProp 𝓤
    toks = alive 𝓛 (self.ended).signature z.0.0 z.0.1

    abbrev passed : Fml
    passed = owns (types_at (self.ended).signature.params z.0.0) z.0.3 (slice ∷ [], tt)

    walks : count < 2 ^ 64 → Goes (slice ∷ [])
    walks fits =
        qed 𝓛 ((raw toks ⊛ ‵ passed) ∷ raw ((held z.0.0 z.0.3).requires z.1) ∷ []) ∵ split ! $ keep ! (0 ∷ []) $
        enter ! C Λ code.function (slice ∷ []) _ $ alloc_all ! (λ l. pass_all ! refl ((tt, (tt, (record { fits = fits }, tt))), tt) $
        sets ! (addr ! (from ! (fld ! refl (hop ! (look_in_at ! 1 (sub ! 0 refl (whole !))) (stop !))))) refl (tt, tt) $
        returns ! (look_at ! 0 refl) $ free_all ! refl $ feq_i ! (List Val) (vptr b o ∷ []) (vptr b o ∷ []) refl $
        suffices ! _ (ends_at 𝓛 self.ended stayed held (At (slice ∷ [])) (vptr b o) (block_ptr b o) (tt, tt) (tt, tt)) $ says ! refl $
        nothing ! $ nothing ! $ fjoin ! $ join ! $ move ! (1 ∷ 0 ∷ []) $ join ! $ done !)

  meets : (𝓣 : Tables 𝓤 H) → Meets 𝓛 (self.ended).signature (WpFn 𝓤 H 𝓣.C 𝓣.Λ code.function) (self.spec 𝓛 at_mem run)
  meets 𝓣 =
      walk_Meets 𝓛 self.ended stayed (Goes-dropped 𝓛 1 (SliceRefOf (0 ∷ []) tt (plain (λ _. u8)) (λ _. tt)) yes (λ κs x f. refl), tt) held
      (WpFn 𝓤 H 𝓣.C 𝓣.Λ code.function) (WpFn-mono 𝓤 H 𝓛.laws 𝓣 code.function)
      (λ z. let a = z.0.3 in let vss = z.0.4 in let Rs : List RattleType = types_at (self.ended).signature.params z.0.0 in
      fact_use 𝓤 (Are Rs (Ises Rs) a vss) (via 𝓤 (sem 𝓛 (owns Rs a vss)) (via 𝓤 (on_entry 𝓛 (self.ended).signature z.0.0 z.0.1 a vss) (fst∗ 𝓤 (on_entry 𝓛 (self.ended).signature z.0.0 z.0.1 a vss) ((held z.0.0 a).requires z.1)) (snd∗ 𝓤 (alive 𝓛 (self.ended).signature z.0.0 z.0.1) (sem 𝓛 (owns Rs a vss)))) (owns_show 𝓛 Rs (Ises Rs) (showss 𝓛 Rs) a vss)) (λ are.
      subst (Goes 𝓣.C 𝓣.Λ z) (sym are.0.0.0) (walks 𝓣.C 𝓣.Λ z are.0.0.1.0)))

pub address_of_spec : {M : Type 1} → stated.statement M
unfolding tables_of
address_of_spec 𝓤 𝓛 𝓜 𝓡 wired =
    entered 𝓤 𝓛.H (triple_of 𝓛 self.signature (self.spec 𝓛 𝓜.mem 𝓡.returns))
    (tables 𝓤 𝓛.H 𝓜 𝓡 𝓡.env).C (tables 𝓤 𝓛.H 𝓜 𝓡 𝓡.env).Λ #self code.function (code.unfolded 𝓤 𝓛.H 𝓜 𝓡 wired)
    (meets 𝓛 𝓜.mem 𝓡.returns (tables_of 𝓤 𝓛.H 𝓜 (tables 𝓤 𝓛.H 𝓜 𝓡 𝓡.env)))
