use Rattle.std.specs.Prelude.{replicate}
use Rattle.avc_neigh.proofs.Found.{◌≡◌, ◌<◌, ◌+◌, ◌∙◌, Bool, List, [], Option, None, get_or, set, length, take, drop, refl, lit<, lit≤, arith, length-set, ℕ, All}
use Rattle.avc_neigh.proofs.Found.{get_or_default, info_of, chosen_mode, modes_end, modes_more, modes_near, modes_step, mode_of_block, prediction_near, HasModes, IsMode, IsRem}
use Rattle.avc_neigh.specs.Around.{Around}
use Rattle.avc_neigh.specs.declared.neighbour_info.NearMode.{NearMode}
use Rattle.avc_neigh.specs.declared.neighbour_info.NearMode.TheVariants.{Absent as absent}
use Rattle.avc_neigh.proofs.modes.intra4x4_modes.Goals as goal

-- the first k blocks have their modes
record ModesDone (n : Around) (b : Bool) (coded : List (Option ℕ)) (k : ℕ) (modes : List NearMode) : Type 0 where
  pub long : length modes ≡ 16
  pub done : modes_near n b [] coded ≡ modes_near n b (take k modes) (drop k coded)
  pub within : HasModes n.a → HasModes n.b → (i : ℕ) → i < k → IsMode (get_or modes i absent)

one_more : (n : Around) (b : Bool) (coded : List (Option ℕ)) (k : ℕ) → k < 16 → length coded ≡ 16 → All IsRem coded → (modes new : List NearMode)
    → ModesDone n b coded k modes → new ≡ set modes k (mode_of_block n b modes coded k) → ModesDone n b coded (k + 1) new
one_more n b coded k below many rems modes new d e =
    let x : Option ℕ = get_or coded k None in
    let v = chosen_mode (prediction_near n b (take k modes) k) x in
    let inside : k < length coded = omega (arith, many, below) in
    rw e record {
      long = length-set modes k _ ∙ d.long;
      done = d.done ∙ modes_step n b k modes coded v x below d.long many (get_or_default coded k None x inside) refl;
      within = λ f g. modes_more n b k modes x v below d.long (d.within f g) f g (rems k None inside) refl;
    }

all_sixteen : (n : Around) (b : Bool) (coded : List (Option ℕ)) → length coded ≡ 16 → All IsRem coded → (m0 m1 m2 m3 m4 m5 m6 m7 m8 m9 m10 m11 m12 m13 m14 m15 m16 : List NearMode) → length m0 ≡ 16
    → m1 ≡ set m0 0 (mode_of_block n b m0 coded 0)
    → m2 ≡ set m1 1 (mode_of_block n b m1 coded 1)
    → m3 ≡ set m2 2 (mode_of_block n b m2 coded 2)
    → m4 ≡ set m3 3 (mode_of_block n b m3 coded 3)
    → m5 ≡ set m4 4 (mode_of_block n b m4 coded 4)
    → m6 ≡ set m5 5 (mode_of_block n b m5 coded 5)
    → m7 ≡ set m6 6 (mode_of_block n b m6 coded 6)
    → m8 ≡ set m7 7 (mode_of_block n b m7 coded 7)
    → m9 ≡ set m8 8 (mode_of_block n b m8 coded 8)
    → m10 ≡ set m9 9 (mode_of_block n b m9 coded 9)
    → m11 ≡ set m10 10 (mode_of_block n b m10 coded 10)
    → m12 ≡ set m11 11 (mode_of_block n b m11 coded 11)
    → m13 ≡ set m12 12 (mode_of_block n b m12 coded 12)
    → m14 ≡ set m13 13 (mode_of_block n b m13 coded 13)
    → m15 ≡ set m14 14 (mode_of_block n b m14 coded 14)
    → m16 ≡ set m15 15 (mode_of_block n b m15 coded 15)
    → ModesDone n b coded 16 m16
all_sixteen n b coded many rems m0 m1 m2 m3 m4 m5 m6 m7 m8 m9 m10 m11 m12 m13 m14 m15 m16 long e0 e1 e2 e3 e4 e5 e6 e7 e8 e9 e10 e11 e12 e13 e14 e15 =
    let d0 : ModesDone n b coded 0 m0 = record { long = long; done = refl; within = λ f g i h. absurd (omega (arith, h)) } in
    let d1 : ModesDone n b coded 1 m1 = one_more n b coded 0 (lit< tt) many rems m0 m1 d0 e0 in
    let d2 : ModesDone n b coded 2 m2 = one_more n b coded 1 (lit< tt) many rems m1 m2 d1 e1 in
    let d3 : ModesDone n b coded 3 m3 = one_more n b coded 2 (lit< tt) many rems m2 m3 d2 e2 in
    let d4 : ModesDone n b coded 4 m4 = one_more n b coded 3 (lit< tt) many rems m3 m4 d3 e3 in
    let d5 : ModesDone n b coded 5 m5 = one_more n b coded 4 (lit< tt) many rems m4 m5 d4 e4 in
    let d6 : ModesDone n b coded 6 m6 = one_more n b coded 5 (lit< tt) many rems m5 m6 d5 e5 in
    let d7 : ModesDone n b coded 7 m7 = one_more n b coded 6 (lit< tt) many rems m6 m7 d6 e6 in
    let d8 : ModesDone n b coded 8 m8 = one_more n b coded 7 (lit< tt) many rems m7 m8 d7 e7 in
    let d9 : ModesDone n b coded 9 m9 = one_more n b coded 8 (lit< tt) many rems m8 m9 d8 e8 in
    let d10 : ModesDone n b coded 10 m10 = one_more n b coded 9 (lit< tt) many rems m9 m10 d9 e9 in
    let d11 : ModesDone n b coded 11 m11 = one_more n b coded 10 (lit< tt) many rems m10 m11 d10 e10 in
    let d12 : ModesDone n b coded 12 m12 = one_more n b coded 11 (lit< tt) many rems m11 m12 d11 e11 in
    let d13 : ModesDone n b coded 13 m13 = one_more n b coded 12 (lit< tt) many rems m12 m13 d12 e12 in
    let d14 : ModesDone n b coded 14 m14 = one_more n b coded 13 (lit< tt) many rems m13 m14 d13 e13 in
    let d15 : ModesDone n b coded 15 m15 = one_more n b coded 14 (lit< tt) many rems m14 m15 d14 e14 in
    let d16 : ModesDone n b coded 16 m16 = one_more n b coded 15 (lit< tt) many rems m15 m16 d15 e15 in
    d16

pub returns-clause-modes : goal.returns-clause-modes
returns-clause-modes c =
    let a = c.args in
    let d = all_sixteen (info_of a.neighbours.now) a.constrained_intra_pred a.coded.now c.told-coded c.requires (replicate 16 absent) c.set_mode.new.modes c.set_mode-2.new.modes c.set_mode-3.new.modes c.set_mode-4.new.modes c.set_mode-5.new.modes c.set_mode-6.new.modes c.set_mode-7.new.modes c.set_mode-8.new.modes c.set_mode-9.new.modes c.set_mode-10.new.modes c.set_mode-11.new.modes c.set_mode-12.new.modes c.set_mode-13.new.modes c.set_mode-14.new.modes c.set_mode-15.new.modes c.set_mode-16.new.modes refl
    c.set_mode.ensures c.set_mode-2.ensures c.set_mode-3.ensures c.set_mode-4.ensures c.set_mode-5.ensures c.set_mode-6.ensures c.set_mode-7.ensures c.set_mode-8.ensures c.set_mode-9.ensures c.set_mode-10.ensures c.set_mode-11.ensures c.set_mode-12.ensures c.set_mode-13.ensures c.set_mode-14.ensures c.set_mode-15.ensures c.set_mode-16.ensures in
    modes_end _ _ 16 _ a.coded.now (lit≤ tt) d.long c.told-coded d.done

pub returns-clause-within : goal.returns-clause-within
returns-clause-within c = λ f g k e h.
    let a = c.args in
    let d = all_sixteen (info_of a.neighbours.now) a.constrained_intra_pred a.coded.now c.told-coded c.requires (replicate 16 absent) c.set_mode.new.modes c.set_mode-2.new.modes c.set_mode-3.new.modes c.set_mode-4.new.modes c.set_mode-5.new.modes c.set_mode-6.new.modes c.set_mode-7.new.modes c.set_mode-8.new.modes c.set_mode-9.new.modes c.set_mode-10.new.modes c.set_mode-11.new.modes c.set_mode-12.new.modes c.set_mode-13.new.modes c.set_mode-14.new.modes c.set_mode-15.new.modes c.set_mode-16.new.modes refl
    c.set_mode.ensures c.set_mode-2.ensures c.set_mode-3.ensures c.set_mode-4.ensures c.set_mode-5.ensures c.set_mode-6.ensures c.set_mode-7.ensures c.set_mode-8.ensures c.set_mode-9.ensures c.set_mode-10.ensures c.set_mode-11.ensures c.set_mode-12.ensures c.set_mode-13.ensures c.set_mode-14.ensures c.set_mode-15.ensures c.set_mode-16.ensures in
    rw (get_or_default c.set_mode-16.new.modes k e absent h) (d.within f g k (omega (arith, h, d.long)))
