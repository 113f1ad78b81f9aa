-- Scaling lists are passed over entry by entry.
use Rattle.std.proofs.Common.{◌≡◌, ℕ, suc, ◌+◌, ◌-◌, ◌<◌, ◌==◌, ℤ, pos, negsuc, Bool, true, false, Ok, Err, ap, sym, ◌∙◌, refl, arith}
use Rattle.std.proofs.lemmas.Bool.Decides.{nat_tests}
use Rattle.avc_types.specs.declared.fault.Fault.{Fault}
use Rattle.avc_bits.specs.Bits.{Bits}
use Rattle.avc_bits.specs.Codes.{flag, se_within}
use Rattle.avc_info.specs.RefusedSet.{if_present, next_scale, scaling_list, scaling_lists}

is_none : (n : ℕ) → n ≡ 0 → (n == 0) ≡ true
is_none n e = grind (arith, nat_tests)

is_some : (n : ℕ) → (n ≡ 0 → ⊥) → (n == 0) ≡ false
is_some n e = grind (arith, nat_tests)

one_left : (count counter : ℕ) → counter < count → count - counter ≡ suc (count - (counter + 1))
one_left count counter less = omega arith

-- ---- entries

entry_fault : (n last_scale : ℕ) (b : Bits) (f : Fault) → se_within (negsuc 127) (pos 127) b ≡ Err f → scaling_list (suc n) last_scale b ≡ Err f
unfolding scaling_list
entry_fault n last_scale b f e = rw e refl

entry_more : (n last_scale : ℕ) (delta_scale : ℤ) (b after : Bits) → se_within (negsuc 127) (pos 127) b ≡ Ok (delta_scale, after)
    → (next_scale last_scale delta_scale == 0) ≡ false → scaling_list (suc n) last_scale b ≡ scaling_list n (next_scale last_scale delta_scale) after
unfolding scaling_list
entry_more n last_scale delta_scale b after e more = rw (e, more) refl

entry_last : (n last_scale : ℕ) (delta_scale : ℤ) (b after : Bits) → se_within (negsuc 127) (pos 127) b ≡ Ok (delta_scale, after)
    → (next_scale last_scale delta_scale == 0) ≡ true → scaling_list (suc n) last_scale b ≡ Ok (tt, after)
unfolding scaling_list
entry_last n last_scale delta_scale b after e none = rw (e, none) refl

pub list_fault : (entries counter last_scale : ℕ) (b : Bits) (f : Fault) → counter < entries → se_within (negsuc 127) (pos 127) b ≡ Err f → scaling_list (entries - counter) last_scale b ≡ Err f
list_fault entries counter last_scale b f less e =
    ap (λ k. scaling_list k last_scale b) (one_left entries counter less) ∙ entry_fault (entries - (counter + 1)) last_scale b f e

pub list_more : (entries counter last_scale next : ℕ) (delta_scale : ℤ) (b after : Bits) → counter < entries → se_within (negsuc 127) (pos 127) b ≡ Ok (delta_scale, after)
    → next ≡ next_scale last_scale delta_scale → (next ≡ 0 → ⊥) → scaling_list (entries - counter) last_scale b ≡ scaling_list (entries - (counter + 1)) next after
list_more entries counter last_scale next delta_scale b after less e is more =
    ap (λ k. scaling_list k last_scale b) (one_left entries counter less)
    ∙ entry_more (entries - (counter + 1)) last_scale delta_scale b after e (ap (λ s. s == 0) (sym is) ∙ is_some next more)
    ∙ ap (λ s. scaling_list (entries - (counter + 1)) s after) (sym is)

pub list_last : (entries counter last_scale next : ℕ) (delta_scale : ℤ) (b after : Bits) → counter < entries → se_within (negsuc 127) (pos 127) b ≡ Ok (delta_scale, after)
    → next ≡ next_scale last_scale delta_scale → next ≡ 0 → scaling_list (entries - counter) last_scale b ≡ Ok (tt, after)
list_last entries counter last_scale next delta_scale b after less e is none =
    ap (λ k. scaling_list k last_scale b) (one_left entries counter less)
    ∙ entry_last (entries - (counter + 1)) last_scale delta_scale b after e (ap (λ s. s == 0) (sym is) ∙ is_none next none)

pub list_over : (entries counter last_scale : ℕ) (b : Bits) → entries ≡ counter → scaling_list (entries - counter) last_scale b ≡ Ok (tt, b)
unfolding scaling_list
list_over entries counter last_scale b e = let none : entries - counter ≡ 0 = omega arith in rw none refl

-- ---- lists

flag_fault : (n entries : ℕ) (b : Bits) (f : Fault) → flag b ≡ Err f → scaling_lists (suc n) entries b ≡ Err f
unfolding scaling_lists
flag_fault n entries b f e = rw e refl

one_fault : (n entries : ℕ) (present : Bool) (b mid : Bits) (f : Fault) → flag b ≡ Ok (present, mid) → if_present present (scaling_list entries 8) mid ≡ Err f → scaling_lists (suc n) entries b ≡ Err f
unfolding scaling_lists
one_fault n entries present b mid f e g = rw (e, g) refl

one_more : (n entries : ℕ) (present : Bool) (b mid after : Bits) (done : Unit {0}) → flag b ≡ Ok (present, mid) → if_present present (scaling_list entries 8) mid ≡ Ok (done, after) → scaling_lists (suc n) entries b ≡ scaling_lists n entries after
unfolding scaling_lists
one_more n entries present b mid after done e g = rw (e, g) refl

pub lists_flag_fault : (count counter entries : ℕ) (b : Bits) (f : Fault) → counter < count → flag b ≡ Err f → scaling_lists (count - counter) entries b ≡ Err f
lists_flag_fault count counter entries b f less e =
    ap (λ k. scaling_lists k entries b) (one_left count counter less) ∙ flag_fault (count - (counter + 1)) entries b f e

pub lists_fault : (count counter entries : ℕ) (present : Bool) (b mid : Bits) (f : Fault) → counter < count → flag b ≡ Ok (present, mid) → if_present present (scaling_list entries 8) mid ≡ Err f
    → scaling_lists (count - counter) entries b ≡ Err f
lists_fault count counter entries present b mid f less e g =
    ap (λ k. scaling_lists k entries b) (one_left count counter less) ∙ one_fault (count - (counter + 1)) entries present b mid f e g

pub lists_more : (count counter entries : ℕ) (present : Bool) (b mid after : Bits) (done : Unit {0}) → counter < count → flag b ≡ Ok (present, mid) → if_present present (scaling_list entries 8) mid ≡ Ok (done, after)
    → scaling_lists (count - counter) entries b ≡ scaling_lists (count - (counter + 1)) entries after
lists_more count counter entries present b mid after done less e g =
    ap (λ k. scaling_lists k entries b) (one_left count counter less) ∙ one_more (count - (counter + 1)) entries present b mid after done e g

pub lists_over : (count counter entries : ℕ) (b : Bits) → count ≡ counter → scaling_lists (count - counter) entries b ≡ Ok (tt, b)
unfolding scaling_lists
lists_over count counter entries b e = let none : count - counter ≡ 0 = omega arith in rw none refl
