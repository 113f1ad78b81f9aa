-- Samples of an open picture, one after another.
use Rattle.std.proofs.Common.{◌≡◌, ℕ, zero, suc, ℤ, pos, ◌+◌, ◌<◌, ◌≤◌, sym, subst, ◌∙◌, arith, List, [], ◌∷◌, ◌++◌, length, take, get_or}
use Rattle.std.proofs.lemmas.List.{take_all, take_more}
use Rattle.std.specs.Prelude.{slice_index_or}
use Rattle.avc_picture.specs.Decoding.{Decoding}
use Rattle.avc_difference.specs.declared.origin.SamplePair.{SamplePair}
use Rattle.avc_stages.specs.declared.traced.TracedSample.{TracedSample}
use Rattle.avc_replay.specs.Tracing.{AreTraced, HasOrderCount, IsTraced}
use Rattle.avc_plane.specs.declared.frame.Frame.{Frame}

traced_snoc : (d : Decoding 16) (pairs : List SamplePair) (ss : List TracedSample) (p : SamplePair) (s : TracedSample) → AreTraced d pairs ss → IsTraced d p s → AreTraced d (pairs ++ p ∷ []) (ss ++ s ∷ [])
traced_snoc d [] [] p s are is = (is, tt)
traced_snoc d (q ∷ pairs) (t ∷ ss) p s are is = (are.0, traced_snoc d pairs ss p s are.1 is)
traced_snoc d [] (t ∷ ss) p s are is = absurd are
traced_snoc d (q ∷ pairs) [] p s are is = absurd are

-- one sample more
pub traced_more : (d : Decoding 16) (pairs : List SamplePair) (i : ℕ) (ss new : List TracedSample) (p : SamplePair) (s : TracedSample) → i < length pairs →
    AreTraced d (take i pairs) ss → IsTraced d (get_or pairs i p) s → new ≡ ss ++ s ∷ [] → AreTraced d (take (i + 1) pairs) new
traced_more d pairs i ss new p s within are is made =
    subst (λ l. AreTraced d l new) (sym (take_more pairs i p within))
    (subst (λ l. AreTraced d (take i pairs ++ get_or pairs i p ∷ []) l) (sym made) (traced_snoc d (take i pairs) ss (get_or pairs i p) s are is))

-- all of them
pub traced_all : (d : Decoding 16) (pairs : List SamplePair) (i : ℕ) (ss : List TracedSample) → length pairs ≤ i → AreTraced d (take i pairs) ss → AreTraced d pairs ss
traced_all d pairs i ss past are = subst (λ l. AreTraced d l ss) (take_all i pairs past) are

-- each of four
pub each_count : (P : ℕ → ℤ → Type 0) (a b c d : ℤ) → P 0 a → P 1 b → P 2 c → P 3 d → (k : ℕ) → k < 4 → P k (slice_index_or (a ∷ b ∷ c ∷ d ∷ []) k (pos 0))
each_count P a b c d pa pb pc pd zero h = pa
each_count P a b c d pa pb pc pd (suc zero) h = pb
each_count P a b c d pa pb pc pd (suc (suc zero)) h = pc
each_count P a b c d pa pb pc pd (suc (suc (suc zero))) h = pd
each_count P a b c d pa pb pc pd (suc (suc (suc (suc k)))) h = absurd (omega (arith, h))

pub counted : (frames : List (Frame 16)) (place : ℕ) (n m : ℤ) → m ≡ n → HasOrderCount frames place n → HasOrderCount frames place m
counted frames place n m same has = (has.0, has.1, same ∙ has.2)
