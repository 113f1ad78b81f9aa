-- Parts of a text, one behind another.
use Rattle.std.proofs.Common.{◌≡◌, ℕ, List, ◌++◌, refl, ap, sym, ◌∙◌, append_assoc}

pub joined_two : (all old one two a b : List ℕ) → one ≡ old ++ a → two ≡ one ++ b → all ≡ a ++ b → two ≡ old ++ all
joined_two all old one two a b p q e = q ∙ ap (λ l. l ++ b) p ∙ append_assoc old a b ∙ ap (λ l. old ++ l) (sym e)

pub joined_three : (all old one two three a b c : List ℕ) → one ≡ old ++ a → two ≡ one ++ b → three ≡ two ++ c → all ≡ a ++ (b ++ c) → three ≡ old ++ all
joined_three all old one two three a b c p q r e = joined_two all old one three a (b ++ c) p (joined_two (b ++ c) one two three b c q r refl) e

pub joined_four : (all old one two three four a b c d : List ℕ) → one ≡ old ++ a → two ≡ one ++ b → three ≡ two ++ c → four ≡ three ++ d → all ≡ a ++ (b ++ (c ++ d)) → four ≡ old ++ all
joined_four all old one two three four a b c d p q r s e =
    joined_two all old one four a (b ++ (c ++ d)) p (joined_three (b ++ (c ++ d)) one two three four b c d q r s refl) e

pub joined_five : (all old one two three four five a b c d e : List ℕ) → one ≡ old ++ a → two ≡ one ++ b → three ≡ two ++ c → four ≡ three ++ d → five ≡ four ++ e
    → all ≡ a ++ (b ++ (c ++ (d ++ e))) → five ≡ old ++ all
joined_five all old one two three four five a b c d e p q r s t is =
    joined_two all old one five a (b ++ (c ++ (d ++ e))) p (joined_four (b ++ (c ++ (d ++ e))) one two three four five b c d e q r s t refl) is

pub joined_six : (all old one two three four five six a b c d e f : List ℕ) → one ≡ old ++ a → two ≡ one ++ b → three ≡ two ++ c → four ≡ three ++ d → five ≡ four ++ e → six ≡ five ++ f
    → all ≡ a ++ (b ++ (c ++ (d ++ (e ++ f)))) → six ≡ old ++ all
joined_six all old one two three four five six a b c d e f p q r s t u is =
    joined_two all old one six a (b ++ (c ++ (d ++ (e ++ f)))) p (joined_five (b ++ (c ++ (d ++ (e ++ f)))) one two three four five six b c d e f q r s t u refl) is

regrouped : (c s m v h : List ℕ) → c ++ (s ++ (m ++ (v ++ h))) ≡ c ++ s ++ m ++ v ++ h
regrouped c s m v h = simp append_assoc

-- the lines of one macroblock
pub explained_joined : (old one two three four five c s m v h : List ℕ) → one ≡ old ++ c → two ≡ one ++ s → three ≡ two ++ m → four ≡ three ++ v → five ≡ four ++ h
    → five ≡ old ++ (c ++ s ++ m ++ v ++ h)
explained_joined old one two three four five c s m v h p q r t u =
    joined_five (c ++ (s ++ (m ++ (v ++ h)))) old one two three four five c s m v h p q r t u refl ∙ ap (λ l. old ++ l) (regrouped c s m v h)

regrouped_six : (w a b c d n : List ℕ) → w ++ (a ++ (b ++ (c ++ (d ++ n)))) ≡ w ++ a ++ b ++ c ++ d ++ n
regrouped_six w a b c d n = simp append_assoc

-- the line of a quarter
pub quarter_joined : (old one two three four five six w a b c d n : List ℕ) → one ≡ old ++ w → two ≡ one ++ a → three ≡ two ++ b → four ≡ three ++ c → five ≡ four ++ d → six ≡ five ++ n
    → six ≡ old ++ (w ++ a ++ b ++ c ++ d ++ n)
quarter_joined old one two three four five six w a b c d n p q r s t u =
    joined_six (w ++ (a ++ (b ++ (c ++ (d ++ n))))) old one two three four five six w a b c d n p q r s t u refl ∙ ap (λ l. old ++ l) (regrouped_six w a b c d n)

pub words_joined : (old one two three q d p s v : List ℕ) → one ≡ old ++ (q ++ d ++ p) → two ≡ one ++ s → three ≡ two ++ v → three ≡ old ++ (q ++ d ++ p ++ s ++ v)
words_joined old one two three q d p s v a b c = joined_three ((q ++ d ++ p) ++ (s ++ v)) old one two three (q ++ d ++ p) s v a b c refl ∙ ap (λ l. old ++ l) (sym (append_assoc (q ++ d ++ p) s v))
