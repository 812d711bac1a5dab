-- Texts written one behind the other: what is pasted behind what was pasted is pasted with it. Assumes nothing.
use mathlib.Core.Path.{◌≡◌, sym, ap, ap₂, ◌∙◌}
use mathlib.Core.List.{List, [], ◌∷◌, ◌++◌, append_assoc}
use Prim.Native.Nat.{ℕ, ◌+◌, ◌≤◌, ◌<◌}
use native.Mathlib.Nat.{add_assoc, add-zero, le_refl}
use native.Mathlib.Omega.{arith}
use native.Mathlib.Numerals.{add-one}
use lib.ListN.{length, set, take, drop, length-append}
use lib.Seq.{paste, paste-zero, take-paste, drop-paste, drop-drop, take-length, set_split, append_snoc}
use Rattle.base.specs.Code.{Out, out}
use Rattle.decimal.specs.Decimal.{decimal, number_to}
use Rattle.decimal.proofs.Laws.{length_decimal}
use Rattle.lines.specs.Answer.{text_to}

paste_behind : (l s t : List ℕ) (at : ℕ) → at + length s ≤ length l
    → paste (paste l at s (length s)) (at + length s) t (length t) ≡ paste l at (s ++ t) (length (s ++ t))
paste_behind l s t at h =
    ap₂ (λ (x y : List ℕ). x ++ take (length t) t ++ y) (take-paste l at s (length s) (omega arith) (le_refl (length s))) rest
    ∙ rw (take-length s, take-length t, take-length (s ++ t), length-append s t, ← add_assoc at (length s) (length t), ← append_assoc (take at l) s t)
  where
    rest : drop (at + length s + length t) (paste l at s (length s)) ≡ drop (at + length s + length t) l
    rest =
        sym (drop-drop (length t) (at + length s) (paste l at s (length s)))
        ∙ ap (drop (length t)) (drop-paste l at s (length s) (omega arith) (le_refl (length s))) ∙ drop-drop (length t) (at + length s) l

-- a text behind another is the two of them in one
pub text_behind : (l s t : List ℕ) (at : ℕ) {r r' : ℕ} {l' l'' : List ℕ} → at + length s ≤ length l → out r l' ≡ text_to l at s → out r' l'' ≡ text_to l' r t
    → out r' l'' ≡ text_to l at (s ++ t)
text_behind l s t at h e f =
    f ∙ ap (λ (o : Out ℕ (List ℕ)). text_to o.left o.answer t) e
    ∙ ap₂ out (rw (length-append s t) (add_assoc at (length s) (length t))) (paste_behind l s t at h)

-- no text
pub text_none : (l : List ℕ) (at : ℕ) → out at l ≡ text_to l at []
text_none l at = ap₂ out (sym (add-zero at)) (paste-zero l at [])

-- one byte
pub text_byte : (l : List ℕ) (at b : ℕ) → at < length l → out (at + 1) (set l at b) ≡ text_to l at (b ∷ [])
text_byte l at b h = rw (set_split l at b h, ← add-one at) (ap (out (at + 1)) (sym (append_snoc (take at l) b (drop (at + 1) l))))

-- a number's digits
pub text_number : (l : List ℕ) (at n : ℕ) → number_to l at n ≡ text_to l at (decimal n)
unfolding number_to
text_number l at n = rw (length_decimal n)

-- where a text ends
pub text_ends : (l s : List ℕ) (at : ℕ) {r : ℕ} {l' : List ℕ} → out r l' ≡ text_to l at s → r ≡ at + length s
text_ends l s at e = ap (λ (o : Out ℕ (List ℕ)). o.answer) e
