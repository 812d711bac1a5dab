-- Why a get or a put is turned down: the tool's code by the asked tree alone, and what it tells beside the code 0. Assumes nothing.
use mathlib.Core.Path.{◌≡◌, refl, sym, ap, ◌∙◌, subst}
use mathlib.Core.Bool.{Bool, true, false, ◌&&◌, true≢false}
use Prim.Native.Nat.{ℕ, ◌+◌, ◌*◌, ◌^◌, ◌<◌}
use native.Mathlib.Omega.{arith}
use lib.Dec.{leb, ltb}
use lib.Pow.{pow_pos}
use Rattle.base.specs.Walk.{pick, first}
use Rattle.base.specs.Code.{unless, or_else}
use Rattle.base.specs.Size.{Huge}
use Rattle.base.proofs.Walks.{pick_case}
use Rattle.base.proofs.Codes.{done, none_of, holds}
use Rattle.rules.specs.Numbered.{Why}
use Rattle.rules.specs.Numbers.{huge_of, tree_of, group_of}
use Rattle.rules.specs.State.{Mem, lengths_of}
use Rattle.rules.specs.Refusals.{Sized, block_refusal, start_refusal}
use Rattle.rules.specs.Consistent.{Fits, ConsistentIn, free, held, free_frames}
use Rattle.rules.specs.Why.{why, sound, told, unmarked, get_reason, get_at_reason, put_reason, why_get, why_get_at, why_put}
use Rattle.rules.specs.Whys.{Exactly, Asked, GetTold, GetAtTold, PutTold, WhysTell}
use Rattle.rules.proofs.Numbers.{tree_pos}
use Rattle.rules.proofs.Needed.{tree_covers}
use Rattle.rules.proofs.Lent.{started, blocked}
use Rattle.rules.proofs.Audits.{tree_is_sound}
use Rattle.rules.proofs.Exacts.{calls_are_exact}
use Rattle.rules.proofs.Lowest.{always, never}
use Rattle.rules.proofs.WhyReasons.{get_told}
use Rattle.rules.proofs.WhyFrames.{get_at_told, put_told}

-- ---- the tool's code

-- past the request's own checks it is 8 where the tree is not consistent, with nothing beside it
told_past : {refusal : ℕ} (s : Bool) (w : Why) → refusal ≡ 0 → told refusal s w ≡ pick s w (why 8 0 0)
unfolding or_else
told_past true w e = rw e
told_past false w e = rw e

-- where it is 0, the request passed, the tree is consistent, and the rest is as told
code_zero : (refusal : ℕ) (s : Bool) (w : Why) → (told refusal s w).code ≡ 0 → (refusal ≡ 0) × (s ≡ true) × (w ≡ told refusal s w)
code_zero refusal s w z =
    let (none, is) = done w (why (or_else refusal (unless s 8)) 0 0) (λ (v : Why). v.code) refl z in
    let (e, q) = none_of refusal (unless s 8) none in
    (e, holds s 7 q, sym is)

-- a reason has no code of its own
module _ (h n : ℕ) (m : Mem) (a o : ℕ) where
  get_at_code : (get_at_reason h n m a o).code ≡ 0
  unfolding get_at_reason
  get_at_code = pick_case (λ (w : Why). w.code ≡ 0) (ltb (first (held h n m) (2 ^ o) a) (a + 2 ^ o)) (λ _. refl) (λ _. refl)

  put_code : (put_reason h n m a o).code ≡ 0
  unfolding put_reason
  put_code =
      pick_case (λ (w : Why). w.code ≡ 0) (ltb (first (free h n m) (2 ^ o) a) (a + 2 ^ o)) (λ _. refl) (λ _.
      pick_case (λ (w : Why). w.code ≡ 0) (leb h o && ltb (first (unmarked m.entries) (group_of h o) (huge_of h a)) (huge_of h a + group_of h o)) (λ _. refl) (λ _. refl))

asked : (h n t : ℕ) (m : Mem) (y : ℕ) (s : Bool) (w : Why) {r : Why} → r ≡ pick s w (why 8 0 0) → w.code ≡ 0 → Exactly (s ≡ true) (ConsistentIn h n t m y) → Asked h n t m y r
asked h n t m y true w {r} e z (is, _) =
    let code : r.code ≡ 0 = ap (λ (v : Why). v.code) e ∙ z in
    record { consistent = always code (is refl); damaged = never (λ q. omega (arith, code, ap (λ (v : Why). v.code) q)) (λ no. no (is refl)) }
asked h n t m y false w e z (_, is) =
    let no : ConsistentIn h n t m y → ⊥ = λ c. true≢false (sym (is c)) in
    record { consistent = never (λ q. omega (arith, q, ap (λ (v : Why). v.code) e)) no; damaged = always e no }

-- ---- what it tells

module _ (h n t : ℕ) (m : Mem) (H : Huge h) (fits : Fits m) where
  -- the tree of a frame below N
  its_tree : Sized h n t (lengths_of m) → (f : ℕ) → f < n → Exactly (sound h n t m (tree_of h t f) ≡ true) (ConsistentIn h n t m (tree_of h t f))
  its_tree s f l = tree_is_sound h n t m (tree_of h t f) H fits s (tree_covers h n t f (tree_pos t s.tree) l)

  start_tree : (row o : ℕ) → start_refusal h n t m row o ≡ 0 → Exactly (sound h n t m (tree_of h t (row * 64)) ≡ true) (ConsistentIn h n t m (tree_of h t (row * 64)))
  start_tree row o e = let b = started h n t _ row o e in its_tree b.sized (row * 64) b.begins

  block_tree : (a o : ℕ) → block_refusal h n t m a o ≡ 0 → Exactly (sound h n t m (tree_of h t a) ≡ true) (ConsistentIn h n t m (tree_of h t a))
  block_tree a o e = let b = blocked h n t _ a o e in its_tree b.sized a (omega (arith, b.ends, pow_pos o))

  asks_get : (row o : ℕ) → start_refusal h n t m row o ≡ 0 → Asked h n t m (tree_of h t (row * 64)) (why_get h n t m row o)
  unfolding why_get
  asks_get row o e = let y = tree_of h t (row * 64) in asked h n t m y (sound h n t m y) (why 0 (get_reason h n t m y o) 0) (told_past (sound h n t m y) (why 0 (get_reason h n t m y o) 0) e) refl (start_tree row o e)

  asks_get_at : (a o : ℕ) → block_refusal h n t m a o ≡ 0 → Asked h n t m (tree_of h t a) (why_get_at h n t m a o)
  unfolding why_get_at
  asks_get_at a o e =
      let y = tree_of h t a in
      asked h n t m y (sound h n t m y) (get_at_reason h n m a o) (told_past (sound h n t m y) (get_at_reason h n m a o) e) (get_at_code h n m a o) (block_tree a o e)

  asks_put : (a o : ℕ) → block_refusal h n t m a o ≡ 0 → Asked h n t m (tree_of h t a) (why_put h n t m a o)
  unfolding why_put
  asks_put a o e =
      let y = tree_of h t a in
      asked h n t m y (sound h n t m y) (put_reason h n m a o) (told_past (sound h n t m y) (put_reason h n m a o) e) (put_code h n m a o) (block_tree a o e)

  gets : (row o : ℕ) → (why_get h n t m row o).code ≡ 0
      → GetTold h n t m row o (tree_of h t (row * 64)) (free_frames h n m (2 ^ h * t) (tree_of h t (row * 64))) (why_get h n t m row o)
  unfolding why_get
  gets row o z =
      let y = tree_of h t (row * 64) in
      let (e, s, is) = code_zero (start_refusal h n t m row o) (sound h n t m y) (why 0 (get_reason h n t m y o) 0) z in
      subst (GetTold h n t m row o y (free_frames h n m (2 ^ h * t) y)) is (get_told h n t m row o e (calls_are_exact h n t m y H ((start_tree row o e).0 s)))

  gets_at : (a o : ℕ) → (why_get_at h n t m a o).code ≡ 0 → GetAtTold h n t m a o (why_get_at h n t m a o)
  unfolding why_get_at
  gets_at a o z =
      let y = tree_of h t a in
      let (e, s, is) = code_zero (block_refusal h n t m a o) (sound h n t m y) (get_at_reason h n m a o) z in
      subst (GetAtTold h n t m a o) is (get_at_told h n t m a o e (calls_are_exact h n t m y H ((block_tree a o e).0 s)))

  puts : (a o : ℕ) → (why_put h n t m a o).code ≡ 0 → PutTold h n t m a o (why_put h n t m a o)
  unfolding why_put
  puts a o z =
      let y = tree_of h t a in
      let (e, s, is) = code_zero (block_refusal h n t m a o) (sound h n t m y) (put_reason h n m a o) z in
      subst (PutTold h n t m a o) is (put_told h n t m a o e (calls_are_exact h n t m y H ((block_tree a o e).0 s)))

pub whys_told : WhysTell
whys_told h n t m H fits = record {
  asks_get = asks_get h n t m H fits;
  asks_get_at = asks_get_at h n t m H fits;
  asks_put = asks_put h n t m H fits;
  gets = gets h n t m H fits;
  gets_at = gets_at h n t m H fits;
  puts = puts h n t m H fits;
}
