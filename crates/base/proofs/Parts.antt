-- The rows of one huge frame as a part of all rows: what is said of the part's bits is said of the whole's. Assumes nothing.
use mathlib.Core.Path.{◌≡◌, refl, sym, ap, ap₂, ◌∙◌}
use mathlib.Core.Bool.{Bool, false}
use mathlib.Core.List.{List, [], ◌∷◌, ◌++◌}
use Prim.Native.Nat.{ℕ, suc, ◌+◌, ◌-◌, ◌*◌, ◌/◌, ◌%◌, ◌≤◌, ◌<◌, min}
use native.Mathlib.Nat.{add-zero, zero-add}
use native.Mathlib.Omega.{arith}
use lib.ListN.{length, get_or, take, drop, take-append-drop, length-drop}
use lib.Seq.{get_or-take, get_or-drop, length-take-le, ext_get_or}
use Rattle.base.specs.Walk.{count}
use Rattle.base.specs.Bits.{bit_is, block_is, overlay, with_bits}
use Rattle.base.proofs.Walks.{all_same, count_same, count_shift}
use Rattle.base.proofs.Masks.{overlay_none}
use Rattle.base.proofs.Writes.{with_none}

-- k rows from row a on are k rows, where so many are lent
pub part_long : (rows : List ℕ) (a k : ℕ) → a + k ≤ length rows → length (take k (drop a rows)) ≡ k
part_long rows a k fits = length-take-le k (drop a rows) (omega (arith, length-drop a rows))

-- each of them is one of all rows
part_row : (rows : List ℕ) (a k i : ℕ) → i < k → get_or (take k (drop a rows)) i 0 ≡ get_or rows (a + i) 0
part_row rows a k i l = get_or-take k (drop a rows) i 0 l ∙ get_or-drop a rows i 0

-- so a part of two lists, alike in each of its rows, is the same
pub part_same : (l r : List ℕ) (a k : ℕ) → a + k ≤ length l → a + k ≤ length r → ((i : ℕ) → i < k → get_or l (a + i) 0 ≡ get_or r (a + i) 0)
    → take k (drop a l) ≡ take k (drop a r)
part_same l r a k p q e =
    let long = part_long l a k p in
    ext_get_or 0 (take k (drop a l)) (take k (drop a r)) (long ∙ sym (part_long r a k q))
    (λ i u. let v : i < k = omega arith in part_row l a k i v ∙ e i v ∙ sym (part_row r a k i v))

-- frame f of the k rows from row a on is frame a * 64 + f of all rows
pub bit_part : (b : Bool) (rows : List ℕ) (a k f : ℕ) → f < k * 64 → bit_is b (take k (drop a rows)) f ≡ bit_is b rows (a * 64 + f)
unfolding bit_is
bit_part b rows a k f h =
    let low : f / 64 < k = omega arith in
    let r : (a * 64 + f) / 64 ≡ a + f / 64 = omega arith in
    let q : (a * 64 + f) % 64 ≡ f % 64 = omega arith in
    rw (r, q, part_row rows a k (f / 64) low)

-- the clear bits of k rows from row a on, counted in the part that holds them
pub zeros_part : (rs : List ℕ) (a k : ℕ) → count (bit_is false (take k (drop a rs))) (k * 64) 0 ≡ count (bit_is false rs) (k * 64) (a * 64)
zeros_part rs a k =
    count_same (bit_is false (take k (drop a rs))) (λ f. bit_is false rs (a * 64 + f)) (k * 64) 0 (λ f _ l. bit_part false rs a k f (rw zero-add at l))
    ∙ count_shift (bit_is false rs) (a * 64) (k * 64) 0 ∙ ap (count (bit_is false rs) (k * 64)) (add-zero (a * 64))

-- so a block of the part is one of the whole
pub block_part : (b : Bool) (rows : List ℕ) (a k p s : ℕ) → p + s ≤ k * 64 → block_is b (take k (drop a rows)) p s ≡ block_is b rows (a * 64 + p) s
unfolding block_is
block_part b rows a k p s h = all_same _ (λ j. bit_is b rows (a * 64 + p + j)) s 0 (λ j _ l. bit_part b rows a k (p + j) (omega arith) ∙ ap (bit_is b rows) (sum a p j))
  where
    sum : (a p j : ℕ) → a * 64 + (p + j) ≡ a * 64 + p + j
    sum a p j = omega arith

-- rows before those that are written stay
with_before : (b : Bool) (rows : List ℕ) (a e : ℕ) → length rows * 64 ≤ a → a ≤ e → with_bits b rows a e ≡ rows
unfolding with_bits
with_before b [] a e h l = refl
with_before b (v ∷ rows) a e h l =
    let lo : min a 64 ≡ 64 = omega arith in
    let hi : min e 64 ≡ 64 = omega arith in
    rw (lo, hi) (ap₂ (λ (x : ℕ) (t : List ℕ). x ∷ t) (overlay_none b v 64) (with_before b rows (a - 64) (e - 64) (omega arith) (omega arith)))

-- a write goes over a list of rows part by part
with_append : (b : Bool) (xs ys : List ℕ) (a e : ℕ) → with_bits b (xs ++ ys) a e ≡ with_bits b xs a e ++ with_bits b ys (a - length xs * 64) (e - length xs * 64)
unfolding with_bits
with_append b [] ys a e =
    let p : a - 0 * 64 ≡ a = omega arith in
    let q : e - 0 * 64 ≡ e = omega arith in
    rw (p, q)
with_append b (v ∷ xs) ys a e =
    let p : a - suc (length xs) * 64 ≡ a - 64 - length xs * 64 = omega arith in
    let q : e - suc (length xs) * 64 ≡ e - 64 - length xs * 64 = omega arith in
    rw (p, q) (ap (λ (t : List ℕ). overlay b v (min a 64) (min e 64) ∷ t) (with_append b xs ys (a - 64) (e - 64)))

-- a write within the k rows from row a on, put back in their place, is one of the whole
pub with_part : (b : Bool) (rows : List ℕ) (a k p e : ℕ) → a + k ≤ length rows → p ≤ e → e ≤ k * 64
    → take a rows ++ (with_bits b (take k (drop a rows)) p e ++ drop k (drop a rows)) ≡ with_bits b rows (a * 64 + p) (a * 64 + e)
with_part b rows a k p e fits l h =
    let front = take a rows in
    let part = take k (drop a rows) in
    let rest = drop k (drop a rows) in
    let la : length (take a rows) ≡ a = length-take-le a rows (omega arith) in
    let lk : length (take k (drop a rows)) ≡ k = part_long rows a k fits in
    let p0 : a * 64 + p - length (take a rows) * 64 ≡ p = omega arith in
    let e0 : a * 64 + e - length (take a rows) * 64 ≡ e = omega arith in
    let p1 : p - length (take k (drop a rows)) * 64 ≡ 0 = omega arith in
    let e1 : e - length (take k (drop a rows)) * 64 ≡ 0 = omega arith in
    let tail : with_bits b (part ++ rest) p e ≡ with_bits b part p e ++ rest = with_append b part rest p e ∙ rw (p1, e1) (ap (λ (t : List ℕ). with_bits b part p e ++ t) (with_none b rest 0)) in
    let whole : front ++ (part ++ rest) ≡ rows = ap (λ (t : List ℕ). front ++ t) (take-append-drop k (drop a rows)) ∙ take-append-drop a rows in
    sym (ap (λ (t : List ℕ). with_bits b t (a * 64 + p) (a * 64 + e)) (sym whole) ∙ with_append b front (part ++ rest) (a * 64 + p) (a * 64 + e)
    ∙ ap₂ (λ (x y : List ℕ). x ++ y) (with_before b front (a * 64 + p) (a * 64 + e) (omega arith) (omega arith)) (rw (p0, e0) tail))
