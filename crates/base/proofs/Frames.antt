-- Single frames' bits: what a write does to each of them and to how many are clear, and what a block says of its frames. Assumes nothing.
use mathlib.Core.Path.{◌≡◌, refl, sym, ap, ◌∙◌}
use mathlib.Core.Bool.{Bool, true, false, not}
use mathlib.Core.List.{List}
use mathlib.Core.Logic.{◌⊎◌, inl, inr, ⊎_elim}
use Prim.Native.Nat.{ℕ, ◌+◌, ◌-◌, ◌*◌, ◌/◌, ◌%◌, ◌^◌, ◌≤◌, ◌<◌, min}
use native.Mathlib.Nat.{add-zero, sub-add_cancel, mod-lt, zero-div, eq-zero-or-pos}
use native.Mathlib.Omega.{arith}
use lib.Dec.{eqb}
use lib.Pow.{pow_pos, pow-add, high, low, field, mod-mod-pow, shr-shr, ones_lt, ones_split}
use lib.ListN.{length, get_or}
use borrow.Author.Tests.{eq-eqb, ne_eqb, eqb-true, not-true}
use Rattle.base.specs.Walk.{pick, all, count}
use Rattle.base.specs.Bits.{bits_at, solid, bit_is, block_is, overlay, with_bits}
use Rattle.base.proofs.Walks.{all_each, all_of, all_shift, count_of, count_none, count_same, count_three}
use Rattle.base.proofs.Rows.{whole_row}
use Rattle.base.proofs.Writes.{solid_lt, get_d_with}

-- ---- one row

-- a bit below k is one of the number modulo 2 ^ k
low_bit : (n q k : ℕ) → q < k → bits_at (n % 2 ^ k) q 1 ≡ bits_at n q 1
low_bit n q k h =
    let w : k - q - 1 + 1 + q ≡ k = omega arith in
    ap (λ (e : ℕ). bits_at (n % 2 ^ e) q 1) (sym w) ∙ ap (λ (x : ℕ). x % 2) (field n (k - q - 1 + 1) q) ∙ mod-mod-pow (n / 2 ^ q) (k - q - 1) 1

-- a bit from k on is one of the number shifted by k
high_bit : (n q k : ℕ) → k ≤ q → bits_at n q 1 ≡ bits_at (n / 2 ^ k) (q - k) 1
high_bit n q k h =
    let w : k + (q - k) ≡ q = omega arith in
    ap (λ (e : ℕ). bits_at n e 1) (sym w) ∙ ap (λ (x : ℕ). x % 2) (sym (shr-shr n k (q - k)))

-- each bit of a solid number
solid_bit : (b : Bool) (s q : ℕ) → q < s → bits_at (solid b s) q 1 ≡ pick b 1 0
solid_bit true s q h =
    let w : s - q - 1 + 1 + q ≡ s = omega arith in
    let p = pow_pos (s - q - 1) in
    ap (λ (e : ℕ). bits_at (2 ^ e - 1) q 1) (sym w)
    ∙ ap (λ (x : ℕ). x / 2 ^ q % 2) (ones_split (s - q - 1 + 1) q) ∙ ap (λ (x : ℕ). x % 2) (high (2 ^ (s - q - 1 + 1) - 1) q (ones_lt q))
    ∙ ap (λ (x : ℕ). (x - 1) % 2) (pow-add 2 (s - q - 1) 1) ∙ odd (2 ^ (s - q - 1)) p
  where
    odd : (x : ℕ) → 0 < x → (x * 2 - 1) % 2 ≡ 1
    odd x p = omega arith
solid_bit false s q h = ap (λ (x : ℕ). x % 2) (zero-div (2 ^ q))

module _ (b : Bool) (v lo hi : ℕ) (h : lo ≤ hi) where
  -- what is written, and what is above it, in units of 2 ^ lo
  upper : ℕ
  upper = v / 2 ^ hi * 2 ^ (hi - lo) + solid b (hi - lo)

  overlay_is : overlay b v lo hi ≡ upper * 2 ^ lo + v % 2 ^ lo
  unfolding upper
  overlay_is =
      let e : 2 ^ hi ≡ 2 ^ (hi - lo) * 2 ^ lo = ap (λ (k : ℕ). 2 ^ k) (sym (sub-add_cancel h)) ∙ pow-add 2 (hi - lo) lo in
      three (v / 2 ^ hi) (2 ^ hi) (2 ^ (hi - lo)) (2 ^ lo) (solid b (hi - lo)) (v % 2 ^ lo) e
    where
      three : (x E S L m r : ℕ) → E ≡ S * L → x * E + m * L + r ≡ (x * S + m) * L + r
      three x E S L m r e = rw e (omega arith)

  shifted : overlay b v lo hi / 2 ^ lo ≡ upper
  shifted = ap (λ (x : ℕ). x / 2 ^ lo) overlay_is ∙ high upper lo (mod-lt v (pow_pos lo))

  -- below what is written
  pub overlay_below : (q : ℕ) → q < lo → bits_at (overlay b v lo hi) q 1 ≡ bits_at v q 1
  overlay_below q l =
      sym (low_bit (overlay b v lo hi) q lo l)
      ∙ ap (λ (x : ℕ). bits_at x q 1) (ap (λ (x : ℕ). x % 2 ^ lo) overlay_is ∙ low upper lo (mod-lt v (pow_pos lo)))
      ∙ low_bit v q lo l

  -- what is written
  pub overlay_in : (q : ℕ) → lo ≤ q → q < hi → bits_at (overlay b v lo hi) q 1 ≡ pick b 1 0
  unfolding upper
  overlay_in q l u =
      high_bit (overlay b v lo hi) q lo l ∙ ap (λ (x : ℕ). bits_at x (q - lo) 1) shifted ∙ sym (low_bit upper (q - lo) (hi - lo) (omega arith))
      ∙ ap (λ (x : ℕ). bits_at x (q - lo) 1) (low (v / 2 ^ hi) (hi - lo) (solid_lt b (hi - lo))) ∙ solid_bit b (hi - lo) (q - lo) (omega arith)

  -- above it
  pub overlay_above : (q : ℕ) → hi ≤ q → bits_at (overlay b v lo hi) q 1 ≡ bits_at v q 1
  unfolding upper
  overlay_above q l =
      let w : lo + (hi - lo) ≡ hi = omega arith in
      let e : overlay b v lo hi / 2 ^ hi ≡ v / 2 ^ hi =
      ap (λ (k : ℕ). overlay b v lo hi / 2 ^ k) (sym w) ∙ sym (shr-shr (overlay b v lo hi) lo (hi - lo)) ∙ ap (λ (x : ℕ). x / 2 ^ (hi - lo)) shifted
      ∙ high (v / 2 ^ hi) (hi - lo) (solid_lt b (hi - lo)) in
      high_bit (overlay b v lo hi) q hi l ∙ ap (λ (x : ℕ). bits_at x (q - hi) 1) e ∙ sym (high_bit v q hi l)

-- ---- rows

-- whether two bits are alike
abbrev pub alike : Bool → Bool → Bool
alike true c = c
alike false c = not c

alike_bit : (b c : Bool) → eqb (pick b 1 0) (pick c 1 0) ≡ alike c b
alike_bit true true = refl
alike_bit true false = refl
alike_bit false true = refl
alike_bit false false = refl

-- equal rows have equal bits
pub same_bit : (b : Bool) (rows left : List ℕ) (f : ℕ) → get_or rows (f / 64) 0 ≡ get_or left (f / 64) 0 → bit_is b rows f ≡ bit_is b left f
unfolding bit_is
same_bit b rows left f e = ap (λ (v : ℕ). eqb (bits_at v (f % 64) 1) (pick b 1 0)) e

-- and a row of 0 has all its bits clear
pub zero_bit : (rows : List ℕ) (f : ℕ) → get_or rows (f / 64) 0 ≡ 0 → bit_is false rows f ≡ true
unfolding bit_is
zero_bit rows f e = ap (λ (v : ℕ). eqb (bits_at v (f % 64) 1) 0) e ∙ ap (λ (v : ℕ). eqb (v % 2) 0) (zero-div (2 ^ (f % 64)))

module _ (b : Bool) (rows : List ℕ) (a e : ℕ) (h : a ≤ e) where
  -- a frame that a write covers has the bit that was written
  pub bit_written : (c : Bool) (f : ℕ) → f / 64 < length rows → a ≤ f → f < e → bit_is c (with_bits b rows a e) f ≡ alike c b
  unfolding bit_is
  bit_written c f l lo hi =
      ap (λ (x : ℕ). eqb (bits_at x (f % 64) 1) (pick c 1 0)) (get_d_with b rows a e (f / 64) l)
      ∙ ap (λ (x : ℕ). eqb x (pick c 1 0))
      (overlay_in b (get_or rows (f / 64) 0) (min (a - 64 * (f / 64)) 64) (min (e - 64 * (f / 64)) 64) (omega arith) (f % 64) (omega arith) (omega arith))
      ∙ alike_bit b c

  -- any other keeps its own
  pub bit_kept : (c : Bool) (f : ℕ) → f / 64 < length rows → (f < a) ⊎ (e ≤ f) → bit_is c (with_bits b rows a e) f ≡ bit_is c rows f
  unfolding bit_is
  bit_kept c f l out =
      ap (λ (x : ℕ). eqb (bits_at x (f % 64) 1) (pick c 1 0)) (get_d_with b rows a e (f / 64) l)
      ∙ ap (λ (x : ℕ). eqb x (pick c 1 0)) (⊎_elim
      (λ q. overlay_below b (get_or rows (f / 64) 0) (min (a - 64 * (f / 64)) 64) (min (e - 64 * (f / 64)) 64) (omega arith) (f % 64) (omega arith))
      (λ q. overlay_above b (get_or rows (f / 64) 0) (min (a - 64 * (f / 64)) 64) (min (e - 64 * (f / 64)) 64) (omega arith) (f % 64) (omega arith))
      out)

  -- the clear bits of the first n frames: those that were written are lost, or won
  pub zeros_written : (n : ℕ) → e ≤ n → n ≤ length rows * 64
      → count (bit_is false (with_bits b rows a e)) n 0 + count (bit_is false rows) (e - a) a ≡ count (bit_is false rows) n 0 + pick b 0 (e - a)
  zeros_written n l long =
      omega (
        arith,
        count_three (bit_is false (with_bits b rows a e)) n a (e - a) (omega arith),
        count_three (bit_is false rows) n a (e - a) (omega arith),
        count_same (bit_is false (with_bits b rows a e)) (bit_is false rows) a 0 (λ f _ u. bit_kept false f (omega arith) (inl (omega arith))),
        count_same (bit_is false (with_bits b rows a e)) (bit_is false rows) (n - (a + (e - a))) (a + (e - a)) (λ f o u. bit_kept false f (omega arith) (inr (omega arith))),
        written b refl,
      )
    where
      written : (c : Bool) → b ≡ c → count (bit_is false (with_bits b rows a e)) (e - a) a ≡ pick c 0 (e - a)
      written true q = count_none (bit_is false (with_bits b rows a e)) (e - a) a (λ f o u. bit_written false f (omega arith) o (omega arith) ∙ ap not q)
      written false q = count_of (bit_is false (with_bits b rows a e)) (e - a) a (λ f o u. bit_written false f (omega arith) o (omega arith) ∙ ap not q)

-- ---- blocks

module _ (b : Bool) (rows : List ℕ) (p s : ℕ) where
  -- a block is all b exactly if a walk over its frames' bits says so
  pub block_walk : block_is b rows p s ≡ all (bit_is b rows) s p
  unfolding block_is
  block_walk = all_shift (bit_is b rows) p s 0 ∙ ap (all (bit_is b rows) s) (add-zero p)

  -- and so if each of them is b
  pub block_each : block_is b rows p s ≡ true → (f : ℕ) → p ≤ f → f < p + s → bit_is b rows f ≡ true
  block_each e = all_each (bit_is b rows) s p (sym block_walk ∙ e)

  pub block_of : ((f : ℕ) → p ≤ f → f < p + s → bit_is b rows f ≡ true) → block_is b rows p s ≡ true
  block_of each = block_walk ∙ all_of (bit_is b rows) s p each

-- a bit that is set is not clear
pub set_not_clear : (rows : List ℕ) (f : ℕ) → bit_is true rows f ≡ not (bit_is false rows f)
unfolding bit_is
set_not_clear rows f = go (get_or rows (f / 64) 0 / 2 ^ (f % 64))
  where
    go : (x : ℕ) → eqb (x % 2) 1 ≡ not (eqb (x % 2) 0)
    go x = ⊎_elim
        (λ (z : x % 2 ≡ 0). rw (eq-eqb (x % 2) 0 z) (ne_eqb (x % 2) 1 (λ e. omega arith)))
        (λ (z : 0 < x % 2). rw (ne_eqb (x % 2) 0 (λ e. omega arith)) (eq-eqb (x % 2) 1 (omega arith)))
        (eq-zero-or-pos (x % 2))

-- the clear bits of a block that is all b: none, or its size
pub zeros_block : (b : Bool) (rows : List ℕ) (p s : ℕ) → block_is b rows p s ≡ true → count (bit_is false rows) s p ≡ pick b 0 s
zeros_block true rows p s e = count_none (bit_is false rows) s p (λ f lo hi. not-true (bit_is false rows f) (sym (set_not_clear rows f) ∙ block_each true rows p s e f lo hi))
zeros_block false rows p s e = count_of (bit_is false rows) s p (block_each false rows p s e)

-- a row whose bits are all clear is 0
pub clear_row : (rows : List ℕ) → ((i : ℕ) → get_or rows i 0 < 2 ^ 64) → (i : ℕ) → ((f : ℕ) → i * 64 ≤ f → f < (i + 1) * 64 → bit_is false rows f ≡ true)
    → get_or rows i 0 ≡ 0
clear_row rows fits i clear =
    eqb-true (get_or rows i 0) 0 (sym (whole_row false rows fits i) ∙ block_of false rows (i * 64) 64 (λ f lo hi. clear f lo (omega arith)))
