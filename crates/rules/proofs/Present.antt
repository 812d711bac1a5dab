-- Huge frames: their frames, and which of the rows and entries that n frames need belong to a present one. Assumes nothing.
use mathlib.Core.Path.{◌≡◌, ap, ◌∙◌}
use Prim.Native.Nat.{ℕ, ◌+◌, ◌-◌, ◌*◌, ◌/◌, ◌%◌, ◌^◌, ◌≤◌, ◌<◌}
use native.Mathlib.Decide.{dec_lt}
use native.Mathlib.Nat.{mul_comm, mul-div_cancel, mul-le-mul_right, mod-lt, div-add-mod', div-mul-le_self, div-lt_iff_lt-mul, lt_of_mul-lt-mul_right}
use native.Mathlib.Omega.{arith}
use lib.Pow.{pow_pos, shr_le}
use Rattle.base.specs.Size.{Huge, rows_per}
use Rattle.base.proofs.Sizes.{first_row, place_ends}
use Rattle.base.proofs.Rests.{quotient_is}
use Rattle.rules.specs.Numbers.{row_of, huge_of, ceil, rows_needed, entries_needed}
use Rattle.rules.specs.State.{Lengths}
use Rattle.rules.specs.Refusals.{Sized}
use Rattle.rules.proofs.Numbers.{tree_pos, huge_of_row, ceil_covers, ceil_least, entries_cover}

module _ (h n : ℕ) where
  -- a huge frame that begins below N has its number below ceil(N / 512)
  pub present_low : (x : ℕ) → x * 2 ^ h < n → x < ceil n (2 ^ h)
  present_low x l = lt_of_mul-lt-mul_right (2 ^ h) (omega (arith, ceil_covers n (2 ^ h) (pow_pos h)))

  -- an absent one has not
  pub absent_high : (x : ℕ) → n ≤ x * 2 ^ h → ceil n (2 ^ h) ≤ x
  absent_high x l = ceil_least n (2 ^ h) x (pow_pos h) l

  -- the entry of a present huge frame is one of those needed
  pub present_entry : (t x : ℕ) → 0 < t → x * 2 ^ h < n → x < entries_needed h n t
  present_entry t x p l = rw (mul-div_cancel x (pow_pos h)) at (entries_cover h n t (x * 2 ^ h) p l)

  -- so a number below is one of a present huge frame
  pub low_present : (x : ℕ) → x < ceil n (2 ^ h) → x * 2 ^ h < n
  low_present x l = elim (dec_lt (x * 2 ^ h) n) [ yes q ↦ q | no q ↦ absurd (omega (arith, absent_high x (omega arith))) ]

  -- and so is a needed row
  pub row_present : (i : ℕ) → i < rows_needed h n → i / rows_per h * 2 ^ h < n
  row_present i l = low_present (i / rows_per h) ((div-lt_iff_lt-mul (pow_pos (h - 6))).1 (rw (mul_comm (rows_per h)) at l))

-- ---- the needed rows

module _ {h : ℕ} (H : Huge h) (n : ℕ) where
  -- their bits are those of the huge frames that n frames reach into
  rows_bits : rows_needed h n * 64 ≡ ceil n (2 ^ h) * 2 ^ h
  rows_bits = ap (λ (k : ℕ). k * 64) (mul_comm (rows_per h) (ceil n (2 ^ h))) ∙ first_row H (ceil n (2 ^ h))

  -- so each of the n frames has a bit there
  pub rows_enough : n ≤ rows_needed h n * 64
  rows_enough = rw rows_bits (ceil_covers n (2 ^ h) (pow_pos h))

  -- less than a huge frame lies past them
  pub rows_few : rows_needed h n * 64 < n + 2 ^ h
  rows_few = rw rows_bits (omega (arith, div-mul-le_self (n + (2 ^ h - 1)) (2 ^ h), pow_pos h))

  -- and all frames of a present huge frame have a bit there
  pub present_ends : (x : ℕ) → x * 2 ^ h < n → (x + 1) * 2 ^ h ≤ rows_needed h n * 64
  present_ends x l = rw rows_bits (mul-le-mul_right (2 ^ h) (omega (arith, present_low h n x l)))

-- ---- the frames of a huge frame

pub huge_is : (h x f : ℕ) → x * 2 ^ h ≤ f → f < (x + 1) * 2 ^ h → huge_of h f ≡ x
huge_is h x f a b = quotient_is (2 ^ h) x f a (omega arith)

pub huge_ends : (h f x : ℕ) → huge_of h f ≡ x → (x * 2 ^ h ≤ f) × (f < (x + 1) * 2 ^ h)
huge_ends h f x e = rw (← e) (div-mul-le_self f (2 ^ h), omega (arith, div-add-mod' f (2 ^ h), mod-lt f (pow_pos h)))

-- those of a row
pub row_within : {h : ℕ} → Huge h → (i f : ℕ) → i * 64 ≤ f → f < (i + 1) * 64 → (i / rows_per h * 2 ^ h ≤ f) × (f < (i / rows_per h + 1) * 2 ^ h)
row_within {h} H i f a b =
    let row : row_of f ≡ i = quotient_is 64 i f a (omega arith) in
    huge_ends h f (i / rows_per h) (huge_of_row f H ∙ ap (λ (r : ℕ). r / rows_per h) row)

-- an aligned block below the huge order
module _ {h : ℕ} (f o : ℕ) (low : o < h) (even : f % 2 ^ o ≡ 0) where
  -- ends in the huge frame it begins in
  pub block_within : f + 2 ^ o ≤ (huge_of h f + 1) * 2 ^ h
  block_within = omega (arith, div-add-mod' f (2 ^ h), place_ends f o h (omega arith) even)

  -- so all its frames are of one
  pub block_huge : (g : ℕ) → f ≤ g → g < f + 2 ^ o → huge_of h g ≡ huge_of h f
  block_huge g a b = huge_is h (huge_of h f) g (omega (arith, div-mul-le_self f (2 ^ h))) (omega (arith, block_within))

-- ---- the last present huge frame

module _ {h n t : ℕ} {len : Lengths} (s : Sized h n t len) {last : ℕ} (last_is : last ≡ huge_of h (n - 1)) where
  -- it begins below N
  pub last_present : last * 2 ^ h < n
  last_present = rw last_is (omega (arith, s.some, div-add-mod' (n - 1) (2 ^ h)))

  -- and reaches N, or ends past it
  pub last_reaches : n ≤ (last + 1) * 2 ^ h
  last_reaches = rw last_is (omega (arith, s.some, div-add-mod' (n - 1) (2 ^ h), mod-lt (n - 1) (pow_pos h)))

  -- so the present ones are those up to it
  pub present_is : last + 1 ≡ ceil n (2 ^ h)
  present_is = omega (arith, present_low h n last last_present, absent_high h n (last + 1) last_reaches)

  -- its number is small
  pub last_low : last < 1048576
  last_low = rw last_is (omega (arith, s.some, s.most, shr_le (n - 1) h))

  -- its entry is needed
  pub last_needed : last < entries_needed h n t
  last_needed = present_entry h n t last (tree_pos t s.tree) last_present

  -- those before it lie wholly below N
  pub before_whole : {x : ℕ} → x < last → (x + 1) * 2 ^ h ≤ n
  before_whole {x} l =
      let m : (x + 1) * 2 ^ h ≤ last * 2 ^ h = mul-le-mul_right (2 ^ h) (omega arith) in
      omega (arith, last_present)

  -- those behind it are absent
  pub behind_absent : {x : ℕ} → last < x → n ≤ x * 2 ^ h
  behind_absent {x} l =
      let m : (last + 1) * 2 ^ h ≤ x * 2 ^ h = mul-le-mul_right (2 ^ h) (omega arith) in
      omega (arith, last_reaches)
