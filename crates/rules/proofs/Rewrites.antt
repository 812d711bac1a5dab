-- The rows and the entry of one huge frame written anew: all others stay as they were, and a consistent tree stays so where the new entry counts the new clear bits.
-- Assumes nothing.
use mathlib.Core.Path.{◌≡◌, refl, sym, ap, ◌∙◌}
use mathlib.Core.Bool.{Bool, true, false}
use mathlib.Core.List.{List}
use mathlib.Core.Logic.{◌⊎◌, inl, inr, ⊎_elim}
use Prim.Native.Nat.{ℕ, ◌+◌, ◌*◌, ◌^◌, ◌≤◌, ◌<◌}
use native.Mathlib.Decide.{dec_lt, dec_le, ℕ_discrete}
use native.Mathlib.Nat.{zero-add, add-sub_cancel_left}
use native.Mathlib.Omega.{arith}
use lib.ListN.{length, get_or, length-set}
use lib.Seq.{get_or-set_same, get_or-set_other}
use Rattle.base.specs.Walk.{pick, count}
use Rattle.base.specs.Bits.{bit_is, with_bits}
use Rattle.base.specs.Size.{Huge}
use Rattle.base.proofs.Sizes.{frames_fit}
use Rattle.base.proofs.Walks.{count_le, count_parts, count_same}
use Rattle.base.proofs.Writes.{length_with, with_fits}
use Rattle.base.proofs.Frames.{bit_kept, zeros_written}
use Rattle.rules.specs.Numbers.{mark, huge_of}
use Rattle.rules.specs.State.{Mem, entry_of, clear_of, with_rows, with_entry}
use Rattle.rules.proofs.Numbers.{tree_pos}
use Rattle.rules.proofs.Present.{huge_is, huge_ends, present_entry, present_ends}
use Rattle.rules.specs.Consistent.{ByMark, ByCount, ConsistentIn, free}
use Rattle.rules.proofs.Frees.{no_mark, held_past}
use Rattle.rules.proofs.Blocks.{free_bit}

-- ---- rows

-- none but the bits of huge frame x differ
pub record Rewritten (h : ℕ) (rows left : List ℕ) (x : ℕ) : Type 0 where
  pub long : length left ≡ length rows
  pub wide : (i : ℕ) → get_or left i 0 < 2 ^ 64
  pub others : (b : Bool) (g : ℕ) → g < length rows * 64 → (huge_of h g ≡ x → ⊥) → bit_is b left g ≡ bit_is b rows g

pub rewritten_twice : {h : ℕ} {rows mid left : List ℕ} {x : ℕ} → Rewritten h rows mid x → Rewritten h mid left x → Rewritten h rows left x
rewritten_twice v w = record {
  long = w.long ∙ v.long;
  wide = w.wide;
  others = λ b g l q. w.others b g (omega (arith, v.long)) q ∙ v.others b g l q;
}

-- a run of s bits within huge frame x
module _ (h : ℕ) (b : Bool) (rows : List ℕ) (x a s : ℕ) (first : x * 2 ^ h ≤ a) (last : a + s ≤ (x + 1) * 2 ^ h) where
  some : a ≤ a + s
  some = omega arith

  beside : (g : ℕ) → (huge_of h g ≡ x → ⊥) → (g < a) ⊎ (a + s ≤ g)
  beside g q = elim (dec_lt g a) [
    | yes l ↦ inl l
    | no l ↦ elim (dec_le (a + s) g) [ yes u ↦ inr u | no u ↦ absurd (q (huge_is h x g (omega arith) (omega arith))) ]
  ]

  pub run_rewritten : ((i : ℕ) → get_or rows i 0 < 2 ^ 64) → Rewritten h rows (with_bits b rows a (a + s)) x
  run_rewritten fits = record {
    long = length_with b rows a (a + s);
    wide = with_fits b rows a (a + s) some fits;
    others = λ c g l q. bit_kept b rows a (a + s) some c g (omega arith) (beside g q);
  }

  -- the clear bits of the huge frame: those that were written are lost, or won
  pub run_clears : (x + 1) * 2 ^ h ≤ length rows * 64 → clear_of h (with_bits b rows a (a + s)) x + count (bit_is false rows) s a ≡ clear_of h rows x + pick b 0 s
  run_clears lent =
      omega (
        arith,
        rw (add-sub_cancel_left a s) at (zeros_written b rows a (a + s) some (x * 2 ^ h + 2 ^ h) (omega arith) (omega arith)),
        front (with_bits b rows a (a + s)),
        front rows,
        count_same (bit_is false (with_bits b rows a (a + s))) (bit_is false rows) (x * 2 ^ h) 0 (λ g _ u. bit_kept b rows a (a + s) some false g (omega arith) (inl (omega arith))),
      )
    where
      front : (rs : List ℕ) → count (bit_is false rs) (x * 2 ^ h + 2 ^ h) 0 ≡ count (bit_is false rs) (x * 2 ^ h) 0 + clear_of h rs x
      front rs = count_parts (bit_is false rs) (x * 2 ^ h) (2 ^ h) 0 ∙ rw zero-add

-- ---- the state

-- none but the frames and the entry of huge frame x differ, which is counted
pub record Renewed (h n t : ℕ) (m left : Mem) (x : ℕ) : Type 0 where
  pub keeps : (y : ℕ) → ConsistentIn h n t m y → ConsistentIn h n t left y
  pub other : (g : ℕ) → (huge_of h g ≡ x → ⊥) → free h n left g ≡ free h n m g
  pub own : (g : ℕ) → huge_of h g ≡ x → g < n → free h n left g ≡ bit_is false left.rows g

module _ {h n t : ℕ} {m : Mem} {z : ℕ} (H : Huge h) (c : ConsistentIn h n t m z) (x : ℕ) (here : x * 2 ^ h < n) (rs : List ℕ) (w : Rewritten h m.rows rs x) (e : ℕ)
    (counts : e ≡ clear_of h rs x) (past : (g : ℕ) → n ≤ g → g < (x + 1) * 2 ^ h → bit_is true rs g ≡ true) where
  abbrev left : Mem
  left = with_entry (with_rows m rs) x e

  own_entry : entry_of left.entries x ≡ e
  own_entry = get_or-set_same m.entries x e 0 (omega (arith, present_entry h n t x (tree_pos t c.sized.tree) here, c.sized.entries))

  other_entry : (y : ℕ) → (y ≡ x → ⊥) → entry_of left.entries y ≡ entry_of m.entries y
  other_entry y q = get_or-set_other m.entries x y e 0 q

  most : e ≤ 2 ^ h
  most = omega (arith, count_le (bit_is false rs) (2 ^ h) (x * 2 ^ h))

  own_counted : ByCount h n left x
  own_counted = record { most = omega (arith, own_entry, most); counts = own_entry ∙ counts; past = past }

  module _ (y : ℕ) (there : y * 2 ^ h < n) (q : y ≡ x → ⊥) where
    other_bits : (b : Bool) (g : ℕ) → y * 2 ^ h ≤ g → g < (y + 1) * 2 ^ h → bit_is b rs g ≡ bit_is b m.rows g
    other_bits b g a u = w.others b g (omega (arith, present_ends H n y there, c.sized.rows)) (λ k. q (sym (huge_is h y g a u) ∙ k))

    other_stays : ByMark h n m y ⊎ ByCount h n m y → ByMark h n left y ⊎ ByCount h n left y
    other_stays = ⊎_elim
        (λ k. inl (record { marked = other_entry y q ∙ k.marked; below = k.below; clear = λ g a u. other_bits false g a u ∙ k.clear g a u }))
        (λ k. inr (record {
          most = omega (arith, other_entry y q, k.most);
          counts = other_entry y q ∙ k.counts ∙ count_same (bit_is false m.rows) (bit_is false rs) (2 ^ h) (y * 2 ^ h) (λ g a u. sym (other_bits false g a (omega arith)));
          past = λ g a u. other_bits true g (omega arith) u ∙ k.past g a u;
        }))

  left_keeps : (y : ℕ) → ConsistentIn h n t m y → ConsistentIn h n t left y
  left_keeps _ d = record {
    sized = rw (w.long, length-set) d.sized;
    fits = record {
      rows = w.wide;
      entries = λ y. elim (ℕ_discrete y x) [
        | yes k ↦ rw k (omega (arith, own_entry, most, frames_fit H))
        | no k ↦ rw (other_entry y k) (d.fits.entries y)
      ];
    };
    present = λ y own l. elim (ℕ_discrete y x) [ yes k ↦ rw k (inr own_counted) | no k ↦ other_stays y l k (d.present y own l) ];
    absent = λ y own l u. elim (ℕ_discrete y x) [ yes k ↦ absurd (omega (arith, rw k at l)) | no k ↦ other_entry y k ∙ d.absent y own l u ];
  }

  other_free : (g : ℕ) → (huge_of h g ≡ x → ⊥) → free h n left g ≡ free h n m g
  other_free g q = elim (dec_lt g n) [
    | yes l ↦
        let own = huge_ends h g (huge_of h g) refl in
        rw (other_entry (huge_of h g) q, other_bits (huge_of h g) (omega (arith, own.0)) q false g own.0 own.1)
    | no l ↦ held_past h n left g (omega arith) ∙ sym (held_past h n m g (omega arith))
  ]

  -- the entry is no mark
  unmarked : (y : ℕ) → y ≡ x → entry_of left.entries y ≡ mark → ⊥
  unmarked y k q = no_mark H own_counted (ap (entry_of left.entries) (sym k) ∙ q)

  pub renewed : Renewed h n t m left x
  renewed = record {
    keeps = left_keeps;
    other = other_free;
    own = λ g k l. free_bit h n left g l (unmarked (huge_of h g) k);
  }
