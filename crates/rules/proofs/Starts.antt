-- The two starts give consistent states: all frames below N free, or all held. Assumes nothing.
use mathlib.Core.Path.{◌≡◌, refl, sym, ◌∙◌}
use mathlib.Core.Bool.{Bool, true, false}
use mathlib.Core.Logic.{inl, inr}
use Prim.Native.Nat.{ℕ, ◌+◌, ◌-◌, ◌*◌, ◌/◌, ◌^◌, ◌≤◌, ◌<◌, min}
use native.Mathlib.Decide.{dec_lt, dec_le}
use native.Mathlib.Nat.{div-mul-le_self, div-lt_iff_lt-mul, le-div_iff_mul-le, mul-le-mul_right, div-add-mod'}
use native.Mathlib.Omega.{arith}
use lib.ListN.{length}
use lib.Pow.{pow_pos}
use borrow.Author.Tests.{le-leb, lt-leb}
use Rattle.base.specs.Walk.{written}
use Rattle.base.specs.Code.{out}
use Rattle.base.specs.Bits.{bit_is}
use Rattle.base.specs.Size.{Huge}
use Rattle.base.proofs.Sizes.{frames_fit}
use Rattle.base.proofs.Frames.{alike}
use Rattle.base.proofs.Clears.{cleared_below, cleared_past, cleared_count}
use Rattle.base.proofs.Writes.{length_with, with_fits}
use Rattle.base.proofs.Written.{written_in, written_beyond, length_written}
use Rattle.base.proofs.Codes.{done}
use Rattle.rules.specs.Numbers.{mark, huge_of, rows_needed, entries_needed}
use Rattle.rules.specs.Refusals.{Sized, sizes_refusal}
use Rattle.rules.specs.State.{Mem, mem, entry_of, clear_of, lengths_of}
use Rattle.rules.proofs.Numbers.{tree_pos}
use Rattle.rules.proofs.Lent.{sized}
use Rattle.rules.proofs.Present.{present_entry, rows_enough, present_ends, huge_ends}
use Rattle.rules.specs.Starts as starts
use Rattle.rules.specs.Starts.{rows_from, free_entry, held_entry, free_all, reserve_all}
use Rattle.rules.specs.Consistent.{Fits, ByMark, ByCount, Consistent, free}
use Rattle.rules.proofs.Frees.{no_mark, is_free, held_mark, held_bit}

module _ {h n t : ℕ} (H : Huge h) (m : Mem) (fits : Fits m) (s : Sized h n t (lengths_of m)) where
  pos : 0 < t
  pos = tree_pos t s.tree

  -- ---- what both starts leave: the needed rows clear below frame c and set from there on, and the needed entries by their numbers

  module _ (c : ℕ) (low : c ≤ n) (e : ℕ → ℕ) where
    abbrev started : Mem
    started = mem (rows_from h n m.rows c) (written e m.entries 0 (entries_needed h n t))

    inside : c ≤ rows_needed h n * 64
    inside = omega (arith, rows_enough H n)

    started_below : (b : Bool) (f : ℕ) → f < c → bit_is b started.rows f ≡ alike b false
    started_below = cleared_below m.rows c (rows_needed h n) s.rows inside

    started_past : (b : Bool) (x f : ℕ) → x * 2 ^ h < n → c ≤ f → f < (x + 1) * 2 ^ h → bit_is b started.rows f ≡ alike b true
    started_past b x f l a u = cleared_past m.rows c (rows_needed h n) s.rows inside b f a (omega (arith, present_ends H n x l))

    started_count : (x : ℕ) → x * 2 ^ h < n → clear_of h started.rows x ≡ min (c - x * 2 ^ h) (2 ^ h)
    started_count x l = cleared_count m.rows c (rows_needed h n) s.rows inside (2 ^ h) (x * 2 ^ h) (omega (arith, present_ends H n x l))

    started_entry : (x : ℕ) → x < entries_needed h n t → entry_of started.entries x ≡ e x
    started_entry x l = written_in e m.entries 0 (entries_needed h n t) x (omega arith) (omega arith) (omega (arith, s.entries))

    started_sized : Sized h n t (lengths_of started)
    started_sized =
        let same : length started.rows ≡ length m.rows = length_with _ _ _ _ ∙ length_with _ _ _ _ in
        rw (same, length_written e m.entries 0 (entries_needed h n t)) s

    started_fits : ((x : ℕ) → e x ≤ mark) → Fits started
    started_fits few = record {
      rows = with_fits _ _ _ _ inside (with_fits _ _ _ _ (omega arith) fits.rows);
      entries = λ x. elim (dec_lt x (entries_needed h n t)) [
        | yes l ↦ omega (arith, started_entry x l, few x)
        | no l ↦ rw (written_beyond e m.entries 0 (entries_needed h n t) x (omega arith)) (fits.entries x)
      ];
    }

  -- ---- all free

  below_n : n ≤ n
  below_n = omega arith

  abbrev freed : Mem
  freed = started n below_n (free_entry h n)

  freed_entry : (x : ℕ) → x < entries_needed h n t → entry_of freed.entries x ≡ free_entry h n x
  freed_entry = started_entry n below_n (free_entry h n)

  freed_few : (x : ℕ) → free_entry h n x ≤ 2 ^ h
  freed_few x = omega arith

  freed_counted : (x : ℕ) → x * 2 ^ h < n → ByCount h n freed x
  freed_counted x l =
      let entry = freed_entry x (present_entry h n t x pos l) in
      record {
        most = omega (arith, freed_few x);
        counts = entry ∙ sym (started_count n below_n (free_entry h n) x l);
        past = λ f a b. started_past n below_n (free_entry h n) true x f l (omega arith) (omega arith);
      }

  freed_consistent : Consistent h n t freed
  freed_consistent y = record {
    sized = started_sized n below_n (free_entry h n);
    fits = started_fits n below_n (free_entry h n) (λ x. omega (arith, freed_few x, frames_fit H));
    present = λ x _ l. inr (freed_counted x l);
    absent = λ x _ l u. freed_entry x u ∙ omega arith;
  }

  freed_free : (f : ℕ) → f < n → free h n freed f ≡ true
  freed_free f l =
      let here : huge_of h f * 2 ^ h < n = omega (arith, div-add-mod' f (2 ^ h)) in
      is_free h n freed f l (started_below n below_n (free_entry h n) false f l) (no_mark H (freed_counted (huge_of h f) here))

  -- ---- all held

  -- the frames of the whole huge frames
  abbrev wholes : ℕ
  wholes = n / 2 ^ h * 2 ^ h

  wholes_low : wholes ≤ n
  wholes_low = div-mul-le_self n (2 ^ h)

  abbrev reserved : Mem
  reserved = started wholes wholes_low (held_entry h n)

  reserved_whole : (x : ℕ) → (x + 1) * 2 ^ h ≤ n → held_entry h n x ≡ mark
  reserved_whole x l = rw (le-leb _ _ l)

  reserved_partial : (x : ℕ) → n < (x + 1) * 2 ^ h → held_entry h n x ≡ 0
  reserved_partial x l = rw (lt-leb _ _ l)

  reserved_few : (x : ℕ) → held_entry h n x ≤ mark
  reserved_few x = elim (dec_le ((x + 1) * 2 ^ h) n) [ yes l ↦ omega (arith, reserved_whole x l) | no l ↦ omega (arith, reserved_partial x (omega arith)) ]

  -- a partial huge frame lies past all whole ones
  partial_past : (x : ℕ) → n < (x + 1) * 2 ^ h → wholes ≤ x * 2 ^ h
  partial_past x l = mul-le-mul_right (2 ^ h) (omega (arith, (div-lt_iff_lt-mul (pow_pos h)).1 l))

  module _ (x : ℕ) (l : x * 2 ^ h < n) where
    reserved_entry : entry_of reserved.entries x ≡ held_entry h n x
    reserved_entry = started_entry wholes wholes_low (held_entry h n) x (present_entry h n t x pos l)

    reserved_marked : (x + 1) * 2 ^ h ≤ n → ByMark h n reserved x
    reserved_marked u =
        let ends : (x + 1) * 2 ^ h ≤ wholes = mul-le-mul_right (2 ^ h) ((le-div_iff_mul-le (pow_pos h)).1 u) in
        record {
          marked = reserved_entry ∙ reserved_whole x u;
          below = omega arith;
          clear = λ f a b. started_below wholes wholes_low (held_entry h n) false f (omega arith);
        }

    reserved_counted : n < (x + 1) * 2 ^ h → ByCount h n reserved x
    reserved_counted u =
        let none : entry_of reserved.entries x ≡ 0 = reserved_entry ∙ reserved_partial x u in
        record {
          most = omega arith;
          counts = omega (arith, partial_past x u, started_count wholes wholes_low (held_entry h n) x l);
          past = λ f a b. started_past wholes wholes_low (held_entry h n) true x f l (omega (arith, wholes_low)) (omega arith);
        }

  reserved_consistent : Consistent h n t reserved
  reserved_consistent y = record {
    sized = started_sized wholes wholes_low (held_entry h n);
    fits = started_fits wholes wholes_low (held_entry h n) reserved_few;
    present = λ x _ l. elim (dec_le ((x + 1) * 2 ^ h) n) [ yes u ↦ inl (reserved_marked x l u) | no u ↦ inr (reserved_counted x l (omega arith)) ];
    absent = λ x _ l u. started_entry wholes wholes_low (held_entry h n) x u ∙ reserved_partial x (omega (arith, pow_pos h));
  }

  reserved_held : (f : ℕ) → f < n → free h n reserved f ≡ false
  reserved_held f l =
      let x = huge_of h f in
      let own = huge_ends h f (huge_of h f) refl in
      let here : x * 2 ^ h < n = omega (arith, own.0) in
      elim (dec_le ((x + 1) * 2 ^ h) n) [
        | yes u ↦ held_mark h n reserved f (reserved_marked x here u).marked
        | no u ↦ held_bit h n reserved f (started_past wholes wholes_low (held_entry h n) false x f here (omega (arith, partial_past x (omega arith), own.0)) own.1)
      ]

-- ---- the calls

pub free_all_is_consistent : (h n t : ℕ) (m : Mem) → Huge h → Fits m → (free_all h n t m).answer ≡ 0
    → Consistent h n t (free_all h n t m).left × ((f : ℕ) → f < n → free h n (free_all h n t m).left f ≡ true)
unfolding free_all starts.all_free
free_all_is_consistent h n t m H fits e =
    let d = done (out 0 (starts.all_free h n t m)) (out (sizes_refusal h n t m) m) (λ o. o.answer) refl e in
    let s = sized h n t (lengths_of m) d.0 in
    rw d.1 (freed_consistent H m fits s, λ f l. freed_free H m fits s f (omega arith))

pub reserve_all_is_consistent : (h n t : ℕ) (m : Mem) → Huge h → Fits m → (reserve_all h n t m).answer ≡ 0
    → Consistent h n t (reserve_all h n t m).left × ((f : ℕ) → f < n → free h n (reserve_all h n t m).left f ≡ false)
unfolding reserve_all starts.all_held
reserve_all_is_consistent h n t m H fits e =
    let d = done (out 0 (starts.all_held h n t m)) (out (sizes_refusal h n t m) m) (λ o. o.answer) refl e in
    let s = sized h n t (lengths_of m) d.0 in
    rw d.1 (reserved_consistent H m fits s, λ f l. reserved_held H m fits s f (omega arith))
