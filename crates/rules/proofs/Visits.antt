-- A get's visit of one entry of a consistent tree, below the huge order: it passes an entry of which no block is free, or answers the first that is. Assumes nothing.
use mathlib.Core.Path.{◌≡◌, refl, sym, ap, ◌∙◌, subst, subst₂}
use mathlib.Core.Bool.{true, false, not, not-eq-not, true≢false}
use mathlib.Core.List.{List}
use mathlib.Core.Logic.{⊎_elim}
use Prim.Native.Nat.{ℕ, ◌+◌, ◌-◌, ◌*◌, ◌/◌, ◌%◌, ◌^◌, ◌≤◌, ◌<◌}
use native.Mathlib.Decide.{dec_lt, ℕ_discrete}
use native.Mathlib.Nat.{mod-mod, div-add-mod', div-mul-le_self}
use native.Mathlib.Omega.{arith}
use lib.ListN.{length}
use lib.Arith.{digits_mod}
use lib.Pow.{pow_pos}
use Rattle.base.specs.Walk.{all}
use Rattle.base.specs.Size.{Huge, rows_per}
use Rattle.base.specs.Bits.{bit_is, block_is}
use Rattle.base.proofs.Sizes.{rows_frames, first_row}
use Rattle.base.proofs.Rests.{mod_sum}
use Rattle.base.proofs.Parts.{part_long, bit_part, block_part}
use Rattle.base.proofs.Frames.{block_each, set_not_clear}
use Rattle.bitfield_rules.specs.Calls.{Placed}
use Rattle.bitfield_rules.specs.Calls.{distance, first_zeros}
use Rattle.bitfield_rules.specs.Means.{FirstClear}
use Rattle.bitfield_rules.proofs.Laws.{search_found, search_missed, search_code}
use Rattle.bitfield_rules.proofs.Order.{origin_block}
use Rattle.rules.specs.Numbers.{mark, huge_of, block_at, entries_needed}
use Rattle.rules.specs.State.{Mem, entry_of, rows_of}
use Rattle.rules.proofs.Lent.{present_rows}
use Rattle.rules.specs.Numbered.{Visit}
use Rattle.rules.specs.Numbered.{Pass, Damage, Place}
use Rattle.rules.specs.Get.{visit}
use Rattle.rules.proofs.BlockTurns.{placed_within}
use Rattle.rules.proofs.VisitSteps.{Looked, visit_marked, visit_few, visit_placed, visit_none, visit_free}
use Rattle.rules.specs.Consistent.{ByMark, ByCount, ConsistentIn, free}
use Rattle.rules.specs.Exact.{steps_to}
use Rattle.rules.proofs.Frees.{no_mark}
use Rattle.rules.proofs.Blocks.{block_marked, block_free, block_counts}

-- an aligned block of huge frame x that ends at or before N
pub record BlockOf (h n o x f : ℕ) : Type 0 where
  pub huge : huge_of h f ≡ x
  pub aligned : f % 2 ^ o ≡ 0
  pub ends : f + 2 ^ o ≤ n

-- when its turn comes among the blocks of its huge frame
abbrev pub turn_in : ℕ → ℕ → ℕ → ℕ → ℕ
turn_in h row o f = steps_to (2 ^ h) (block_at o (row * 64)) f

-- no block of huge frame x is free
abbrev pub NoneOf : ℕ → ℕ → Mem → ℕ → ℕ → Type 0
NoneOf h n m o x = (f : ℕ) → BlockOf h n o x f → all (free h n m) (2 ^ o) f ≡ false

-- the block at a is free, and none of huge frame x before it is
pub record FirstOf (h n : ℕ) (m : Mem) (row o x a : ℕ) : Type 0 where
  pub block : BlockOf h n o x a
  pub counted : entry_of m.entries x ≡ mark → ⊥
  pub clear : block_is false m.rows a (2 ^ o) ≡ true
  pub first : (f : ℕ) → BlockOf h n o x f → turn_in h row o f < turn_in h row o a → all (free h n m) (2 ^ o) f ≡ false

-- what a visit of x says
unfoldable pub Says : ℕ → ℕ → Mem → ℕ → ℕ → ℕ → Visit → Type 0
Says h n m row o x Pass = NoneOf h n m o x
Says h n m row o x Damage = ⊥
Says h n m row o x (Place a) = FirstOf h n m row o x a

-- ---- a search of one huge frame's rows

-- a search looks at the places of a huge frame in the order of the blocks' turns
distance_turn : {h : ℕ} → Huge h → (row o f : ℕ) → o ≤ h → distance h row o (f % 2 ^ h) ≡ turn_in h row o f
distance_turn {h} H row o f l =
    let s = block_at o (row * 64) in
    rw (origin_block H row o l, mod-mod s (2 ^ h)) (mod_sum f (2 ^ h - s % 2 ^ h) (2 ^ h))

module _ {h n t : ℕ} {m : Mem} {y : ℕ} (H : Huge h) (c : ConsistentIn h n t m y) (row o : ℕ) (low : o < h) (x : ℕ) (own : x / t ≡ y) where
  -- ---- an entry that is a count
  module _ (here : x * 2 ^ h < n) (k : ByCount h n m x) where
    -- the rows that are searched, and the answer
    abbrev part : List ℕ
    part = rows_of h m.rows x

    abbrev found : Placed
    found = first_zeros h part row o

    most : o ≤ h
    most = omega arith

    long : length part ≡ rows_per h
    long = part_long m.rows (x * rows_per h) (rows_per h) (omega (arith, present_rows H c.sized x here))

    -- a block that is free has clear bits
    free_clear : (f : ℕ) → BlockOf h n o x f → all (free h n m) (2 ^ o) f ≡ true → block_is false m.rows f (2 ^ o) ≡ true
    free_clear f b e = sym (block_free c f o low b.aligned b.ends (rw b.huge (no_mark H k))) ∙ e

    -- so the entry counts them
    free_counts : (f : ℕ) → BlockOf h n o x f → all (free h n m) (2 ^ o) f ≡ true → 2 ^ o ≤ entry_of m.entries x
    free_counts f b e =
        subst (λ (z : ℕ). 2 ^ o ≤ entry_of m.entries z) b.huge (block_counts c f o low b.aligned b.ends (rw b.huge (no_mark H k)) (rw b.huge own) (free_clear f b e))

    -- and its bits in the rows that are searched are clear
    part_clear : (f : ℕ) → BlockOf h n o x f → all (free h n m) (2 ^ o) f ≡ true → (g : ℕ) → f % 2 ^ h ≤ g → g < f % 2 ^ h + 2 ^ o → bit_is false part g ≡ true
    part_clear f b e =
        let ends = (placed_within f o most b.aligned).ends in
        let at : x * rows_per h * 64 + f % 2 ^ h ≡ f = rw (first_row H x, ← b.huge) (div-add-mod' f (2 ^ h)) in
        block_each false (rows_of h m.rows x) (f % 2 ^ h) (2 ^ o)
        (block_part false m.rows (x * rows_per h) (rows_per h) (f % 2 ^ h) (2 ^ o) (rw (← rows_frames H) ends) ∙ rw at (free_clear f b e))

    -- a block that is found ends at or before N, as all bits from there on are set
    found_ends : FirstClear h part row o found.place → x * 2 ^ h + found.place + 2 ^ o ≤ n
    found_ends w = elim (dec_lt n (x * 2 ^ h + found.place + 2 ^ o)) [
      | no l ↦ omega arith
      | yes l ↦
          let g = found.place + (2 ^ o - 1) in
          let last : x * rows_per h * 64 + (found.place + (2 ^ o - 1)) ≡ x * 2 ^ h + (found.place + (2 ^ o - 1)) = omega (arith, first_row H x) in
          let size = pow_pos o in
          let ends = w.block.ends in
          let clear : bit_is false m.rows (x * 2 ^ h + g) ≡ true =
          ap (bit_is false m.rows) (sym last) ∙ sym (bit_part false m.rows (x * rows_per h) (rows_per h) g (rw (← rows_frames H) (omega arith))) ∙ w.clear g (omega arith) (omega arith) in
          absurd (true≢false (sym (k.past (x * 2 ^ h + g) (omega arith) (omega arith)) ∙ set_not_clear m.rows (x * 2 ^ h + g) ∙ ap not clear))
    ]

    -- what is known once they are searched
    looked : 2 ^ o ≤ entry_of m.entries x → Looked h n m.rows m.entries row o x (2 ^ o) (x * 2 ^ h) found
    looked enough = record { size_is = refl; no_mark = no_mark H k; enough = enough; first_is = refl; present = here; found_is = refl }

    module _ (enough : 2 ^ o ≤ entry_of m.entries x) where
      -- a block that is found is the visit's answer
      found_first : found.code ≡ 0 → Says h n m row o x (visit h n m row o x)
      unfolding Says
      found_first z =
          let a = x * 2 ^ h + found.place in
          let w = search_found H part row o found.code found.place refl z in
          let is = visit_placed (looked enough) z (found_ends w) in
          let it = visit_free H n m.rows m.entries row o x a (sym is) in
          let place : found.place < 2 ^ h = omega (arith, w.block.ends, pow_pos o) in
          let far : distance h row o found.place ≡ turn_in h row o a = ap (distance h row o) (sym (digits_mod x place)) ∙ distance_turn H row o a most in
          subst (Says h n m row o x) is (record {
            block = record { huge = it.huge; aligned = it.aligned; ends = it.ends };
            counted = no_mark H k;
            clear = it.clear;
            first = λ f b less. (not-eq-not {b = false}).0 (λ e.
                let v = placed_within f o most b.aligned in
                w.least (f % 2 ^ h) v.aligned v.ends (subst₂ (λ (p q : ℕ). p < q) (sym (distance_turn H row o f most)) (sym far) less) (part_clear f b e));
          })

      -- where none is found, the visit passes
      found_none : (found.code ≡ 0 → ⊥) → Says h n m row o x (visit h n m row o x)
      unfolding Says
      found_none none =
          subst (Says h n m row o x) (visit_none (looked enough) none (2 ^ h) refl k.most)
          (λ f b. (not-eq-not {b = false}).0 (λ e.
          let w = placed_within f o most b.aligned in
          search_missed H part row o found.code found.place refl (search_code h part row o long most none) (f % 2 ^ h) w.aligned w.ends (part_clear f b e)))

    -- a count that is too low has no block
    counted_says : Says h n m row o x (visit h n m row o x)
    unfolding Says
    counted_says = elim (dec_lt (entry_of m.entries x) (2 ^ o)) [
      | yes few ↦
          subst (Says h n m row o x) (visit_few h n m.rows m.entries row o x (2 ^ o) refl (no_mark H k) few)
          (λ f b. (not-eq-not {b = false}).0 (λ e. omega (arith, few, free_counts f b e)))
      | no l ↦ let enough : 2 ^ o ≤ entry_of m.entries x = omega arith in elim (ℕ_discrete found.code 0) [ yes z ↦ found_first enough z | no z ↦ found_none enough z ]
    ]

  -- ---- the mark, and an absent entry
  marked_says : ByMark h n m x → Says h n m row o x (visit h n m row o x)
  unfolding Says
  marked_says k =
      subst (Says h n m row o x) (visit_marked h n m.rows m.entries row o x k.marked)
      (λ f b. block_marked c f o low b.aligned b.ends (rw b.huge k.marked))

  absent_says : n ≤ x * 2 ^ h → entry_of m.entries x ≡ 0 → Says h n m row o x (visit h n m row o x)
  unfolding Says
  absent_says past zero =
      subst (Says h n m row o x) (visit_few h n m.rows m.entries row o x (2 ^ o) refl (λ q. omega arith) (omega (arith, pow_pos o)))
      (λ f b. absurd (omega (arith, b.ends, pow_pos o, rw b.huge at (div-mul-le_self f (2 ^ h)))))

  -- a visit of an entry that N and T need says which of its blocks are free
  pub visit_says : x < entries_needed h n t → Says h n m row o x (visit h n m row o x)
  visit_says needed = elim (dec_lt (x * 2 ^ h) n) [
    | yes here ↦ ⊎_elim marked_says (counted_says here) (c.present x own here)
    | no l ↦ let past : n ≤ x * 2 ^ h = omega arith in absent_says past (c.absent x own past needed)
  ]
