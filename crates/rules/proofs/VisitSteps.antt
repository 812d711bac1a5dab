-- A visit of one entry, by its cases as the code meets them, and what a visit that answers a block found there. Assumes nothing.
use mathlib.Core.Path.{◌≡◌, refl, sym, ◌∙◌}
use mathlib.Core.Bool.{true, false}
use mathlib.Core.List.{List}
use Prim.Native.Nat.{ℕ, ◌+◌, ◌-◌, ◌*◌, ◌%◌, ◌^◌, ◌≤◌, ◌<◌}
use native.Mathlib.Nat.{add-sub_cancel_left, mul_assoc, mul-le-mul, mul-add-mod_self_right}
use native.Mathlib.Omega.{arith}
use lib.Dec.{eqb, leb, ltb}
use lib.ListN.{take, drop}
use lib.Pow.{pow_pos, high}
use borrow.Author.Tests.{eq-eqb, ne_eqb, lt-ltb, le-ltb, le-leb, lt-leb, eqb-true, leb-true}
use Rattle.base.specs.Size.{Huge, rows_per}
use Rattle.base.specs.Bits.{block_is}
use Rattle.base.proofs.Walks.{pick_case}
use Rattle.base.proofs.Sizes.{first_row, rows_frames, frames_fit, pow_divides}
use Rattle.base.proofs.Frames.{block_of}
use Rattle.base.proofs.Parts.{block_part}
use Rattle.bitfield_rules.specs.Calls.{Placed}
use Rattle.bitfield_rules.specs.Calls.{first_zeros}
use Rattle.bitfield_rules.specs.Means.{FirstClear}
use Rattle.bitfield_rules.proofs.Laws.{search_found}
use Rattle.rules.specs.Numbers.{mark, huge_of}
use Rattle.rules.specs.State.{mem, entry_of, free_of, rows_of}
use Rattle.rules.specs.Numbered.{Visit}
use Rattle.rules.specs.Numbered.{Pass, Damage, Place}
use Rattle.rules.specs.Get.{searched, visit}

-- the rows from a up to a + s, where a is the first row of huge frame x and s how many it has, are its part
pub part_is : (h : ℕ) (rs : List ℕ) (x : ℕ) {a s : ℕ} → a ≡ x * rows_per h → s ≡ rows_per h → take (a + s - a) (drop a rs) ≡ rows_of h rs x
part_is h rs x {a} {s} p q = rw (add-sub_cancel_left a s, p, q)

-- the first frame of a huge frame that a get looks at is far below a word's end
pub first_low : {h : ℕ} → Huge h → (x : ℕ) → x < 1048576 → x * 2 ^ h ≤ 1048576 * 2048
first_low H x l = let m : x ≤ 1048576 = omega arith in mul-le-mul m (frames_fit H)

-- ---- a visit by its cases

module _ (h n : ℕ) (rs es : List ℕ) (row o x : ℕ) where
  -- the mark is skipped
  pub visit_marked : entry_of es x ≡ mark → Pass ≡ visit h n (mem rs es) row o x
  unfolding visit
  visit_marked e = rw (eq-eqb (entry_of es x) mark e, lt-leb (2 ^ o) 0 (pow_pos o))

  module _ (size : ℕ) (size_is : size ≡ 2 ^ o) (no_mark : entry_of es x ≡ mark → ⊥) where
    -- any other entry is its own free count
    counted : free_of (entry_of es x) ≡ entry_of es x
    counted = rw (ne_eqb (entry_of es x) mark no_mark)

    -- and is skipped where that is below the size
    pub visit_few : entry_of es x < size → Pass ≡ visit h n (mem rs es) row o x
    unfolding visit
    visit_few l = rw (counted, ← size_is, lt-leb size (entry_of es x) l)

    -- an eligible entry is damage where its huge frame is absent
    pub visit_absent : size ≤ entry_of es x → (first : ℕ) → first ≡ x * 2 ^ h → n ≤ first → Damage ≡ visit h n (mem rs es) row o x
    unfolding visit
    visit_absent enough first first_is l = rw (counted, ← size_is, le-leb size (entry_of es x) enough, ← first_is, le-ltb first n l)

-- what is known once a present huge frame with an eligible entry is searched
pub record Looked (h n : ℕ) (rs es : List ℕ) (row o x size first : ℕ) (found : Placed) : Type 0 where
  pub size_is : size ≡ 2 ^ o
  pub no_mark : entry_of es x ≡ mark → ⊥
  pub enough : size ≤ entry_of es x
  pub first_is : first ≡ x * 2 ^ h
  pub present : first < n
  pub found_is : found ≡ first_zeros h (rows_of h rs x) row o

module _ {h n : ℕ} {rs es : List ℕ} {row o x size first : ℕ} {found : Placed} (k : Looked h n rs es row o x size first found) where
  -- the visit answers as that search leads to
  visit_searched : {v : Visit} → v ≡ searched h n (entry_of es x) x o found → v ≡ visit h n (mem rs es) row o x
  unfolding visit
  visit_searched e =
      let p : ltb (x * 2 ^ h) n ≡ true = rw (← k.first_is) (lt-ltb first n k.present) in
      let q : leb (2 ^ o) (entry_of es x) ≡ true = rw (← k.size_is) (le-leb size (entry_of es x) k.enough) in
      rw (counted h n rs es row o x size k.size_is k.no_mark, q, p, ← k.found_is) e

  -- ---- a block is found
  module _ (done : found.code ≡ 0) where
    -- one that ends past N is damage
    pub visit_past : n < first + found.place + size → Damage ≡ visit h n (mem rs es) row o x
    visit_past l = visit_searched (rw (eq-eqb found.code 0 done, ← k.first_is, ← k.size_is, lt-leb (first + found.place + size) n l))

    -- any other is the answer
    pub visit_placed : first + found.place + size ≤ n → Place (first + found.place) ≡ visit h n (mem rs es) row o x
    visit_placed l = visit_searched (rw (eq-eqb found.code 0 done, ← k.first_is, ← k.size_is, le-leb (first + found.place + size) n l))

    -- it ends in the huge frame, and so far below a word's end
    pub block_low : Huge h → x < 1048576 → first + found.place + size ≤ 1048576 * 2048 + 2048
    block_low H l =
        let w = (search_found H (rows_of h rs x) row o found.code found.place (sym k.found_is) done).block.ends in
        omega (arith, k.first_is, k.size_is, first_low H x l, frames_fit H)

  -- ---- none is found
  module _ (none : found.code ≡ 0 → ⊥) (full : ℕ) (full_is : full ≡ 2 ^ h) where
    -- a count above what a huge frame has is damage
    pub visit_above : full < entry_of es x → Damage ≡ visit h n (mem rs es) row o x
    visit_above l = visit_searched (rw (ne_eqb found.code 0 none, ← full_is, lt-leb (entry_of es x) full l))

    -- any other is passed
    pub visit_none : entry_of es x ≤ full → Pass ≡ visit h n (mem rs es) row o x
    visit_none l = visit_searched (rw (ne_eqb found.code 0 none, ← full_is, le-leb (entry_of es x) full l))

-- ---- what a visit that answers a block found

-- an entry that counts it, and in that entry's huge frame a clear aligned block that ends within N
pub record Free (h n : ℕ) (rs es : List ℕ) (o x f : ℕ) : Type 0 where
  pub counts : 2 ^ o ≤ entry_of es x
  pub huge : huge_of h f ≡ x
  pub ends : f + 2 ^ o ≤ n
  pub aligned : f % 2 ^ o ≡ 0
  pub clear : block_is false rs f (2 ^ o) ≡ true

module _ {h : ℕ} (H : Huge h) (n : ℕ) (rs es : List ℕ) (row o x f : ℕ) where
  -- from what a search of the huge frame found
  found_free : 2 ^ o ≤ entry_of es x → (p : ℕ) → FirstClear h (rows_of h rs x) row o p → f ≡ x * 2 ^ h + p → f + 2 ^ o ≤ n → Free h n rs es o x f
  found_free l p w at ends =
      let size = pow_pos o in
      let last = w.block.ends in
      record {
        counts = l;
        huge = rw at (high x h (omega arith));
        ends = ends;
        aligned = rw (at, ← pow_divides o h w.block.order, ← mul_assoc) (mul-add-mod_self_right (x * 2 ^ (h - o)) (2 ^ o) p ∙ w.block.aligned);
        clear = rw (at, ← first_row H x) (sym (block_part false rs (x * rows_per h) (rows_per h) p (2 ^ o) (rw (← rows_frames H) last)) ∙ block_of false (rows_of h rs x) p (2 ^ o) w.clear);
      }

  -- an answer that is this block shows it to be free
  IsFree : Visit → Type 0
  IsFree v = v ≡ Place f → Free h n rs es o x f

  -- so does a visit's
  pub visit_free : visit h n (mem rs es) row o x ≡ Place f → Free h n rs es o x f
  unfolding visit IsFree
  visit_free =
      pick_case IsFree (leb (2 ^ o) (free_of e))
      (λ l. pick_case IsFree (ltb (x * 2 ^ h) n)
      (λ _. pick_case IsFree (eqb a.code 0)
      (λ z. pick_case IsFree (leb (x * 2 ^ h + a.place + 2 ^ o) n) (placed l z) (λ _. damaged))
      (λ _. pick_case IsFree (leb e (2 ^ h)) (λ _. passed) (λ _. damaged)))
      (λ _. damaged))
      (λ _. passed)
    where
      e : ℕ
      e = entry_of es x

      a : Placed
      a = first_zeros h (rows_of h rs x) row o

      counts : 2 ^ o ≤ free_of e → 2 ^ o ≤ e
      counts = pick_case (λ (c : ℕ). 2 ^ o ≤ c → 2 ^ o ≤ e) (eqb e mark) (λ _ l. omega (arith, pow_pos o)) (λ _ l. l)

      placed : leb (2 ^ o) (free_of e) ≡ true → eqb a.code 0 ≡ true → leb (x * 2 ^ h + a.place + 2 ^ o) n ≡ true → IsFree (Place (x * 2 ^ h + a.place))
      placed l z k q =
          let at : f ≡ x * 2 ^ h + a.place = cc in
          let found = search_found H (rows_of h rs x) row o a.code a.place refl (eqb-true a.code 0 z) in
          found_free (counts (leb-true (2 ^ o) (free_of e) l)) a.place found at (rw at (leb-true (x * 2 ^ h + a.place + 2 ^ o) n k))

      passed : IsFree Pass
      passed q = absurd (let z : ◌≡◌ {A = ℕ} 0 1 = cc in omega arith)

      damaged : IsFree Damage
      damaged q = absurd (let z : ◌≡◌ {A = ℕ} 0 1 = cc in omega arith)
