-- Below the huge order, two states that agree on tree y answer alike there and go on agreeing. Assumes nothing.
use mathlib.Core.Path.{◌≡◌, refl, ap, ◌∙◌, subst}
use mathlib.Core.Bool.{Bool, true, false, ◌&&◌}
use mathlib.Core.List.{List}
use Prim.Native.Nat.{ℕ, ◌+◌, ◌-◌, ◌*◌, ◌/◌, ◌%◌, ◌^◌, ◌≤◌, ◌<◌}
use native.Mathlib.Nat.{div-mul-le_self}
use native.Mathlib.Omega.{arith}
use lib.Dec.{eqb, leb, ltb}
use lib.Pow.{pow_pos}
use borrow.Author.Tests.{ltb-true}
use Rattle.base.specs.Walk.{pick}
use Rattle.base.specs.Size.{rows_per}
use Rattle.base.specs.Bits.{block_is}
use Rattle.base.proofs.Walks.{pick_both, first_same}
use Rattle.bitfield_rules.specs.Calls.{first_zeros}
use Rattle.rules.specs.Numbers.{mark, huge_of}
use Rattle.rules.specs.State.{Mem, entry_of, free_of}
use Rattle.rules.specs.Get.{got, searched, visit, stops, entry_at, visits_passed, ended, get_small, get_small_at}
use Rattle.rules.proofs.Numbers.{tree_pos}
use Rattle.rules.proofs.Present.{block_within}
use Rattle.rules.specs.Numbered.{Visit}
use Rattle.rules.specs.Numbered.{Pass, Damage, Place}
use Rattle.rules.specs.Put.{put_marked, put_counted, put_small}
use Rattle.rules.specs.Queries.{is_free_small}
use Rattle.rules.proofs.VisitSteps.{visit_free}
use Rattle.rules.proofs.Rings.{visited_ring}
use Rattle.rules.proofs.TreeParts.{Agreeing, block_alike, part_alike, rows_written, block_written, Alike, same_alike, pick_alike}

module _ {h n t y : ℕ} {a b : Mem} (w : Agreeing h n t y a b) where
  -- ---- get without a frame

  visit_alike : (row o x : ℕ) → x / t ≡ y → visit h n a row o x ≡ visit h n b row o x
  unfolding visit
  visit_alike row o x here =
      rw (← w.agree.entries x here)
      (ap (λ (v : Visit). pick (leb (2 ^ o) (free_of (entry_of a.entries x))) v Pass)
      (pick_both ◌≡◌ (ltb (x * 2 ^ h) n)
      (λ l. ap (λ (rs : List ℕ). searched h n (entry_of a.entries x) x o (first_zeros h rs row o)) (part_alike w x here (ltb-true (x * 2 ^ h) n l)))
      (λ _. refl)))

  ended_alike : (row o p x : ℕ) → x / t ≡ y → (v : Visit) → visit h n a row o x ≡ v → Alike h n t y (ended h a o p v) (ended h b o p v)
  ended_alike row o p x here Pass e = same_alike w (got 7 0 p)
  ended_alike row o p x here Damage e = same_alike w (got 8 0 p)
  ended_alike row o p x here (Place f) e =
      let k = visit_free w.huge n a.rows a.entries row o x f e in
      record {
        answer = refl;
        left =
            rw (← w.agree.entries (huge_of h f) (rw k.huge here))
            (block_written w true f (f + 2 ^ o) (entry_of a.entries (huge_of h f) - 2 ^ o) (omega (arith, k.ends, pow_pos o)));
      }

  module _ (row o : ℕ) (here : row / rows_per h / t ≡ y) where
    visited_here : (j : ℕ) → entry_at t (row / rows_per h) j / t ≡ y
    visited_here j = visited_ring t (row / rows_per h) (tree_pos t w.sized.tree) j ∙ here

    passed_alike : visits_passed h n t a row o ≡ visits_passed h n t b row o
    unfolding visits_passed
    passed_alike = first_same _ _ t 0 (λ j _ _. ap stops (visit_alike row o (entry_at t (row / rows_per h) j) (visited_here j)))

    pub get_small_alike : Alike h n t y (get_small h n t a row o) (get_small h n t b row o)
    unfolding get_small
    get_small_alike =
        let p = visits_passed h n t a row o in
        let x = entry_at t (row / rows_per h) p in
        rw (← passed_alike, ← visit_alike row o x (visited_here p))
        (pick_alike (ltb p t) (λ _. ended_alike row o (p + 1) x (visited_here p) (visit h n a row o x) refl) (λ _. same_alike w (got 7 0 t)))

  -- ---- a block that passed the refusals

  module _ (f o : ℕ) (low : o < h) (even : f % 2 ^ o ≡ 0) (ends : f + 2 ^ o ≤ n) (here : huge_of h f / t ≡ y) where
    -- it begins below N
    below : f < n
    below = omega (arith, pow_pos o)

    -- and so does its huge frame
    present : huge_of h f * 2 ^ h < n
    present = omega (arith, below, div-mul-le_self f (2 ^ h))

    entry_here : entry_of a.entries (huge_of h f) ≡ entry_of b.entries (huge_of h f)
    entry_here = w.agree.entries (huge_of h f) here

    bits_alike : (c : Bool) → block_is c a.rows f (2 ^ o) ≡ block_is c b.rows f (2 ^ o)
    bits_alike c =
        block_alike w (huge_of h f) here present c f (2 ^ o) (div-mul-le_self f (2 ^ h)) (omega (arith, block_within f o low even))

    pub get_small_at_alike : Alike h n t y (get_small_at h a f o) (get_small_at h b f o)
    unfolding get_small_at
    get_small_at_alike =
        let e = entry_of a.entries (huge_of h f) in
        rw (← entry_here, ← bits_alike false)
        (pick_alike (leb (2 ^ o) (free_of e))
        (λ _. pick_alike (block_is false a.rows f (2 ^ o))
        (λ _. record { answer = refl; left = block_written w true f (f + 2 ^ o) (e - 2 ^ o) below })
        (λ _. same_alike w (got (pick (leb e (2 ^ h)) 7 8) 0 1)))
        (λ _. same_alike w (got 7 0 1)))

    put_marked_alike : Alike h n t y (put_marked h a f o) (put_marked h b f o)
    unfolding put_marked
    put_marked_alike =
        let g = huge_of h f * 2 ^ h in
        rw (← block_alike w (huge_of h f) here present false g (2 ^ h) (omega arith) (omega arith))
        (pick_alike (block_is false a.rows g (2 ^ h))
        (λ _. record { answer = refl; left = block_written (rows_written w true g (g + 2 ^ h)) false f (f + 2 ^ o) (2 ^ o) below })
        (λ _. same_alike w 8))

    put_counted_alike : Alike h n t y (put_counted h a f o) (put_counted h b f o)
    unfolding put_counted
    put_counted_alike =
        let e = entry_of a.entries (huge_of h f) in
        rw (← entry_here, ← bits_alike true)
        (pick_alike (leb e (2 ^ h - 2 ^ o) && block_is true a.rows f (2 ^ o))
        (λ _. record { answer = refl; left = block_written w false f (f + 2 ^ o) (e + 2 ^ o) below })
        (λ _. same_alike w 7))

    pub put_small_alike : Alike h n t y (put_small h a f o) (put_small h b f o)
    unfolding put_small
    put_small_alike =
        subst (λ (v : ℕ). Alike h n t y (put_small h a f o) (pick (eqb v mark) (put_marked h b f o) (put_counted h b f o))) entry_here
        (pick_alike (eqb (entry_of a.entries (huge_of h f)) mark) (λ _. put_marked_alike) (λ _. put_counted_alike))

    pub is_free_small_alike : is_free_small h a f o ≡ is_free_small h b f o
    unfolding is_free_small
    is_free_small_alike = rw (entry_here, bits_alike false)
