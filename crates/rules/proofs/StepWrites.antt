-- What a get or a put that is done writes, on any memory, in bits and entries. Assumes nothing.
use mathlib.Core.Path.{◌≡◌, refl}
use mathlib.Core.Bool.{true, false, ◌&&◌}
use mathlib.Core.List.{List}
use Prim.Native.Nat.{ℕ, ◌+◌, ◌-◌, ◌*◌, ◌/◌, ◌^◌, ◌≤◌, ◌<◌}
use native.Mathlib.Nat.{mul-div_cancel}
use native.Mathlib.Omega.{arith}
use lib.Dec.{eqb, leb, ltb}
use lib.Pow.{pow_pos}
use borrow.Author.Tests.{eqb-true, eqb-false, leb-true, ltb-true, ltb-false}
use Rattle.base.specs.Code.{Out}
use Rattle.base.specs.Size.{Huge, rows_per}
use Rattle.base.specs.Bits.{block_is}
use Rattle.base.proofs.Walks.{pick_case}
use Rattle.rules.specs.Numbered.{Got}
use Rattle.rules.specs.Numbered.{Visit}
use Rattle.rules.specs.Numbered.{Pass, Damage, Place}
use Rattle.rules.specs.Numbers.{mark, huge_of, group_of}
use Rattle.rules.specs.State.{Mem, on_entries, lengths_of, entry_of, free_of, entries_are}
use Rattle.rules.specs.Refusals.{Sized, block_refusal, start_refusal}
use Rattle.rules.specs.Get.{visit, entry_at, visits_passed, ended, group_at, groups_passed, take_group, get_small, get_huge, get_small_at, get_huge_at, get, get_at}
use Rattle.rules.specs.Put.{put_marked, put_counted, put_small, put_huge, put}
use Rattle.rules.specs.Steps.{BitsTaken, BitsGiven}
use Rattle.rules.proofs.Lent.{started, blocked}
use Rattle.rules.proofs.GroupSteps.{group_frames}
use Rattle.rules.proofs.VisitSteps.{visit_free}
use Rattle.rules.proofs.BlockWrites.{block_taken, group_taken, block_given, part_given, group_given}

-- ---- get without a frame

module _ {h : ℕ} (H : Huge h) (n t : ℕ) (m : Mem) (row o : ℕ) where
  abbrev Takes : Out Got Mem → Type 0
  Takes r = r.answer.code ≡ 0 → BitsTaken h m r.left r.answer.frame o

  module _ (s : Sized h n t (lengths_of m)) where
    ended_takes : o < h → (y p : ℕ) (v : Visit) → visit h n m row o y ≡ v → Takes (ended h m o p v)
    ended_takes l y p Pass e z = absurd (omega arith)
    ended_takes l y p Damage e z = absurd (omega arith)
    ended_takes l y p (Place f) e z = block_taken H m s f o (visit_free H n m.rows m.entries row o y f e).ends l

    small_takes : o < h → Takes (get_small h n t m row o)
    unfolding get_small
    small_takes l =
        let j = visits_passed h n t m row o in
        let y = entry_at t (row / rows_per h) j in
        pick_case Takes (ltb j t) (λ _. ended_takes l y (j + 1) (visit h n m row o y) refl) (λ _ z. absurd (omega arith))

    huge_takes : h ≤ o → Takes (on_entries m (get_huge h n t m.entries row o))
    unfolding get_huge take_group
    huge_takes l =
        let g = group_of h o in
        let j = groups_passed h m.entries t g (row / rows_per h) in
        let at = group_at t g (row / rows_per h) j in
        pick_case (λ (r : Out Got (List ℕ)). Takes (on_entries m r)) (ltb j (t / g))
        (λ _. pick_case (λ (r : Out Got (List ℕ)). Takes (on_entries m r)) (leb ((at + g) * 2 ^ h) n)
        (λ b _.
        let ends : at * 2 ^ h + 2 ^ o ≤ n = omega (arith, leb-true ((at + g) * 2 ^ h) n b, group_frames h at o l) in
        rw (mul-div_cancel at (pow_pos h)) at (group_taken H m s (at * 2 ^ h) o ends l))
        (λ _ z. absurd (omega arith)))
        (λ _ z. absurd (omega arith))

  pub get_takes : Takes (get h n t m row o)
  unfolding get
  get_takes =
      pick_case Takes (eqb (start_refusal h n t m row o) 0)
      (λ p. let s = (started h n t _ row o (eqb-true _ 0 p)).sized in
      pick_case Takes (ltb o h) (λ l. small_takes s (ltb-true o h l)) (λ l. huge_takes s (ltb-false o h l)))
      (λ p z. absurd (eqb-false _ 0 p z))

-- ---- get with a frame, and put

module _ {h : ℕ} (H : Huge h) (n t : ℕ) (m : Mem) (a o : ℕ) where
  abbrev TakesAt : Out Got Mem → Type 0
  TakesAt r = r.answer.code ≡ 0 → BitsTaken h m r.left a o

  abbrev Gives : Out ℕ Mem → Type 0
  Gives r = r.answer ≡ 0 → BitsGiven h m r.left a o

  module _ (s : Sized h n t (lengths_of m)) (ends : a + 2 ^ o ≤ n) where
    small_takes_at : o < h → TakesAt (get_small_at h m a o)
    unfolding get_small_at
    small_takes_at l =
        let e = entry_of m.entries (huge_of h a) in
        pick_case TakesAt (leb (2 ^ o) (free_of e))
        (λ _. pick_case TakesAt (block_is false m.rows a (2 ^ o)) (λ _ _. block_taken H m s a o ends l)
        (λ _. pick_case (λ (k : ℕ). k ≡ 0 → BitsTaken h m m a o) (leb e (2 ^ h)) (λ _ z. absurd (omega arith)) (λ _ z. absurd (omega arith))))
        (λ _ z. absurd (omega arith))

    huge_takes_at : h ≤ o → TakesAt (on_entries m (get_huge_at h m.entries a o))
    unfolding get_huge_at
    huge_takes_at l =
        pick_case (λ (r : Out Got (List ℕ)). TakesAt (on_entries m r)) (entries_are (2 ^ h) m.entries (huge_of h a) (group_of h o))
        (λ _ _. group_taken H m s a o ends l) (λ _ z. absurd (omega arith))

    small_gives : o < h → Gives (put_small h m a o)
    unfolding put_small put_marked put_counted
    small_gives l =
        let e = entry_of m.entries (huge_of h a) in
        pick_case Gives (eqb e mark)
        (λ k. pick_case Gives (block_is false m.rows (huge_of h a * 2 ^ h) (2 ^ h)) (λ _ _. part_given H m s a o ends l k) (λ _ z. absurd (omega arith)))
        (λ k. pick_case Gives (leb e (2 ^ h - 2 ^ o) && block_is true m.rows a (2 ^ o)) (λ _ _. block_given H m s a o ends l k) (λ _ z. absurd (omega arith)))

    huge_gives : h ≤ o → Gives (on_entries m (put_huge h m.entries a o))
    unfolding put_huge
    huge_gives l =
        pick_case (λ (r : Out ℕ (List ℕ)). Gives (on_entries m r)) (entries_are mark m.entries (huge_of h a) (group_of h o))
        (λ _ _. group_given H m s a o ends l) (λ _ z. absurd (omega arith))

  pub get_at_takes : TakesAt (get_at h n t m a o)
  unfolding get_at
  get_at_takes =
      pick_case TakesAt (eqb (block_refusal h n t m a o) 0)
      (λ p. let b = blocked h n t _ a o (eqb-true _ 0 p) in
      pick_case TakesAt (ltb o h) (λ l. small_takes_at b.sized b.ends (ltb-true o h l)) (λ l. huge_takes_at b.sized b.ends (ltb-false o h l)))
      (λ p z. absurd (eqb-false _ 0 p z))

  pub put_gives : Gives (put h n t m a o)
  unfolding put
  put_gives =
      pick_case Gives (eqb (block_refusal h n t m a o) 0)
      (λ p. let b = blocked h n t _ a o (eqb-true _ 0 p) in
      pick_case Gives (ltb o h) (λ l. small_gives b.sized b.ends (ltb-true o h l)) (λ l. huge_gives b.sized b.ends (ltb-false o h l)))
      (λ p z. absurd (eqb-false _ 0 p z))
