-- The answers from the huge order on, case by case, each as the code meets it. Assumes nothing.
use mathlib.Core.Path.{◌≡◌}
use mathlib.Core.Bool.{true, false}
use mathlib.Core.List.{List}
use Prim.Native.Nat.{ℕ, ◌+◌, ◌*◌, ◌/◌, ◌^◌, ◌≤◌, ◌<◌}
use borrow.Author.Tests.{lt-ltb, le-ltb, le-leb, lt-leb}
use Rattle.base.specs.Walk.{first, written}
use Rattle.base.specs.Code.{out}
use Rattle.base.specs.Size.{rows_per}
use Rattle.rules.specs.Numbers.{mark, group_of}
use Rattle.rules.specs.Get.{got, group_at, groups_passed, take_group, get_huge, get_huge_at}
use Rattle.rules.specs.Numbered.{Got}
use Rattle.rules.specs.State.{entries_are}
use Rattle.rules.specs.Put.{put_huge}
use Rattle.rules.specs.Queries.{is_free_huge}

-- ---- a free group

module _ (h n : ℕ) (es : List ℕ) (at g probes : ℕ) where
  -- one that ends at or before n is taken
  pub take_done : (at + g) * 2 ^ h ≤ n → out (got 0 (at * 2 ^ h) probes) (written (λ i. mark) es at g) ≡ take_group h n es at g probes
  unfolding take_group
  take_done l = rw (le-leb ((at + g) * 2 ^ h) n l)

  -- one that ends past n is refused
  pub take_past : n < (at + g) * 2 ^ h → out (got 8 0 probes) es ≡ take_group h n es at g probes
  unfolding take_group
  take_past l = rw (lt-leb ((at + g) * 2 ^ h) n l)

-- ---- a search of c groups that has passed j of them

module _ (h n t : ℕ) (es : List ℕ) (row o g x c j : ℕ) (g_is : g ≡ group_of h o) (x_is : x ≡ row / rows_per h) (c_is : t / g ≡ c)
    (j_is : j ≡ first (λ i. entries_are (2 ^ h) es (group_at t g x i) g) c 0) where
  -- one that found a free group has the answer of that group
  pub get_found : j < c → {answer : Got} {left : List ℕ} → out answer left ≡ take_group h n es (group_at t g x j) g (j + 1) → out answer left ≡ get_huge h n t es row o
  unfolding get_huge groups_passed
  get_found l e = rw (← g_is, ← x_is, c_is, ← j_is, lt-ltb j c l) e

  -- one that found none answers 7
  pub get_none : c ≤ j → out (got 7 0 c) es ≡ get_huge h n t es row o
  unfolding get_huge groups_passed
  get_none l = rw (← g_is, ← x_is, c_is, ← j_is, le-ltb j c l)

-- ---- a group that is chosen by its frame

module _ (h : ℕ) (es : List ℕ) (f o at g : ℕ) (at_is : at ≡ f / 2 ^ h) (g_is : g ≡ group_of h o) where
  -- one that is not held whole is not given back
  pub put_refused : entries_are mark es at g ≡ false → out 7 es ≡ put_huge h es f o
  unfolding put_huge
  put_refused e = rw (rw (at_is, g_is) at e)

  module _ (free : ℕ) (free_is : free ≡ 2 ^ h) where
    -- one that is held whole is given back
    pub put_done : entries_are mark es at g ≡ true → out 0 (written (λ i. free) es at g) ≡ put_huge h es f o
    unfolding put_huge
    put_done e = rw (free_is, at_is, g_is, rw (at_is, g_is) at e)

    -- one that is free is taken
    pub get_at_done : entries_are free es at g ≡ true → out (got 0 f 1) (written (λ i. mark) es at g) ≡ get_huge_at h es f o
    unfolding get_huge_at
    get_at_done e = rw (at_is, g_is, rw (free_is, at_is, g_is) at e)

    -- one that is not free is not taken
    pub get_at_held : entries_are free es at g ≡ false → out (got 7 0 1) es ≡ get_huge_at h es f o
    unfolding get_huge_at
    get_at_held e = rw (rw (free_is, at_is, g_is) at e)

    -- it is free where its entries are
    pub free_by_entries : entries_are free es at g ≡ is_free_huge h es f o
    unfolding is_free_huge
    free_by_entries = rw (free_is, at_is, g_is)
