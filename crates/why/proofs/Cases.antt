-- One law for each answer of the routines that tell a reason, in the values that the code computes. Assumes nothing.
use mathlib.Core.Path.{◌≡◌, refl, sym, ap}
use mathlib.Core.Bool.{Bool, true, false, not}
use Prim.Native.Nat.{ℕ, ◌+◌, ◌*◌, ◌^◌, ◌≤◌, ◌<◌}
use native.Mathlib.Omega.{arith}
use lib.Dec.{ltb}
use borrow.Author.Tests.{lt-ltb, le-ltb, le-leb, lt-leb}
use Rattle.std.specs.Prelude.{Option, Some, None, Ok}
use Rattle.std.specs.Option.{option_map}
use Rattle.answers.specs.declared.Cause.{Cause}
use Rattle.answers.specs.declared.Cause.TheVariants.{Held}
use Rattle.base.specs.Walk.{pick, first}
use Rattle.base.proofs.Walks.{first_same}
use Rattle.rules.specs.Numbers.{huge_of, group_of}
use Rattle.rules.specs.State.{Mem}
use Rattle.rules.specs.Consistent.{free, held}
use Rattle.rules.specs.Why.{why, unmarked, get_at_reason, put_reason}
use Rattle.rules.specs.Answers.{why_of}
use Rattle.why.specs.Told.{is_open, frame_is, found}
use Rattle.why.proofs.Founds.{found_first, found_none}

-- ---- of a block that ends at or before N

module _ (h n : ℕ) (m : Mem) (f o : ℕ) (ends : f + 2 ^ o ≤ n) where
  -- below N a frame is free exactly if it is open
  free_is : (g : ℕ) → g < f + 2 ^ o → is_open h m g ≡ free h n m g
  free_is g l = rw (lt-ltb g n (omega arith))

  -- a get with a frame: the lowest held frame
  pub get_at_told : {r : Option Cause} → r ≡ option_map Held (found (frame_is true h m) (2 ^ o) f) → why_of (Ok r) ≡ get_at_reason h n m f o
  unfolding get_at_reason
  get_at_told e =
      let same : first (held h n m) (2 ^ o) f ≡ first (frame_is true h m) (2 ^ o) f =
      sym (first_same (frame_is true h m) (held h n m) (2 ^ o) f (λ g _ l. ap not (free_is g l))) in
      rw (e, same) (go (ltb (first (frame_is true h m) (2 ^ o) f) (f + 2 ^ o)) (first (frame_is true h m) (2 ^ o) f))
    where
      go : (b : Bool) (x : ℕ) → why_of (Ok (option_map Held (pick b (Some x) None))) ≡ pick b (why 0 4 x) (why 0 0 0)
      go true x = refl
      go false x = refl

  -- a put: the lowest free frame ..
  first_free : first (free h n m) (2 ^ o) f ≡ first (frame_is false h m) (2 ^ o) f
  first_free = sym (first_same (frame_is false h m) (free h n m) (2 ^ o) f (λ g _ l. free_is g l))

  pub put_free : {x : ℕ} → Some x ≡ found (frame_is false h m) (2 ^ o) f → why 0 5 x ≡ put_reason h n m f o
  unfolding put_reason
  put_free {x} e =
      let (is, below) = found_first (frame_is false h m) (2 ^ o) f e in
      rw (first_free, is, lt-ltb x (f + 2 ^ o) below)

  -- .. or none, and from the huge order up the lowest huge frame that is held singly
  module _ (none : None ≡ found (frame_is false h m) (2 ^ o) f) where
    none_free : ltb (first (free h n m) (2 ^ o) f) (f + 2 ^ o) ≡ false
    none_free = rw first_free (le-ltb (first (frame_is false h m) (2 ^ o) f) (f + 2 ^ o) (found_none (frame_is false h m) (2 ^ o) f none))

    pub put_small : o < h → why 0 0 0 ≡ put_reason h n m f o
    unfolding put_reason
    put_small l = rw (none_free, lt-leb h o l)

    module _ (high : h ≤ o) {at g : ℕ} (at_is : at ≡ huge_of h f) (g_is : g ≡ group_of h o) where
      pub put_single : {x frame : ℕ} → Some x ≡ found (unmarked m.entries) g at → frame ≡ x * 2 ^ h → why 0 6 frame ≡ put_reason h n m f o
      unfolding put_reason
      put_single {x} e frame_is_found =
          let (is, below) = found_first (unmarked m.entries) (group_of h o) (huge_of h f) (rw (at_is, g_is) at e) in
          rw (none_free, le-leb h o high, is, lt-ltb x (huge_of h f + group_of h o) below, frame_is_found)

      pub put_whole : None ≡ found (unmarked m.entries) g at → why 0 0 0 ≡ put_reason h n m f o
      unfolding put_reason
      put_whole e =
          rw (none_free, le-leb h o high, le-ltb _ (huge_of h f + group_of h o) (found_none (unmarked m.entries) (group_of h o) (huge_of h f) (rw (at_is, g_is) at e)))
