-- One tree at a time: what a call on a tree answers and leaves there goes by that tree's rows and entries alone. Assumes nothing.
use mathlib.Core.Path.{◌≡◌, sym, ap, ap₂, ◌∙◌}
use mathlib.Core.Bool.{Bool, false}
use mathlib.Core.List.{List, [], ◌∷◌}
use Prim.Native.Nat.{ℕ, ◌+◌, ◌*◌, ◌/◌, ◌≤◌, ◌<◌}
use native.Mathlib.Nat.{div-mul-le_self}
use native.Mathlib.Omega.{arith}
use lib.Dec.{eqb, ltb}
use lib.ListN.{replicate}
use borrow.Author.Tests.{eqb-true, ltb-true, ltb-false}
use Rattle.base.specs.Walk.{pick}
use Rattle.base.specs.Code.{Out, out, unless, or_else, unrefused}
use Rattle.base.specs.Size.{rows_per}
use Rattle.base.proofs.Walks.{pick_both}
use Rattle.base.proofs.Codes.{none_of, answer_alike}
use Rattle.bitfield_rules.specs.Calls.{answered}
use Rattle.rules.specs.Numbered.{Got}
use Rattle.rules.specs.Numbers.{huge_of, tree_of, group_of}
use Rattle.rules.specs.Refusals.{Blocked, sizes_refusal, block_refusal, start_refusal, frame_refusal}
use Rattle.rules.specs.State.{Mem, lengths_of}
use Rattle.rules.specs.Get.{got, get, get_at}
use Rattle.rules.specs.Queries.{statistics, is_free, stats_at}
use Rattle.rules.proofs.Numbers.{tree_of_huge, tree_by_rows}
use Rattle.rules.proofs.Lent.{sized, sized_passes, blocked, started, framed, block_entries}
use Rattle.rules.proofs.GroupSteps.{group_in_tree}
use Rattle.bitfield_rules.specs.Calls.{Answered}
use Rattle.rules.specs.Put.{put}
use Rattle.rules.specs.Numbered.{Why}
use Rattle.rules.specs.Why.{why, sound, told, why_get, why_get_at, why_put}
use Rattle.rules.specs.Room.{orders, room, tree_run}
use Rattle.rules.specs.Call.{RowCall, BlockCall, FrameCall, AllCall, Call, stats_numbers, got_numbers, why_numbers, called}
use Rattle.rules.specs.OneTree.{On, OneTree}
use Rattle.rules.proofs.OtherTrees.{other_trees}
use Rattle.rules.proofs.TreeParts.{Agreeing, Alike, same_alike, pick_alike}
use Rattle.rules.proofs.TreeSmall.{get_small_alike, get_small_at_alike, put_small_alike, is_free_small_alike}
use Rattle.rules.proofs.TreeHuge.{get_huge_alike, get_huge_at_alike, put_huge_alike, is_free_huge_alike}
use Rattle.rules.proofs.TreeAsks.{at_order_alike, room_alike, run_alike}
use Rattle.rules.proofs.TreeWhys.{sound_alike, get_reason_alike, get_at_reason_alike, put_reason_alike}

module _ {h n t y : ℕ} {a b : Mem} (w : Agreeing h n t y a b) where
  -- a call that is refused by one code, or done below the huge order, or from there on
  done_alike : {A : Type 0} (word : ℕ → A) (o : ℕ) {c d : ℕ} {small small' huge huge' : Out A Mem} → c ≡ d
      → (c ≡ 0 → o < h → Alike h n t y small small') → (c ≡ 0 → h ≤ o → Alike h n t y huge huge')
      → Alike h n t y (unrefused c (word c) a (pick (ltb o h) small huge)) (unrefused d (word d) b (pick (ltb o h) small' huge'))
  done_alike word o {c} e f g =
      rw (← e)
      (pick_alike (eqb c 0)
      (λ q. let z = eqb-true c 0 q in pick_alike (ltb o h) (λ l. f z (ltb-true o h l)) (λ l. g z (ltb-false o h l)))
      (λ _. same_alike w (word c)))

  -- codes after 1 to 3, with which neither is refused
  code_alike : (rest : ℕ) → or_else (sizes_refusal h n t a) rest ≡ or_else (sizes_refusal h n t b) rest
  code_alike rest = ap (λ (c : ℕ). or_else c rest) (sized_passes w.sized ∙ sym (sized_passes w.other))

  -- why a request is turned down, by its refusals and the tree alone
  told_alike : {c d : ℕ} {v z : Why} → c ≡ d → (c ≡ 0 → v ≡ z) → told c (sound h n t a y) v ≡ told d (sound h n t b y) z
  told_alike {c} e f =
      answer_alike (λ k. why k 0 0) (ap₂ (λ (k : ℕ) (s : Bool). or_else k (unless s 8)) e (sound_alike w)) (λ q. f (none_of c (unless (sound h n t a y) 8) q).0)

  -- ---- get without a frame

  module _ (row o : ℕ) (here : tree_of h t (row * 64) ≡ y) where
    start_here : row / rows_per h / t ≡ y
    start_here = sym (tree_by_rows t row w.huge) ∙ here

    start_alike : start_refusal h n t a row o ≡ start_refusal h n t b row o
    start_alike = code_alike _

    get_alike : Alike h n t y (get h n t a row o) (get h n t b row o)
    unfolding get
    get_alike =
        done_alike (λ c. got c 0 0) o start_alike (λ _ _. get_small_alike w row o start_here)
        (λ z l. get_huge_alike w row o start_here l (started h n t _ row o z) (started h n t _ row o (sym start_alike ∙ z)))

    why_get_alike : why_get h n t a row o ≡ why_get h n t b row o
    unfolding why_get
    why_get_alike = rw here (told_alike start_alike (λ z. ap (λ (r : ℕ). why 0 r 0) (get_reason_alike w o (started h n t _ row o z).top)))

  -- ---- calls with a block

  module _ (f o : ℕ) (here : tree_of h t f ≡ y) where
    huge_here : huge_of h f / t ≡ y
    huge_here = sym (tree_of_huge h t f) ∙ here

    group_begins : y * t ≤ huge_of h f
    group_begins = omega (arith, div-mul-le_self (huge_of h f) t, ap (λ (k : ℕ). k * t) huge_here)

    block_alike : block_refusal h n t a f o ≡ block_refusal h n t b f o
    block_alike = code_alike _

    module _ (z : block_refusal h n t a f o ≡ 0) where
      passed : Blocked h n t (lengths_of a) f o
      passed = blocked h n t _ f o z

      other_passed : Blocked h n t (lengths_of b) f o
      other_passed = blocked h n t _ f o (sym block_alike ∙ z)

      group_ends : h ≤ o → huge_of h f + group_of h o ≤ y * t + t
      group_ends l = omega (arith, group_in_tree passed l, ap (λ (k : ℕ). k * t) here)

    get_at_alike : Alike h n t y (get_at h n t a f o) (get_at h n t b f o)
    unfolding get_at
    get_at_alike =
        done_alike (λ c. got c 0 0) o block_alike (λ z l. get_small_at_alike w f o l (passed z).aligned (passed z).ends huge_here)
        (λ z l. get_huge_at_alike w f o group_begins (group_ends z l) (block_entries w.huge (passed z) l) (block_entries w.huge (other_passed z) l))

    put_alike : Alike h n t y (put h n t a f o) (put h n t b f o)
    unfolding put
    put_alike =
        done_alike (λ c. c) o block_alike (λ z l. put_small_alike w f o l (passed z).aligned (passed z).ends huge_here)
        (λ z l. put_huge_alike w f o group_begins (group_ends z l) (block_entries w.huge (passed z) l) (block_entries w.huge (other_passed z) l))

    is_free_alike : is_free h n t a f o ≡ is_free h n t b f o
    unfolding is_free
    is_free_alike =
        answer_alike (λ c. answered c false) block_alike
        (λ z. ap (answered 0)
        (pick_both ◌≡◌ (ltb o h) (λ l. is_free_small_alike w f o (ltb-true o h l) (passed z).aligned (passed z).ends huge_here)
        (λ l. is_free_huge_alike w f o group_begins (group_ends z (ltb-false o h l)))))

    why_get_at_alike : why_get_at h n t a f o ≡ why_get_at h n t b f o
    unfolding why_get_at
    why_get_at_alike = rw here (told_alike block_alike (λ z. get_at_reason_alike w (passed z) here))

    why_put_alike : why_put h n t a f o ≡ why_put h n t b f o
    unfolding why_put
    why_put_alike = rw here (told_alike block_alike (λ z. put_reason_alike w (passed z) here))

  -- ---- queries of a frame

  module _ (f : ℕ) (here : tree_of h t f ≡ y) where
    frame_alike : frame_refusal h n t a f ≡ frame_refusal h n t b f
    frame_alike = code_alike _

    below : frame_refusal h n t a f ≡ 0 → f < n
    below z = (framed h n t _ f z).below

    stats_at_alike : (o : ℕ) → stats_at h n t a f o ≡ stats_at h n t b f o
    unfolding stats_at
    stats_at_alike o = answer_alike (λ c. statistics c 0 0 0) frame_alike (λ z. at_order_alike w f here (below z) o)

    room_call_alike : room h n t a f ≡ room h n t b f
    unfolding room
    room_call_alike = answer_alike (λ c. out c (replicate (orders h) 0)) frame_alike (λ z. ap (out 0) (room_alike w f here (below z)))

    tree_run_alike : tree_run h n t a f ≡ tree_run h n t b f
    unfolding tree_run
    tree_run_alike = answer_alike (λ c. []) frame_alike (λ z. run_alike w f here (below z))

-- ---- all calls on the tree

got_alike : {h n t y : ℕ} {o p : Out Got Mem} → Alike h n t y o p → Alike h n t y (out (got_numbers o.answer) o.left) (out (got_numbers p.answer) p.left)
got_alike k = record { answer = ap got_numbers k.answer; left = k.left }

module _ {h n t y : ℕ} {a b : Mem} (w : Agreeing h n t y a b) where
  called_alike : (c : Call) → On h t y c → Alike h n t y (called h n t a c) (called h n t b c)
  unfolding On called
  called_alike (Call.OnRow RowCall.Get row o) on = got_alike (get_alike w row o on)
  called_alike (Call.OnRow RowCall.WhyGet row o) on = record { answer = ap why_numbers (why_get_alike w row o on); left = w }
  called_alike (Call.OnBlock BlockCall.GetAt f o) on = got_alike (get_at_alike w f o on)
  called_alike (Call.OnBlock BlockCall.Put f o) on = let k = put_alike w f o on in record { answer = ap (λ (c : ℕ). c ∷ []) k.answer; left = k.left }
  called_alike (Call.OnAll AllCall.Recover) on = absurd on
  called_alike (Call.OnBlock BlockCall.IsFree f o) on = record { answer = ap (λ (r : Answered). r.code ∷ pick r.yes 1 0 ∷ []) (is_free_alike w f o on); left = w }
  called_alike (Call.OnBlock BlockCall.WhyGetAt f o) on = record { answer = ap why_numbers (why_get_at_alike w f o on); left = w }
  called_alike (Call.OnBlock BlockCall.WhyPut f o) on = record { answer = ap why_numbers (why_put_alike w f o on); left = w }
  called_alike (Call.OnFrame (FrameCall.StatsAt o) f) on = record { answer = ap stats_numbers (stats_at_alike w f on o); left = w }
  called_alike (Call.OnFrame FrameCall.Room f) on = record { answer = ap (λ (r : Out ℕ (List ℕ)). r.answer ∷ r.left) (room_call_alike w f on); left = w }
  called_alike (Call.OnFrame FrameCall.TreeRun f) on = record { answer = ap₂ (λ (c : ℕ) (es : List ℕ). c ∷ es) (frame_alike w f on) (tree_run_alike w f on); left = w }
  called_alike (Call.OnAll AllCall.Stats) on = absurd on
  called_alike (Call.OnAll AllCall.Audit) on = absurd on

pub tree_alone : OneTree
tree_alone h n t y a b c H s z on g =
    let k = called_alike (record { huge = H; sized = sized h n t _ s; other = sized h n t _ z; agree = g }) c on in
    (k.answer, (k.left.agree, other_trees h n t y a c H on))
