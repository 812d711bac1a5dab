-- Each refusal number is given exactly when the document says, and a refused call writes nothing. Assumes nothing.
use mathlib.Core.Path.{◌≡◌, refl, sym, ap, ap₂, ◌∙◌}
use mathlib.Core.Bool.{Bool, true, false, not, ◌&&◌, ◌||◌}
use mathlib.Core.List.{List, [], ◌∷◌}
use Prim.Native.Nat.{ℕ, zero, suc, ◌+◌, ◌*◌, ◌^◌}
use native.Mathlib.Omega.{arith}
use lib.Dec.{eqb, leb, ltb}
use lib.ListN.{length, get_or}
use borrow.Author.Tests.{ne_eqb, eqb-true, lt-ltb}
use Rattle.base.specs.Walk.{pick, first}
use Rattle.base.specs.Code.{Out, out, unless, or_else, stored}
use Rattle.base.specs.Size.{Huge}
use Rattle.base.proofs.Walks.{pick_case, pick_of, pick_both}
use Rattle.base.proofs.Tests.{not_leb, not_ltb, not_both}
use Rattle.base.proofs.Codes.{stops, regrouped, or_none}
use Rattle.base.proofs.Stored.{if_refused}
use Rattle.rules.specs.Numbered.{Got}
use Rattle.rules.specs.Numbered.{Stats}
use Rattle.rules.specs.Numbers.{mark, huge_of, tree_of, is_tree, top_order, group_of, aligned, rows_needed, entries_needed}
use Rattle.rules.specs.Refusals.{frames_code, tree_code, sizes_refusal, block_refusal, start_refusal, frame_refusal}
use Rattle.rules.specs.State.{Mem, entry_of}
use Rattle.rules.specs.Starts as starts
use Rattle.rules.specs.Queries.{stats_all, at_order, is_free, stats, stats_at}
use Rattle.bitfield_rules.specs.Calls.{Answered}
use Rattle.rules.specs.Starts.{free_all, reserve_all}
use Rattle.rules.specs.Put.{put}
use Rattle.rules.specs.Get.{get, get_at}
use Rattle.rules.specs.Numbered.{Fault}
use Rattle.rules.specs.Audit.{faultless, audit_all, audit}
use Rattle.rules.specs.Numbered.{Recovered}
use Rattle.rules.specs.Recover.{recoverable, recover_all, recover}
use Rattle.rules.specs.Room.{room, tree_run}
use Rattle.rules.specs.Numbered.{Why}
use Rattle.rules.specs.Consistent.{free, held}
use Rattle.rules.specs.Why.{why, sound, told, get_reason, get_at_reason, put_reason, why_get, why_get_at, why_put}
use Rattle.rules.specs.Call.{RowCall, BlockCall, FrameCall, AllCall, Call, got_numbers, stats_numbers, why_numbers, called, code, left}
use Rattle.rules.specs.Keeps.{number_of, tested, own, fields, Bare}
use Rattle.rules.specs.Steps.{steps}
use Rattle.rules.proofs.Steps.{get_steps_lem, get_at_steps, put_steps}
use Rattle.rules.proofs.Leaves.{Leaves, refused, asked, got_block, got_group, took_block, took_group, gave_block, gave_part, gave_group, recovered, leaves}

-- ---- what a test refuses

frames_refused : (n : ℕ) → not (ltb 0 n && leb n 1048576) ≡ (eqb n 0 || ltb 1048576 n)
frames_refused n = not_both (ltb 0 n) (leb n 1048576) ∙ rw (not_leb n 1048576) (ap (λ (b : Bool). b || ltb 1048576 n) (none n))
  where
    none : (n : ℕ) → not (ltb 0 n) ≡ eqb n 0
    none zero = refl
    none (suc n) = rw (lt-ltb 0 (suc n) (omega arith), ne_eqb (suc n) 0 (λ z. omega arith))

-- ---- codes in their order

-- a code and those after it are the number of the first test that holds
numbered : (k : ℕ) (a : Bool) {b : Bool} (bs : List Bool) {rest : ℕ} → not a ≡ b → rest ≡ number_of (suc (suc k)) bs
    → or_else (unless a (suc k)) rest ≡ number_of (suc k) (b ∷ bs)
unfolding number_of or_else
numbered k true bs q e = rw (← q) e
numbered k false bs q e = rw (← q, ne_eqb (suc k) 0 (λ z. omega arith))

-- the last one
last : (k : ℕ) (a : Bool) {b : Bool} → not a ≡ b → unless a (suc k) ≡ number_of (suc k) (b ∷ [])
unfolding number_of
last k true q = rw (← q)
last k false q = rw (← q)

module _ (h n t : ℕ) (m : Mem) where
  abbrev lent : Bool
  lent = leb (rows_needed h n) (length m.rows) && leb (entries_needed h n t) (length m.entries)

  lent_refused : not lent ≡ (ltb (length m.rows) (rows_needed h n) || ltb (length m.entries) (entries_needed h n t))
  lent_refused = rw (← not_leb (rows_needed h n) (length m.rows), ← not_leb (entries_needed h n t) (length m.entries))
      (not_both (leb (rows_needed h n) (length m.rows)) (leb (entries_needed h n t) (length m.entries)))

  -- 1, 2 and 3, and what follows them
  pub sizes_then : (bs : List Bool) {rest : ℕ} → rest ≡ number_of 4 bs → or_else (sizes_refusal h n t m) rest ≡ tested h n t m bs
  sizes_then bs {rest} e =
      regrouped (frames_code n) _ rest ∙ ap (or_else (frames_code n)) (regrouped (tree_code t) _ rest)
      ∙ numbered 0 (ltb 0 n && leb n 1048576) _ (frames_refused n) (numbered 1 (is_tree t) _ refl (numbered 2 lent bs lent_refused e))

  sizes_tested : sizes_refusal h n t m ≡ tested h n t m []
  unfolding number_of
  sizes_tested = sym (or_none (sizes_refusal h n t m)) ∙ sizes_then [] refl

  pub block_tested : (f o : ℕ) → block_refusal h n t m f o ≡ tested h n t m (ltb (top_order h t) o ∷ ltb n (f + 2 ^ o) ∷ not (aligned f o) ∷ [])
  block_tested f o =
      sizes_then _
      (numbered 3 (leb o (top_order h t)) _ (not_leb o (top_order h t)) (numbered 4 (leb (f + 2 ^ o) n) _ (not_leb (f + 2 ^ o) n) (last 5 (aligned f o) refl)))

  pub start_tested : (row o : ℕ) → start_refusal h n t m row o ≡ tested h n t m (ltb (top_order h t) o ∷ leb n (row * 64) ∷ [])
  start_tested row o = sizes_then _ (numbered 3 (leb o (top_order h t)) _ (not_leb o (top_order h t)) (last 4 (ltb (row * 64) n) (not_ltb (row * 64) n)))

  pub frame_tested : (f : ℕ) → frame_refusal h n t m f ≡ tested h n t m (false ∷ leb n f ∷ [])
  unfolding number_of
  frame_tested f = sizes_then (false ∷ leb n f ∷ []) (last 4 (ltb f n) (not_ltb f n))

-- ---- a call refused by code c, or done

-- its code
checked : {A : Type 0} (code : A → ℕ) {c k d : ℕ} (does refusal : A) → code refusal ≡ c → c ≡ k → (c ≡ 0 → code does ≡ d)
    → code (pick (eqb c 0) does refusal) ≡ or_else k d
unfolding or_else
checked code {c} does refusal q p e = rw (← p) (pick_of code (eqb c 0) does refusal ∙ pick_both ◌≡◌ (eqb c 0) (λ z. e (eqb-true c 0 z)) (λ _. q))

-- its answer, where it is refused
bare : {A : Type 0} (say : A → List ℕ) {c k : ℕ} (does refusal : A) {rest : List ℕ} → say refusal ≡ c ∷ rest → c ≡ k → (k ≡ 0 → ⊥)
    → say (pick (eqb c 0) does refusal) ≡ k ∷ rest
bare say {c} does refusal {rest} q p e = rw (ne_eqb c 0 (λ z. e (sym p ∙ z))) (q ∙ ap (λ (x : ℕ). x ∷ rest) p)

-- ---- why a request is turned down

-- refused as the request itself, then with 8 unless s holds
record Refuses (r : Why) (k : ℕ) (s : Bool) : Type 0 where
  code : r.code ≡ or_else k (unless s 8)
  fields : (k ≡ 0 → ⊥) → why_numbers r ≡ k ∷ 0 ∷ 0 ∷ []

told_refuses : {c k : ℕ} (s : Bool) (w : Why) → c ≡ k → w.code ≡ 0 → Refuses (told c s w) k s
told_refuses s w p z = record {
  code = checked (λ (x : Why). x.code) w _ refl (ap (λ (c : ℕ). or_else c (unless s 8)) p) (λ _. z) ∙ or_none _;
  fields = λ e. bare why_numbers w _ refl (sym (stops (unless s 8) (sym p) e)) e;
}

module _ (h n t : ℕ) (m : Mem) where
  why_get_lem : (row o : ℕ) → Refuses (why_get h n t m row o) (tested h n t m (own h n t (Call.OnRow RowCall.WhyGet row o))) (sound h n t m (tree_of h t (row * 64)))
  unfolding why_get own
  why_get_lem row o = told_refuses (sound h n t m (tree_of h t (row * 64))) (why 0 (get_reason h n t m (tree_of h t (row * 64)) o) 0) (start_tested h n t m row o) refl

  why_get_at_lem : (a o : ℕ) → Refuses (why_get_at h n t m a o) (tested h n t m (own h n t (Call.OnBlock BlockCall.WhyGetAt a o))) (sound h n t m (tree_of h t a))
  unfolding why_get_at own get_at_reason
  why_get_at_lem a o =
      told_refuses (sound h n t m (tree_of h t a)) (get_at_reason h n m a o) (block_tested h n t m a o)
      (pick_case (λ (w : Why). w.code ≡ 0) (ltb (first (held h n m) (2 ^ o) a) (a + 2 ^ o)) (λ _. refl) (λ _. refl))

  why_put_lem : (a o : ℕ) → Refuses (why_put h n t m a o) (tested h n t m (own h n t (Call.OnBlock BlockCall.WhyPut a o))) (sound h n t m (tree_of h t a))
  unfolding why_put own put_reason
  why_put_lem a o =
      let x = first (λ x. not (eqb (entry_of m.entries x) mark)) (group_of h o) (huge_of h a) in
      told_refuses (sound h n t m (tree_of h t a)) (put_reason h n m a o) (block_tested h n t m a o)
      (pick_case (λ (w : Why). w.code ≡ 0) (ltb (first (free h n m) (2 ^ o) a) (a + 2 ^ o)) (λ _. refl)
      (λ _. pick_case (λ (w : Why). w.code ≡ 0) (leb h o && ltb x (huge_of h a + group_of h o)) (λ _. refl) (λ _. refl)))

-- ---- the code of a call

module _ (h n t : ℕ) (m : Mem) where
  -- stats_at answers no code of its own
  stats_at_done : (f o : ℕ) → (at_order h t m f o).code ≡ 0
  unfolding at_order
  stats_at_done f o =
      pick_case (λ (x : Stats). x.code ≡ 0) (eqb o 0) (λ _. refl)
      (λ _. pick_case (λ (x : Stats). x.code ≡ 0) (eqb o h) (λ _. refl) (λ _. pick_case (λ (x : Stats). x.code ≡ 0) (eqb o (top_order h t)) (λ _. refl) (λ _. refl)))

  -- nor does audit
  audit_done : (audit_all h n t m).code ≡ 0
  unfolding audit_all
  audit_done = pick_case (λ (x : Fault). x.code ≡ 0) (ltb (faultless h n t m) (entries_needed h n t)) (λ _. refl) (λ _. refl)

  module _ (H : Huge h) where
    pub call_code : (c : Call) → code h n t m c ≡ or_else (tested h n t m (own h n t c)) (steps h n t m c)
    unfolding called own steps get get_at put is_free stats stats_at stats_all audit recover room recover_all recoverable
    call_code (Call.OnRow RowCall.Get row o) =
        checked (λ (x : Out Got Mem). x.answer.code) _ _ refl (start_tested h n t m row o) (λ s. ap (λ (r : Got). r.code) (get_steps_lem H n t m row o s))
    call_code (Call.OnRow RowCall.WhyGet row o) = (why_get_lem h n t m row o).code
    call_code (Call.OnBlock BlockCall.GetAt f o) =
        checked (λ (x : Out Got Mem). x.answer.code) _ _ refl (block_tested h n t m f o) (λ _. ap (λ (r : Got). r.code) (get_at_steps h n t m f o))
    call_code (Call.OnBlock BlockCall.Put f o) =
        checked (λ (x : Out ℕ Mem). x.answer) _ _ refl (block_tested h n t m f o) (λ _. put_steps h n t m f o)
    call_code (Call.OnAll AllCall.Recover) =
        checked (λ (x : Out Recovered Mem). x.answer.code) _ _ refl (sizes_tested h n t m) (λ _. pick_of (λ (x : Out Recovered Mem). x.answer.code) (recoverable h n t m) _ _)
    call_code (Call.OnBlock BlockCall.IsFree f o) = checked (λ (x : Answered). x.code) _ _ refl (block_tested h n t m f o) (λ _. refl)
    call_code (Call.OnBlock BlockCall.WhyGetAt f o) = (why_get_at_lem h n t m f o).code
    call_code (Call.OnBlock BlockCall.WhyPut f o) = (why_put_lem h n t m f o).code
    call_code (Call.OnFrame (FrameCall.StatsAt o) f) = checked (λ (x : Stats). x.code) _ _ refl (frame_tested h n t m f) (λ _. stats_at_done f o)
    call_code (Call.OnFrame FrameCall.Room f) = checked (λ (x : Out ℕ (List ℕ)). x.answer) _ _ refl (frame_tested h n t m f) (λ _. refl)
    call_code (Call.OnFrame FrameCall.TreeRun f) = sym (or_none (frame_refusal h n t m f)) ∙ ap₂ or_else (frame_tested h n t m f) refl
    call_code (Call.OnAll AllCall.Stats) = checked (λ (x : Stats). x.code) _ _ refl (sizes_tested h n t m) (λ _. refl)
    call_code (Call.OnAll AllCall.Audit) = checked (λ (x : Fault). x.code) _ _ refl (sizes_tested h n t m) (λ _. audit_done)

  -- a start has no number of its own either
  start_code_lem : (after : Mem) → (stored (sizes_refusal h n t m) m after).answer ≡ tested h n t m []
  start_code_lem after = checked (λ (x : Out ℕ Mem). x.answer) (out 0 after) (out (sizes_refusal h n t m) m) refl (sizes_tested h n t m) (λ _. refl) ∙ or_none _

  pub starts_code : ((free_all h n t m).answer ≡ tested h n t m []) × ((reserve_all h n t m).answer ≡ tested h n t m [])
  unfolding free_all reserve_all
  starts_code = (start_code_lem _, start_code_lem _)

-- ---- the other fields of a refusal

module _ (h n t : ℕ) (m : Mem) where
  pub call_bare : (c : Call) → Bare h n t m c
  unfolding called own fields get get_at put is_free stats stats_at audit recover room tree_run
  call_bare (Call.OnRow RowCall.Get row o) = bare (λ (x : Out Got Mem). got_numbers x.answer) _ _ refl (start_tested h n t m row o)
  call_bare (Call.OnRow RowCall.WhyGet row o) = (why_get_lem h n t m row o).fields
  call_bare (Call.OnBlock BlockCall.GetAt f o) = bare (λ (x : Out Got Mem). got_numbers x.answer) _ _ refl (block_tested h n t m f o)
  call_bare (Call.OnBlock BlockCall.Put f o) = bare (λ (x : Out ℕ Mem). x.answer ∷ []) _ _ refl (block_tested h n t m f o)
  call_bare (Call.OnBlock BlockCall.IsFree f o) = bare (λ (x : Answered). x.code ∷ pick x.yes 1 0 ∷ []) _ _ refl (block_tested h n t m f o)
  call_bare (Call.OnBlock BlockCall.WhyGetAt f o) = (why_get_at_lem h n t m f o).fields
  call_bare (Call.OnBlock BlockCall.WhyPut f o) = (why_put_lem h n t m f o).fields
  call_bare (Call.OnFrame (FrameCall.StatsAt o) f) = bare stats_numbers _ _ refl (frame_tested h n t m f)
  call_bare (Call.OnFrame FrameCall.Room f) = bare (λ (x : Out ℕ (List ℕ)). x.answer ∷ x.left) _ _ refl (frame_tested h n t m f)
  call_bare (Call.OnFrame FrameCall.TreeRun f) = bare (λ (x : List ℕ). frame_refusal h n t m f ∷ x) _ _ refl (frame_tested h n t m f)
  call_bare (Call.OnAll AllCall.Stats) = bare stats_numbers _ _ refl (sizes_tested h n t m)
  call_bare (Call.OnAll AllCall.Audit) = bare (λ (x : Fault). x.code ∷ x.huge ∷ x.reason ∷ []) _ _ refl (sizes_tested h n t m)
  call_bare (Call.OnAll AllCall.Recover) =
      bare (λ (x : Out Recovered Mem). x.answer.code ∷ x.answer.entries ∷ x.answer.bitfields ∷ []) _ _ refl (sizes_tested h n t m)

-- ---- nothing is written

refused_left : {h n t : ℕ} {m : Mem} {c : Call} {ks : List ℕ} {after : Mem} → Leaves h n t m c ks after → (get_or ks 0 0 ≡ 0 → ⊥) → after ≡ m
refused_left (refused q) e = refl
refused_left (asked stays) e = refl
refused_left (got_block row o j f p s l v) e = absurd (e refl)
refused_left (got_group row o j p s l w) e = absurd (e refl)
refused_left (took_block f o b l w) e = absurd (e refl)
refused_left (took_group f o b l) e = absurd (e refl)
refused_left (gave_block f o v b l w) e = absurd (e refl)
refused_left (gave_part f o v b l w) e = absurd (e refl)
refused_left (gave_group f o b l) e = absurd (e refl)
refused_left (recovered s) e = absurd (e refl)

module _ (h n t : ℕ) (m : Mem) where
  pub call_refused : (c : Call) → (code h n t m c ≡ 0 → ⊥) → left h n t m c ≡ m
  call_refused c = refused_left (leaves h n t m c)

  pub starts_refused : (((free_all h n t m).answer ≡ 0 → ⊥) → (free_all h n t m).left ≡ m) × (((reserve_all h n t m).answer ≡ 0 → ⊥) → (reserve_all h n t m).left ≡ m)
  unfolding free_all reserve_all
  starts_refused = (if_refused m (starts.all_free h n t m) (sizes_refusal h n t m), if_refused m (starts.all_held h n t m) (sizes_refusal h n t m))
