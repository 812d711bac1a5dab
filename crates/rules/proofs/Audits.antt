-- A tree without a reason is exactly a consistent one; a clean audit is exactly a consistent state, and any other names the first faulty huge frame. Assumes nothing.
use mathlib.Core.Path.{◌≡◌, refl, sym, ap, ◌∙◌}
use mathlib.Core.Bool.{true, false}
use mathlib.Core.Logic.{◌⊎◌, inl, inr, ⊎_elim}
use Prim.Native.Nat.{ℕ, ◌+◌, ◌-◌, ◌*◌, ◌/◌, ◌^◌, ◌<◌}
use native.Mathlib.Decide.{dec_lt, ℕ_discrete}
use native.Mathlib.Omega.{arith}
use lib.Dec.{eqb}
use borrow.Author.Tests.{eq-eqb, eqb-true}
use Rattle.base.specs.Bits.{bit_is}
use Rattle.base.specs.Size.{Huge}
use Rattle.base.proofs.Rests.{quotient_is}
use Rattle.base.proofs.Walks.{all_each, all_of, count_le}
use Rattle.base.proofs.Frames.{block_each, block_of}
use Rattle.base.proofs.Codes.{done}
use Rattle.rules.specs.Numbers.{mark, trees_needed, entries_needed}
use Rattle.rules.specs.State.{Mem, entry_of, lengths_of}
use Rattle.rules.specs.Refusals.{Sized, sizes_refusal}
use Rattle.rules.proofs.Numbers.{tree_pos, tree_ends}
use Rattle.rules.proofs.Lent.{sized, sized_passes}
use Rattle.rules.proofs.Present.{present_entry}
use Rattle.rules.proofs.Needed.{tree_needed}
use Rattle.rules.specs.Numbered.{Fault}
use Rattle.rules.specs.Audit.{fault, reason, faultless, audit_all, audit}
use Rattle.rules.proofs.Reasons.{reason_clean_absent, reason_absent_clean, reason_clean_marked, reason_marked_clean, reason_clean_counted, reason_counted_clean}
use Rattle.rules.proofs.AuditSteps.{audit_named, named_faulty, none_before, audit_none, audit_clean_each, audit_each_clean}
use Rattle.rules.specs.Consistent.{Fits, ByMark, ByCount, ConsistentIn, Consistent}
use Rattle.rules.specs.Why.{sound}
use Rattle.rules.specs.Exact.{Audited}
use Rattle.rules.proofs.Frees.{no_mark}

-- ---- one huge frame

module _ (h n : ℕ) (m : Mem) (x : ℕ) (l : x * 2 ^ h < n) where
  -- a present huge frame with no reason has the mark and is clear, or its count is right
  reasonless : reason h n m x ≡ 0 → ByMark h n m x ⊎ ByCount h n m x
  reasonless e = elim (ℕ_discrete (entry_of m.entries x) mark) [
    | yes k ↦
        let c = reason_clean_marked h n m x l k e in
        inl (record {
          marked = k;
          below = omega (arith, c.0);
          clear = λ f a b. block_each false m.rows (x * 2 ^ h) (2 ^ h) c.1 f (omega arith) (omega arith);
        })
    | no k ↦
        let c = reason_clean_counted h n m x l k e in
        inr (record {
          most = omega (arith, c.1, count_le (bit_is false m.rows) (2 ^ h) (x * 2 ^ h));
          counts = c.1;
          past = λ f a b. block_each true m.rows n ((x + 1) * 2 ^ h - n) c.0 f (omega arith) (omega arith);
        })
  ]

  -- and the other way round
  marked_reasonless : ByMark h n m x → reason h n m x ≡ 0
  marked_reasonless k =
      reason_marked_clean h n m x l k.marked (omega (arith, k.below))
      (block_of false m.rows (x * 2 ^ h) (2 ^ h) (λ f a b. k.clear f (omega arith) (omega arith)))

  counted_reasonless : Huge h → ByCount h n m x → reason h n m x ≡ 0
  counted_reasonless H k =
      reason_counted_clean h n m x l (no_mark H k) (block_of true m.rows n ((x + 1) * 2 ^ h - n) (λ f a b. k.past f (omega arith) (omega arith))) k.counts

-- ---- those of a tree

-- where it is consistent, no huge frame of it has a reason
pub consistent_reasonless : {h n t : ℕ} {m : Mem} {y : ℕ} → Huge h → ConsistentIn h n t m y → (x : ℕ) → x / t ≡ y → x < entries_needed h n t → reason h n m x ≡ 0
consistent_reasonless {h} {n} {t} {m} H c x own u = elim (dec_lt (x * 2 ^ h) n) [
  | yes l ↦ ⊎_elim (marked_reasonless h n m x l) (counted_reasonless h n m x l H) (c.present x own l)
  | no l ↦ reason_absent_clean h n m x (omega arith) (c.absent x own (omega arith) u)
]

-- and where none has, it is consistent
reasonless_consistent : {h n t : ℕ} {m : Mem} → Fits m → Sized h n t (lengths_of m) → (y : ℕ) → ((x : ℕ) → x / t ≡ y → x < entries_needed h n t → reason h n m x ≡ 0)
    → ConsistentIn h n t m y
reasonless_consistent {h} {n} {t} {m} fits s y none = record {
  sized = s;
  fits = fits;
  present = λ x own l. reasonless h n m x l (none x own (present_entry h n t x (tree_pos t s.tree) l));
  absent = λ x own l u. reason_clean_absent h n m x (omega arith) (none x own u);
}

-- so a needed tree is sound exactly if it is consistent
pub tree_is_sound : (h n t : ℕ) (m : Mem) (y : ℕ) → Huge h → Fits m → Sized h n t (lengths_of m) → y < trees_needed h n t
    → (sound h n t m y ≡ true → ConsistentIn h n t m y) × (ConsistentIn h n t m y → sound h n t m y ≡ true)
unfolding sound
tree_is_sound h n t m y H fits s l = (
  λ e. reasonless_consistent fits s y (λ x own _.
      let ends = tree_ends t x y (tree_pos t s.tree) own in
      eqb-true (reason h n m x) 0 (all_each (λ x. eqb (reason h n m x) 0) t (y * t) e x ends.0 ends.1)),
  λ c. all_of (λ x. eqb (reason h n m x) 0) t (y * t) (λ x a u.
      eq-eqb (reason h n m x) 0 (consistent_reasonless H c x (quotient_is t y x a u) (omega (arith, tree_needed h n t y l)))),
)

-- ---- all of them

pub clean_is_consistent : (h n t : ℕ) (m : Mem) → Huge h → Fits m → (audit h n t m ≡ fault 0 0 0 → Consistent h n t m) × (Consistent h n t m → audit h n t m ≡ fault 0 0 0)
unfolding audit
clean_is_consistent h n t m H fits = (clean, consistent)
  where
    clean : audit h n t m ≡ fault 0 0 0 → Consistent h n t m
    clean e y =
        let a = done (audit_all h n t m) (fault (sizes_refusal h n t m) 0 0) (λ r. r.code) refl (ap (λ (r : Fault). r.code) e) in
        reasonless_consistent fits (sized h n t _ a.0) y (λ x _. audit_clean_each h n t m (sym a.1 ∙ e) x)

    consistent : Consistent h n t m → audit h n t m ≡ fault 0 0 0
    consistent c = rw (sized_passes (c 0).sized) (audit_each_clean h n t m (λ x. consistent_reasonless H (c (x / t)) x refl))

-- ---- the first that is faulty

pub audit_names_first : (h n t : ℕ) (m : Mem) (x r : ℕ) → audit h n t m ≡ fault 0 x r → Audited h n t m x r
unfolding audit
audit_names_first h n t m x r e =
    let a = done (audit_all h n t m) (fault (sizes_refusal h n t m) 0 0) (λ f. f.code) refl (ap (λ (f : Fault). f.code) e) in
    let s = sized h n t _ a.0 in
    let answer : audit_all h n t m ≡ fault 0 x r = sym a.1 ∙ e in
    elim (dec_lt (faultless h n t m) (entries_needed h n t)) [
      | yes l ↦
          let is : fault 0 (faultless h n t m) (reason h n m (faultless h n t m)) ≡ fault 0 x r = sym (audit_named h n t m l) ∙ answer in
          let x_is : faultless h n t m ≡ x = ap (λ (f : Fault). f.huge) is in
          let r_is : reason h n m (faultless h n t m) ≡ r = ap (λ (f : Fault). f.reason) is in
          record {
            has = rw (← x_is) r_is;
            needed = rw (← x_is) l;
            first = λ y u. none_before h n t m y (omega arith);
            clean = λ z. absurd (named_faulty h n t m l (r_is ∙ z));
          }
      | no l ↦
          let is : fault 0 0 0 ≡ fault 0 x r = sym (audit_none h n t m (omega arith)) ∙ answer in
          let x_is : 0 ≡ x = ap (λ (f : Fault). f.huge) is in
          let none : (y : ℕ) → y < entries_needed h n t → reason h n m y ≡ 0 = λ y u. none_before h n t m y (omega arith) in
          let some : 0 < entries_needed h n t = present_entry h n t 0 (tree_pos t s.tree) (omega (arith, s.some)) in
          record {
            has = rw (← x_is) (none 0 some ∙ ap (λ (f : Fault). f.reason) is);
            needed = rw (← x_is) some;
            first = λ y u. absurd (omega arith);
            clean = λ _. (sym x_is, none);
          }
    ]
