-- What the code leaves: a law for each way out of it. Assumes nothing.
use Rattle.std.specs.Prelude.{Option, Some, None}
use mathlib.Core.Path.{◌≡◌, refl, sym, ap, ap₂, ◌∙◌}
use mathlib.Core.Logic.{⊎_elim}
use mathlib.Core.List.{List, [], ◌∷◌, ◌++◌, append-nil}
use Prim.Native.Nat.{ℕ, ◌+◌, ◌-◌, ◌≤◌, ◌<◌, min}
use native.Mathlib.Decide.{dec_le, dec_lt}
use native.Mathlib.Omega.{arith}
use lib.ListN.{length, take, drop, length-drop, take-append-drop}
use lib.Seq.{take_all, take-length, take_at, take-add, take-append-add, length-take-le}
use Rattle.base.specs.Code.{Out, out}
use Rattle.base.specs.Size.{huge_order}
use Rattle.dialogue.specs.Bytes.{index_of}
use Rattle.rules.specs.State.{Mem}
use Rattle.lines.specs.declared.Answer.{Answer}
use Rattle.lines.specs.Answer.{answer_text, answer_to, text_to}
use Rattle.lines.specs.Bytes.{LF}
use Rattle.lines.specs.Read.{read_line}
use Rattle.lines.proofs.Laws.{answer_short}
use Rattle.lines.proofs.Pastes.{text_behind, text_ends}
use Rattle.asks.specs.declared.Turn.{Turn}
use Rattle.asks.specs.Turn.{answered}
use Rattle.dialogue.specs.declared.Fed.{Fed}
use Rattle.dialogue.specs.declared.Served.{Served}
use Rattle.dialogue.specs.Dialogue.{Dialogue, dialogue, taken, ended, fed, printed}
use Rattle.dialogue.specs.Feeds.{replied, Feeds, Serves}
use Rattle.dialogue.proofs.Bytes.{find_unended, find_ends}
use Rattle.dialogue.proofs.Laws.{fed_on, fed_parts, fed_unended, printed_parts}

-- ---- what is kept of a line

module _ (line part : List ℕ) (kept n : ℕ) (most : kept ≤ 65) (room : 65 ≤ length line) (n_is : n ≡ min (length part) (65 - kept)) where
  kept_part : take (65 - kept) part ≡ take n part
  kept_part = elim (dec_le (length part) (65 - kept)) [
    | yes h ↦ take_all (65 - kept) part h ∙ sym (take_all n part (omega arith))
    | no h ↦ let all : 65 - kept ≡ n = omega arith in ap (λ (k : ℕ). take k part) all
  ]

  -- a copy of the part's first n bytes goes behind what is kept
  pub kept_text : (copied rest : List ℕ) → copied ≡ take n part → take (kept + n) (take kept line ++ (copied ++ rest)) ≡ take 65 (take kept line ++ part)
  kept_text copied rest e =
      let front = take kept line in
      let front_long : length front ≡ kept = length-take-le kept line (omega arith) in
      let part_long : length (take n part) ≡ n = length-take-le n part (omega arith) in
      let whole : length front + (65 - kept) ≡ 65 = omega arith in
      rw e
      (ap (λ (k : ℕ). take (k + n) (front ++ (take n part ++ rest))) (sym front_long)
      ∙ take-append-add front (take n part ++ rest) n
      ∙ ap (λ (x : List ℕ). front ++ x) (take_at (take n part) rest n part_long ∙ sym kept_part)
      ∙ sym (take-append-add front part (65 - kept))
      ∙ ap (λ (k : ℕ). take k (front ++ part)) whole)

-- ---- a line ends in the input, or none does

module _ (n t : ℕ) (m : Mem) (l l' input : List ℕ) (e : ℕ) (short : length l ≤ 65) (e_is : e ≡ index_of LF input) (l'_is : l' ≡ take 65 (l ++ take e input)) where
  pub feed_kept : out [] (dialogue n t m l') ≡ fed (dialogue n t m l) (take e input)
  feed_kept =
      rw l'_is (sym (fed_unended n t m l (take e input) short (rw e_is (find_unended input))))

  pub feed_ended : e < length input → {turn : Turn} {m' : Mem} → out turn m' ≡ answered huge_order n t m (read_line l')
      → out (turn.answer ∷ []) (dialogue turn.n turn.t m' []) ≡ fed (dialogue n t m l) (take (e + 1) input)
  unfolding fed ended
  feed_ended h made =
      let cut : take (e + 1) input ≡ take e input ++ (LF ∷ []) = rw e_is (find_ends input (omega arith)) in
      ap (λ (o : Out Turn Mem). out ((taken o).answer ∷ []) (taken o).left) made
      ∙ sym (rw cut (fed_parts (dialogue n t m l) (take e input) (LF ∷ []) ∙ ap (λ (o : Out (List Answer) Dialogue). fed_on o (LF ∷ [])) (sym feed_kept)))

-- no line ends in all of the input
pub feed_whole : (n t : ℕ) (m : Mem) (l l' input : List ℕ) → length l ≤ 65 → index_of LF input ≡ length input → l' ≡ take 65 (l ++ input)
    → out [] (dialogue n t m l') ≡ fed (dialogue n t m l) (take (length input) input)
feed_whole n t m l l' input short none l'_is =
    feed_kept n t m l l' input (length input) short (sym none) (l'_is ∙ ap (λ (x : List ℕ). take 65 (l ++ x)) (sym (take-length input)))

-- ---- what is printed

pub one_printed : (l : List ℕ) (at : ℕ) (a : Answer) → answer_to l at a ≡ text_to l at (printed (a ∷ []))
unfolding answer_to printed
one_printed l at a = ap (text_to l at) (sym (append-nil (answer_text a)))

reply_short : (r : Option Answer) → length (printed (replied r)) ≤ 84
unfolding printed
reply_short None = omega arith
reply_short (Some a) = rw (append-nil (answer_text a)) (answer_short a)

none_printed : length (printed []) ≡ 0
unfolding printed
none_printed = refl

fed_nothing : (d : Dialogue) (l : List ℕ) (k : ℕ) → k ≡ 0 → fed d (take k l) ≡ out [] d
unfolding fed
fed_nothing d l k e = rw e refl

-- a part of an input, from a place to its end
pub part_rest : (l : List ℕ) (k : ℕ) → take (length l - k) (drop k l) ≡ drop k l
part_rest l k = take_all (length l - k) (drop k l) (omega (arith, length-drop k l))

pub part_long : (l : List ℕ) (k : ℕ) → length (take (length l - k) (drop k l)) ≡ length l - k
part_long l k = ap length (part_rest l k) ∙ length-drop k l

-- where there is input, some is used
pub feeds_some : (d : Dialogue) (input : List ℕ) (r : Fed) (left : Dialogue) → Feeds d input r left → 0 < length input → 0 < r.used
feeds_some d input r left feeds h = go r.reply refl
  where
    go : (y : Option Answer) → r.reply ≡ y → 0 < r.used
    go None e = omega (arith, feeds.stops e)
    go (Some a) e = elim (dec_lt 0 r.used) [
      | yes q ↦ q
      | no q ↦
          let none : r.used ≡ 0 = omega arith in
          omega (arith, ap (λ (y : Option Answer). length (replied y)) e, ap (λ (o : Out (List Answer) Dialogue). length o.answer) (feeds.says ∙ fed_nothing d input r.used none))
    ]

-- a dialogue that was fed the first bytes of an input, and a text with what it printed
pub record Going (d : Dialogue) (input text : List ℕ) (used end : ℕ) (text' : List ℕ) (left : Dialogue) : Type 0 where
  pub within : used ≤ length input
  pub fits : end ≤ length text
  pub leaves : left ≡ (fed d (take used input)).left
  pub prints : out end text' ≡ text_to text 0 (printed (fed d (take used input)).answer)

pub going_at_first : (d : Dialogue) (input text : List ℕ) → Going d input text 0 0 text d
unfolding fed printed
going_at_first d input text = record { within = omega arith; fits = omega arith; leaves = refl; prints = refl }

module _ (d : Dialogue) (input text : List ℕ) (used end : ℕ) (text' : List ℕ) (left : Dialogue) (was : Going d input text used end text' left)
    (r : Fed) (left' : Dialogue) (feeds : Feeds left (take (length input - used) (drop used input)) r left') where
  both_fed : fed d (take (used + r.used) input) ≡ fed_on (fed d (take used input)) (take r.used (drop used input))
  both_fed = rw (take-add used r.used input) (fed_parts d (take used input) (take r.used (drop used input)))

  says : out (replied r.reply) left' ≡ fed (fed d (take used input)).left (take r.used (drop used input))
  says = feeds.says ∙ ap₂ (λ (x : Dialogue) (y : List ℕ). fed x (take r.used y)) was.leaves (part_rest input used)

  pub still_within : used + r.used ≤ length input
  still_within = omega (arith, was.within, feeds.within, part_long input used)

  pub going_on : end + 84 ≤ length text → {e : ℕ} {text'' : List ℕ} → out e text'' ≡ text_to text' end (printed (replied r.reply))
      → Going d input text (used + r.used) e text'' left'
  going_on room {e} {text''} p = record {
    within = still_within;
    fits = omega (arith, text_ends text' (printed (replied r.reply)) end p, reply_short r.reply);
    leaves = ap (λ (o : Out (List Answer) Dialogue). o.left) says ∙ sym (ap (λ (o : Out (List Answer) Dialogue). o.left) both_fed);
    prints = text_behind text (printed before) (printed (replied r.reply)) 0 (omega (arith, text_ends text (printed before) 0 was.prints)) was.prints p
        ∙ ap (text_to text 0) (sym (printed_parts before (replied r.reply)) ∙ ap printed all);
  }
    where
      before : List Answer
      before = (fed d (take used input)).answer

      all : before ++ replied r.reply ≡ (fed d (take (used + r.used) input)).answer
      all = ap (λ (o : Out (List Answer) Dialogue). before ++ o.answer) says ∙ sym (ap (λ (o : Out (List Answer) Dialogue). o.answer) both_fed)

-- ---- for callers of serve: the rest of an input

module _ (d : Dialogue) (input text : List ℕ) (r : Served) (text' : List ℕ) (left : Dialogue) (serves : Serves d input text r text' left) where
  -- what is left of it is fed to what is left
  pub served_rest : fed d input ≡ out ((fed d (take r.used input)).answer ++ (fed left (drop r.used input)).answer) (fed left (drop r.used input)).left
  served_rest =
      ap (fed d) (sym (take-append-drop r.used input))
      ∙ fed_parts d (take r.used input) (drop r.used input)
      ∙ ap (λ (l : Dialogue). out ((fed d (take r.used input)).answer ++ (fed l (drop r.used input)).answer) (fed l (drop r.used input)).left) (sym serves.leaves)

  -- where the text has room for an answer, some of it is used
  pub served_some : 84 ≤ length text → 0 < length input → 0 < r.used
  served_some room h = elim (dec_lt 0 r.used) [
    | yes q ↦ q
    | no q ↦
        let none : r.used ≡ 0 = omega arith in
        let said = printed (fed d (take r.used input)).answer in
        let no_text : length said ≡ 0 = ap (λ (o : Out (List Answer) Dialogue). length (printed o.answer)) (fed_nothing d input r.used none) ∙ none_printed in
        absurd (⊎_elim (λ e. omega arith) (λ e. omega (arith, text_ends text said 0 serves.prints)) serves.stops)
  ]

-- none of an input is fed yet
pub fed_none : (d : Dialogue) (input : List ℕ) → d ≡ (fed d (take 0 input)).left
unfolding fed
fed_none d input = refl
