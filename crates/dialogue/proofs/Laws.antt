-- The answers to an input are those to its lines in order, in whatever parts it comes. Assumes nothing.
use Rattle.std.specs.Prelude.{Option}
use mathlib.Core.Path.{◌≡◌, refl, sym, ap, ◌∙◌}
use mathlib.Core.Bool.{Bool, true, false}
use mathlib.Core.List.{List, [], ◌∷◌, ◌++◌, append_assoc, append-nil}
use Prim.Native.Nat.{ℕ, ◌≤◌, ◌<◌}
use native.Mathlib.Omega.{arith}
use lib.Dec.{eqb}
use lib.ListN.{length, take, length-take}
use lib.Seq.{take_all}
use borrow.Author.Tests.{eq-eqb, ne_eqb}
use Rattle.base.specs.Walk.{pick}
use Rattle.base.specs.Code.{Out, out}
use Rattle.rules.specs.State.{Mem}
use Rattle.lines.specs.declared.Line.{Line}
use Rattle.lines.specs.declared.Answer.{Answer}
use Rattle.lines.specs.Answer.{answer_text}
use Rattle.lines.specs.Bytes.{LF}
use Rattle.lines.specs.Read.{read_line}
use Rattle.lines.proofs.Laws.{reading}
use Rattle.asks.specs.declared.Turn.{Turn}
use Rattle.asks.specs.Turn.{answered}
use Rattle.base.specs.Size.{huge_order}
use Rattle.dialogue.specs.Dialogue.{Dialogue, dialogue, heard, taken, ended, said_first, fed, finished, answers, printed}
use Rattle.dialogue.specs.Whole.{with_byte, lines_of, replies, Unended, Whole}
use Rattle.dialogue.proofs.Bytes.{take_cut}

-- ---- parts

-- what is fed after another part
abbrev pub fed_on : Out (List Answer) Dialogue → List ℕ → Out (List Answer) Dialogue
fed_on o y = out (o.answer ++ (fed o.left y).answer) (fed o.left y).left

pub fed_parts : (d : Dialogue) (x y : List ℕ) → fed d (x ++ y) ≡ fed_on (fed d x) y
unfolding fed
fed_parts d [] y = refl
fed_parts d (b ∷ x) y = go (eqb b LF) (fed_parts (ended d).left x y) (fed_parts (heard d b) x y)
  where
    go : (q : Bool) → fed (ended d).left (x ++ y) ≡ fed_on (fed (ended d).left x) y → fed (heard d b) (x ++ y) ≡ fed_on (fed (heard d b) x) y
        → pick q (said_first (ended d).answer (fed (ended d).left (x ++ y))) (fed (heard d b) (x ++ y))
        ≡ fed_on (pick q (said_first (ended d).answer (fed (ended d).left x)) (fed (heard d b) x)) y
    go true e f = ap (said_first (ended d).answer) e
    go false e f = f

pub printed_parts : (x y : List Answer) → printed (x ++ y) ≡ printed x ++ printed y
unfolding printed
printed_parts [] y = refl
printed_parts (a ∷ x) y = ap (λ (t : List ℕ). answer_text a ++ t) (printed_parts x y) ∙ sym (append_assoc (answer_text a) (printed x) (printed y))

-- ---- bytes among which no line ends are kept

pub fed_unended : (n t : ℕ) (m : Mem) (l p : List ℕ) → length l ≤ 65 → Unended p → fed (dialogue n t m l) p ≡ out [] (dialogue n t m (take 65 (l ++ p)))
unfolding fed
fed_unended n t m l [] h u = rw (append-nil l, take_all 65 l h)
fed_unended n t m l (b ∷ p) h u =
    let kept = take 65 (l ++ (b ∷ [])) in
    let short : length kept ≤ 65 = length_cut (l ++ (b ∷ [])) in
    rw (ne_eqb b LF u.0) (fed_unended n t m kept p short u.1
    ∙ ap (λ (z : List ℕ). out [] (dialogue n t m z)) (take_cut 65 (l ++ (b ∷ [])) p ∙ ap (take 65) (append_assoc l (b ∷ []) p)))
  where
    length_cut : (x : List ℕ) → length (take 65 x) ≤ 65
    length_cut x = omega (arith, length-take 65 x)

-- ---- where the input has ended

module _ (n t : ℕ) (m : Mem) (l : List ℕ) where
  pub finish_none : length l ≡ 0 → out [] m ≡ finished (dialogue n t m l)
  unfolding finished
  finish_none h = rw (eq-eqb (length l) 0 h)

  pub finish_last : (length l ≡ 0 → ⊥) → {turn : Turn} {m' : Mem} → out turn m' ≡ answered huge_order n t m (read_line l)
      → out (turn.answer ∷ []) m' ≡ finished (dialogue n t m l)
  unfolding finished ended
  finish_last h made = rw (ne_eqb (length l) 0 h) (ap (λ (o : Out Turn Mem). out ((taken o).answer ∷ []) o.left) made)

-- ---- lines

lines_ended : (l rest : List ℕ) → Unended l → lines_of (l ++ (LF ∷ rest)) ≡ l ∷ lines_of rest
unfolding lines_of
lines_ended [] rest u = refl
lines_ended (b ∷ l) rest u = rw (ne_eqb b LF u.0, lines_ended l rest u.1)

lines_last : (l : List ℕ) → Unended l → 0 < length l → lines_of l ≡ l ∷ []
unfolding lines_of
lines_last [] u h = absurd (omega arith)
lines_last (b ∷ []) u h = rw (ne_eqb b LF u.0)
lines_last (b ∷ c ∷ l) u h = rw (ne_eqb b LF u.0) (ap (with_byte b) (lines_last (c ∷ l) u.1 (omega arith)))

-- some lines, with bytes before the first
abbrev behind : List (List ℕ) → List ℕ → List (List ℕ)
behind [] [] = []
behind [] (b ∷ p) = (b ∷ p) ∷ []
behind (l ∷ ls) p = (p ++ l) ∷ ls

behind_none : (ls : List (List ℕ)) → behind ls [] ≡ ls
behind_none [] = refl
behind_none (l ∷ ls) = refl

behind_byte : (ls : List (List ℕ)) (p : List ℕ) (b : ℕ) → behind (with_byte b ls) p ≡ behind ls (p ++ (b ∷ []))
behind_byte [] [] b = refl
behind_byte [] (c ∷ p) b = refl
behind_byte (l ∷ ls) p b = ap (λ (z : List ℕ). z ∷ ls) (sym (append_assoc p (b ∷ []) l))

-- what is kept of a line is answered as the line
cut_ended : (n t : ℕ) (m : Mem) (p : List ℕ) → ended (dialogue n t m (take 65 p)) ≡ taken (answered huge_order n t m (read_line p))
unfolding ended
cut_ended n t m p = ap (λ (c : Option Line). taken (answered huge_order n t m c)) (reading.cut_line p)

-- the answers where the input has ended
abbrev all_said : Out (List Answer) Dialogue → List Answer
all_said o = o.answer ++ (finished o.left).answer

-- one byte: it ends a line, or it is one more of it
by_byte : (n t : ℕ) (m : Mem) (p : List ℕ) (b : ℕ) (input : List ℕ) (q : Bool) → let o = answered huge_order n t m (read_line p) in
    let d = dialogue n t m (take 65 p) in
    answers (dialogue o.answer.n o.answer.t o.left []) input ≡ replies o.answer.n o.answer.t o.left (lines_of input)
    → answers (dialogue n t m (take 65 (p ++ (b ∷ [])))) input ≡ replies n t m (behind (lines_of input) (p ++ (b ∷ [])))
    → all_said (pick q (said_first (ended d).answer (fed (ended d).left input)) (fed (heard d b) input))
    ≡ replies n t m (behind (pick q ([] ∷ lines_of input) (with_byte b (lines_of input))) p)
unfolding answers replies
by_byte n t m p b input true e f =
    ap (λ (o : Out Answer Dialogue). all_said (said_first o.answer (fed o.left input))) (cut_ended n t m p)
    ∙ ap (λ (x : List Answer). (answered huge_order n t m (read_line p)).answer.answer ∷ x) e
    ∙ ap (λ (l : List ℕ). replies n t m (l ∷ lines_of input)) (sym (append-nil p))
by_byte n t m p b input false e f = rw (take_cut 65 p (b ∷ []), behind_byte (lines_of input) p b) f

answers_by_lines : (n t : ℕ) (m : Mem) (p input : List ℕ) → answers (dialogue n t m (take 65 p)) input ≡ replies n t m (behind (lines_of input) p)
unfolding answers fed lines_of replies
answers_by_lines n t m [] [] = ap (λ (o : Out (List Answer) Mem). o.answer) (sym (finish_none n t m [] refl))
answers_by_lines n t m (b ∷ p) [] =
    ap (λ (o : Out (List Answer) Mem). o.answer) (sym (finish_last n t m (take 65 (b ∷ p)) (λ e. omega arith) refl))
    ∙ ap (λ (c : Option Line). (answered huge_order n t m c).answer.answer ∷ []) (reading.cut_line (b ∷ p))
answers_by_lines n t m p (b ∷ input) =
    let o = answered huge_order n t m (read_line p) in
    by_byte n t m p b input (eqb b LF)
    (answers_by_lines o.answer.n o.answer.t o.left [] input ∙ ap (replies o.answer.n o.answer.t o.left) (behind_none (lines_of input)))
    (answers_by_lines n t m (p ++ (b ∷ [])) input)

pub whole : Whole
whole = record {
  line_ended = lines_ended;
  line_last = lines_last;
  by_lines = λ n t m input. answers_by_lines n t m [] input ∙ ap (replies n t m) (behind_none (lines_of input));
  in_parts = fed_parts;
  texts = printed_parts;
}
