-- For callers: a good line is the text of what it asks for, each text is read as that, and no answer is too long. Assumes nothing.
use Rattle.std.proofs.Common.{◌≡◌, refl, sym, ap, subst, ◌∙◌, true, Option, Some, None, List, [], ◌∷◌, ◌++◌, append_assoc, append-nil, ◌⊎◌, inl, inr, ℕ, ◌+◌, ◌^◌, ◌≤◌, ◌<◌, arith, eqb, leb, length, get_or, take, drop, length-append, drop-cons}
use native.Mathlib.Decide.{dec_le}
use lib.ListN.{drop_of_length-le}
use lib.Seq.{take_all, length-take-le}
use borrow.Author.Tests.{eqb-true}
use Rattle.base.proofs.Walks.{pick_case}
use Rattle.rules.specs.declared.Init.{Init}
use Rattle.rules.specs.declared.Init.TheVariants.{FreeAll, AllocAll}
use Rattle.rules.specs.Numbers.{init_number}
use Rattle.decimal.specs.declared.Number.{Number}
use Rattle.decimal.specs.Decimal.{places, decimal}
use Rattle.decimal.proofs.Laws.{length_decimal}
use Rattle.lines.specs.declared.Line.{Line}
use Rattle.lines.specs.declared.Line.TheVariants.{Starts, Changes, Asks}
use Rattle.lines.specs.declared.Change.TheVariants.{Get, GetAt, Put, Recover}
use Rattle.lines.specs.declared.Question.TheVariants.{IsFree, StatsOfAll, StatsAt, Audit}
use Rattle.lines.specs.declared.Answer.{Answer}
use Rattle.lines.specs.declared.Fields.TheVariants.{Two, Three}
use Rattle.lines.specs.Bytes.{letter_i, letter_g, letter_p, letter_f, letter_q, letter_s, letter_t, letter_a, letter_r}
use Rattle.lines.specs.Read.{short_tree, line_alone, line_start, line_two, line_three, field_at, three_of, two_of, one_of, read_line, field, two_text, text_of, short_text}
use Rattle.lines.specs.Good.{TwoFit, Fits, Short, Reading}
use Rattle.lines.specs.Answer.{answer_text}
use Rattle.lines.proofs.Cases.{third_ends, two_fields, third, read_long, read_alone}
use Rattle.lines.proofs.OneField.{Field, field_stands, field_read}
use Rattle.lines.proofs.Texts.{decimal_short, fields_short}

pub answer_short : (r : Answer) → length (answer_text r) ≤ 84
unfolding answer_text
answer_short r = simp length-append (omega (arith, decimal_short r.code, fields_short r.fields))

-- ---- a good line is the text of what it asks for

abbrev Says : List ℕ → Line → Type 0
Says l c = (l ≡ text_of c) ⊎ Short l c

abbrev Good : List ℕ → Option Line → Type 0
Good l None = Unit
Good l (Some c) = Fits c × Says l c

-- a line whose letter is known
lettered : {l rest : List ℕ} {x : ℕ} (y : ℕ) → l ≡ x ∷ rest → eqb x y ≡ true → l ≡ y ∷ rest
lettered {l} {rest} {x} y e t = e ∙ ap (λ (z : ℕ). z ∷ rest) (eqb-true x y t)

module _ (l : List ℕ) (x : ℕ) where
  alone_good : l ≡ x ∷ [] → Good l (line_alone x)
  unfolding text_of
  alone_good e =
      pick_case (Good l) (eqb x letter_s) (λ t. (tt, inl (lettered letter_s e t)))
      (λ _. pick_case (Good l) (eqb x letter_a) (λ t. (tt, inl (lettered letter_a e t)))
      (λ _. pick_case (Good l) (eqb x letter_r) (λ t. (tt, inl (lettered letter_r e t)))
      (λ _. tt)))

  -- a start, whose text goes by its m
  start_good : (n t m : ℕ) → TwoFit n t → ((i : Init) → m ≡ init_number i → Says l (Starts n t i)) → Good l (line_start n t m)
  start_good n t m f says =
      pick_case (Good l) (eqb m (init_number FreeAll)) (λ q. (f, says FreeAll (eqb-true m 0 q)))
      (λ _. pick_case (Good l) (eqb m (init_number AllocAll)) (λ q. (f, says AllocAll (eqb-true m 1 q)))
      (λ _. tt))

  module _ (a b : ℕ) (fits : TwoFit a b) where
    two_good : l ≡ two_text x a b → Good l (line_two x a b)
    unfolding text_of
    two_good e =
        pick_case (Good l) (eqb x letter_g) (λ t. (fits, inl (lettered letter_g e t)))
        (λ _. pick_case (Good l) (eqb x letter_p) (λ t. (fits, inl (lettered letter_p e t)))
        (λ _. pick_case (Good l) (eqb x letter_f) (λ t. (fits, inl (lettered letter_f e t)))
        (λ _. pick_case (Good l) (eqb x letter_q) (λ t. (fits, inl (lettered letter_q e t)))
        (λ _. pick_case (Good l) (eqb x letter_t) (λ t. (fits, inl (lettered letter_t e t)))
        (λ _. pick_case (Good l) (eqb x letter_i)
        (λ t. start_good a short_tree b (fits.0, omega arith)
        (λ i q. inr record { frames = a; init = i; text = lettered letter_i e t ∙ ap (λ (m : ℕ). two_text letter_i a m) q; asks = refl }))
        (λ _. tt))))))

    three_good : (c : ℕ) → l ≡ x ∷ (field a ++ field b ++ field c) → Good l (line_three x a b c)
    unfolding text_of
    three_good c e = pick_case (Good l) (eqb x letter_i)
        (λ t. start_good a b c fits (λ i q. inl (lettered letter_i e t ∙ ap (λ (m : ℕ). letter_i ∷ (field a ++ field b ++ field m)) q)))
        (λ _. tt)

letter_first : (l : List ℕ) → 0 < length l → l ≡ get_or l 0 0 ∷ drop 1 l
letter_first l h = drop-cons l 0 0 h

module _ (l : List ℕ) (x : Number) (p : Field l 1 x.value x.next) (y : Number) (q : Field l x.next y.value y.next) where
  front : l ≡ get_or l 0 0 ∷ (field x.value ++ (field y.value ++ drop y.next l))
  front =
      letter_first l (omega (arith, p.begins, p.within))
      ∙ ap (λ (m : List ℕ). get_or l 0 0 ∷ m) (p.text ∙ ap (λ (m : List ℕ). field x.value ++ m) q.text)

  two_ends : y.next ≡ length l → l ≡ two_text (get_or l 0 0) x.value y.value
  two_ends e = rw (drop_of_length-le l {i = y.next} (omega arith), append-nil (decimal y.value)) at front

  three_ends : (z : Number) → Field l y.next z.value z.next → z.next ≡ length l
      → l ≡ get_or l 0 0 ∷ (field x.value ++ field y.value ++ field z.value)
  three_ends z r e =
      front
      ∙ rw (r.text, drop_of_length-le l {i = z.next} (omega arith), append-nil (decimal z.value), append_assoc (decimal x.value) (field y.value) (field z.value))

module _ (l : List ℕ) (x : Number) (p : Field l 1 x.value x.next) where
  third_good : (y : Number) → Field l x.next y.value y.next → (o : Option Number) → field_at l y.next ≡ o → Good l (three_of l x y o)
  unfolding three_of
  third_good y q None e = tt
  third_good y q (Some z) e = pick_case (Good l) (eqb z.next (length l))
      (λ t. three_good l (get_or l 0 0) x.value y.value (p.fits, q.fits) z.value
      (three_ends l x p y q z (field_stands l y.next z e) (eqb-true z.next (length l) t)))
      (λ t. tt)

  more_good : (o : Option Number) → field_at l x.next ≡ o → Good l (two_of l x o)
  unfolding two_of
  more_good None e = tt
  more_good (Some y) e =
      let q = field_stands l x.next y e in
      pick_case (Good l) (eqb y.next (length l))
      (λ t. two_good l (get_or l 0 0) x.value y.value (p.fits, q.fits) (two_ends l x p y q (eqb-true y.next (length l) t)))
      (λ t. third_good y q (field_at l y.next) refl)

line_good : (l : List ℕ) → Good l (read_line l)
unfolding read_line
line_good l =
    pick_case (Good l) (leb (length l) 64)
    (λ _. pick_case (Good l) (eqb (length l) 1) (λ t. alone_good l (get_or l 0 0) (alone (eqb-true (length l) 1 t))) (λ _. first (field_at l 1) refl))
    (λ _. tt)
  where
    alone : length l ≡ 1 → l ≡ get_or l 0 0 ∷ []
    alone e = letter_first l (omega arith) ∙ ap (λ (m : List ℕ). get_or l 0 0 ∷ m) (drop_of_length-le l {i = 1} (omega arith))

    first : (o : Option Number) → field_at l 1 ≡ o → Good l (one_of l o)
    first None e = tt
    first (Some x) e = more_good l x (field_stands l 1 x e) (field_at l x.next) refl

good_says : (l : List ℕ) (c : Line) → read_line l ≡ Some c → Fits c × Says l c
good_says l c e = subst (Good l) e (line_good l)

-- ---- each text is read as what it asks for

alone_read : (l : ℕ) → line_alone l ≡ read_line (l ∷ [])
alone_read l = read_alone (l ∷ []) (omega arith) refl refl

module _ (l a b : ℕ) (fits : TwoFit a b) where
  abbrev x : Number
  x = record { value = a; next = 1 + 1 + places a }

  abbrev y : Number
  y = record { value = b; next = x.next + 1 + places b }

  two_read : line_two l a b ≡ read_line (two_text l a b)
  two_read =
      let t = two_text l a b in
      let small : length t ≤ 64 = omega (arith, fields_short (Two a b)) in
      two_fields t small (λ e. omega arith)
      x (field_read t (l ∷ []) 1 a (field b) refl refl fits.0 refl)
      y (field_read t (l ∷ field a) x.next b [] (rw (append-nil (decimal b))) (omega (arith, length_decimal a)) fits.1 refl)
      (omega (arith, length-append (decimal a) (field b), length_decimal a, length_decimal b)) refl

  three_read : (d : ℕ) → d < 2 ^ 64 → line_three l a b d ≡ read_line (l ∷ (field a ++ field b ++ field d))
  three_read d fd =
      let t = l ∷ (field a ++ field b ++ field d) in
      let z : Number = record { value = d; next = y.next + 1 + places d } in
      let small : length t ≤ 64 = omega (arith, fields_short (Three a b d)) in
      let split : t ≡ l ∷ (field a ++ (field b ++ field d)) = rw (append_assoc (decimal a) (field b) (field d)) in
      let long : length t ≡ y.next + 1 + places d =
      omega (arith, length-append (decimal a ++ field b) (field d), length-append (decimal a) (field b), length_decimal a, length_decimal b, length_decimal d) in
      third t small (λ e. omega arith)
      x (field_read t (l ∷ []) 1 a (field b ++ field d) split refl fits.0 refl)
      y (field_read t (l ∷ field a) x.next b (field d) split (omega (arith, length_decimal a)) fits.1 refl)
      (λ e. omega arith)
      (third_ends t x y z
      (field_read t (l ∷ (field a ++ field b)) y.next d [] (rw (append-nil (decimal d)))
      (omega (arith, length-append (decimal a) (field b), length_decimal a, length_decimal b)) fd refl)
      (sym long) refl)

start_read : (i : Init) (n t : ℕ) → line_start n t (init_number i) ≡ Some (Starts n t i)
start_read FreeAll n t = refl
start_read AllocAll n t = refl

init_fits : (i : Init) → init_number i < 2 ^ 64
init_fits FreeAll = omega arith
init_fits AllocAll = omega arith

text_read : (c : Line) → Fits c → read_line (text_of c) ≡ Some c
unfolding text_of
text_read (Starts n t i) f = sym (three_read letter_i n t f (init_number i) (init_fits i)) ∙ start_read i n t
text_read (Changes (Get a b)) f = sym (two_read letter_g a b f)
text_read (Changes (GetAt a b)) f = sym (two_read letter_p a b f)
text_read (Changes (Put a b)) f = sym (two_read letter_f a b f)
text_read (Changes Recover) f = sym (alone_read letter_r)
text_read (Asks (IsFree a b)) f = sym (two_read letter_q a b f)
text_read (Asks StatsOfAll) f = sym (alone_read letter_s)
text_read (Asks (StatsAt a b)) f = sym (two_read letter_t a b f)
text_read (Asks Audit) f = sym (alone_read letter_a)

short_read : (n : ℕ) (i : Init) → n < 2 ^ 64 → read_line (short_text n i) ≡ Some (Starts n short_tree i)
short_read n i f = sym (two_read letter_i n (init_number i) (f, init_fits i)) ∙ start_read i n short_tree

-- ---- a line that is cut at sixty-five bytes is read as the whole

cut_read : (l : List ℕ) → read_line (take 65 l) ≡ read_line l
cut_read l = elim (dec_le (length l) 65) [
  | yes h ↦ ap read_line (take_all 65 l h)
  | no h ↦ sym (read_long (take 65 l) (rw (length-take-le 65 l (omega arith)) (omega arith))) ∙ read_long l (omega arith)
]

pub reading : Reading
reading = record { good_line = good_says; text_line = text_read; short_line = short_read; cut_line = cut_read }
