-- Document 01, "Lines to check": which lines are good, and what each asks for.
use Rattle.std.specs.Prelude.{false, Option, Some, None, List, [], ◌∷◌, ◌++◌, ℕ, ◌+◌, eqb, leb, length, get_or}
use Rattle.base.specs.Walk.{pick}
use Rattle.rules.specs.declared.Init.{Init}
use Rattle.rules.specs.declared.Init.TheVariants.{FreeAll, AllocAll}
use Rattle.rules.specs.Numbers.{init_number}
use Rattle.decimal.specs.declared.Number.{Number}
use Rattle.decimal.specs.Decimal.{decimal, number, number_at}
use Rattle.lines.specs.declared.Line.{Line}
use Rattle.lines.specs.declared.Line.TheVariants.{Starts, Changes, Asks}
use Rattle.lines.specs.declared.Change.TheVariants.{Get, GetAt, Put, Recover}
use Rattle.lines.specs.declared.Question.TheVariants.{IsFree, StatsOfAll, StatsAt, Audit}
use Rattle.lines.specs.declared.Fields.{Fields}
use Rattle.lines.specs.declared.Fields.TheVariants.{Nothing, One, Two, Three}
use Rattle.lines.specs.Bytes.{space, letter_i, letter_g, letter_p, letter_f, letter_q, letter_s, letter_t, letter_a, letter_r}

-- "I N m with T = 4"
abbrev pub short_tree : ℕ
short_tree = 4

-- "S", "A", "R": a letter alone
abbrev pub line_alone : ℕ → Option Line
line_alone l =
    pick (eqb l letter_s) (Some (Asks StatsOfAll))
    (pick (eqb l letter_a) (Some (Asks Audit))
    (pick (eqb l letter_r) (Some (Changes Recover))
    None))

-- "m 0 free, 1 held"; "another m is bad too"
abbrev pub line_start : ℕ → ℕ → ℕ → Option Line
line_start n t m =
    pick (eqb m (init_number FreeAll)) (Some (Starts n t FreeAll)) (pick (eqb m (init_number AllocAll)) (Some (Starts n t AllocAll)) None)

-- "G row order", "P frame order", "F frame order", "Q frame order", "T frame order", "I N m": a letter and two numbers
abbrev pub line_two : ℕ → ℕ → ℕ → Option Line
line_two l a b =
    pick (eqb l letter_g) (Some (Changes (Get a b)))
    (pick (eqb l letter_p) (Some (Changes (GetAt a b)))
    (pick (eqb l letter_f) (Some (Changes (Put a b)))
    (pick (eqb l letter_q) (Some (Asks (IsFree a b)))
    (pick (eqb l letter_t) (Some (Asks (StatsAt a b)))
    (pick (eqb l letter_i) (line_start a short_tree b)
    None)))))

-- "I N T m": a letter and three numbers
abbrev pub line_three : ℕ → ℕ → ℕ → ℕ → Option Line
line_three l a b c = pick (eqb l letter_i) (line_start a b c) None

-- "one space between decimal fields": a space at a place, and a number after it
abbrev pub field_at : List ℕ → ℕ → Option Number
field_at l at = pick (eqb (get_or l at 0) space) (number_at l (at + 1)) (number false 0 0)

-- a line of three numbers, which ends with the third
unfoldable pub three_of : List ℕ → Number → Number → Option Number → Option Line
three_of l x y None = None
three_of l x y (Some z) = pick (eqb z.next (length l)) (line_three (get_or l 0 0) x.value y.value z.value) None

-- a line of two numbers, which ends with the second, or of three
unfoldable pub two_of : List ℕ → Number → Option Number → Option Line
unfolding three_of
two_of l x None = None
two_of l x (Some y) = pick (eqb y.next (length l)) (line_two (get_or l 0 0) x.value y.value) (three_of l x y (field_at l y.next))

-- a line that has a number has more than one
abbrev pub one_of : List ℕ → Option Number → Option Line
one_of l None = None
one_of l (Some x) = two_of l x (field_at l x.next)

-- "lines of at most 64 bytes"; "an empty line, a longer line" and any other "are bad"
unfoldable pub read_line : List ℕ → Option Line
unfolding two_of
read_line l = pick (leb (length l) 64) (pick (eqb (length l) 1) (line_alone (get_or l 0 0)) (one_of l (field_at l 1))) None

-- the same from the other side: the text of a field, of as many as there are, and of a line
abbrev pub field : ℕ → List ℕ
field n = space ∷ decimal n

abbrev pub fields_text : Fields → List ℕ
fields_text Nothing = []
fields_text (One a) = field a
fields_text (Two a b) = field a ++ field b
fields_text (Three a b c) = field a ++ field b ++ field c

abbrev pub two_text : ℕ → ℕ → ℕ → List ℕ
two_text l a b = l ∷ (field a ++ field b)

-- the whole form of each line that is good
unfoldable pub text_of : Line → List ℕ
text_of (Starts n t i) = letter_i ∷ (field n ++ field t ++ field (init_number i))
text_of (Changes (Get row order)) = two_text letter_g row order
text_of (Changes (GetAt frame order)) = two_text letter_p frame order
text_of (Changes (Put frame order)) = two_text letter_f frame order
text_of (Changes Recover) = letter_r ∷ []
text_of (Asks (IsFree frame order)) = two_text letter_q frame order
text_of (Asks StatsOfAll) = letter_s ∷ []
text_of (Asks (StatsAt frame order)) = two_text letter_t frame order
text_of (Asks Audit) = letter_a ∷ []

-- the short form of a start in trees of four
abbrev pub short_text : ℕ → Init → List ℕ
short_text n i = two_text letter_i n (init_number i)
