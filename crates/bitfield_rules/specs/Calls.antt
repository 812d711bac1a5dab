-- The calls on the rows of one huge frame, of huge order h: document 01, "Refusal numbers" and "Get".
use Rattle.std.specs.Prelude.{Result, Ok, Err, Bool, true, false, not, ◌&&◌, List, ℕ, ◌+◌, ◌-◌, ◌*◌, ◌/◌, ◌%◌, ◌^◌, eqb, leb, ltb, length, get_or, replicate}
use Rattle.base.specs.Walk.{pick, first, all, count}
use Rattle.base.specs.Ring.{steps_to}
use Rattle.base.specs.Code.{unless, or_else, Out, out, stored}
use Rattle.base.specs.declared.Refusal.{Refusal}
use Rattle.base.specs.Refused.{number_of}
use Rattle.base.specs.Size.{rows_per}
use Rattle.base.specs.Bits.{solid, bit_is, block_is, with_bits}

-- the numbers of an answer, its code 0 where the call is done: of a search, a count and a question
pub record Placed : Type 0 where
  pub code : ℕ
  pub place : ℕ

pub record ZeroCount : Type 0 where
  pub code : ℕ
  pub zeros : ℕ

pub record Answered : Type 0 where
  pub code : ℕ
  pub yes : Bool

abbrev pub placed : ℕ → ℕ → Placed
placed c p = record { code = c; place = p }

abbrev pub zero_count : ℕ → ℕ → ZeroCount
zero_count c z = record { code = c; zeros = z }

abbrev pub answered : ℕ → Bool → Answered
answered c y = record { code = c; yes = y }

-- "A refusal returns its number with every other field 0": the numbers of the answers of a search, a count and a question
abbrev pub placed_of : Result ℕ Refusal → Placed
placed_of (Ok p) = placed 0 p
placed_of (Err e) = placed (number_of e) 0

abbrev pub count_of : Result ℕ Refusal → ZeroCount
count_of (Ok z) = zero_count 0 z
count_of (Err e) = zero_count (number_of e) 0

abbrev pub answered_of : Result Bool Refusal → Answered
answered_of (Ok y) = answered 0 y
answered_of (Err e) = answered (number_of e) false

-- "Refusal numbers": exactly the rows of a huge frame, else 3
abbrev pub rows_code : ℕ → ℕ → ℕ
rows_code h len = unless (eqb len (rows_per h)) 3

-- .. an order to the huge order, else 4
abbrev pub order_code : ℕ → ℕ → ℕ → ℕ
order_code h len o = or_else (rows_code h len) (unless (leb o h) 4)

-- .. place + 2 ^ order within the huge frame, else 5; an aligned place, else 6
abbrev pub block_code : ℕ → ℕ → ℕ → ℕ → ℕ
block_code h len p o = or_else (order_code h len o) (or_else (unless (leb (p + 2 ^ o) (2 ^ h)) 5) (unless (eqb (p % 2 ^ o) 0) 6))

-- .. start ≤ end, and end within the huge frame, else 5
abbrev pub range_code : ℕ → ℕ → ℕ → ℕ → ℕ
range_code h len a e = or_else (rows_code h len) (unless (leb a e && leb e (2 ^ h)) 5)

-- set: the bits from a up to e all b; equal ends change nothing
unfoldable pub set : ℕ → List ℕ → ℕ → ℕ → Bool → Out ℕ (List ℕ)
set h rows a e b = stored (range_code h (length rows) a e) rows (with_bits b rows a e)

-- fill: every bit b
unfoldable pub fill : ℕ → List ℕ → Bool → Out ℕ (List ℕ)
fill h rows b = stored (rows_code h (length rows)) rows (with_bits b rows 0 (2 ^ h))

-- toggle: the block's bits turned where all are as expected, else 7
unfoldable pub toggle : ℕ → List ℕ → ℕ → ℕ → Bool → Out ℕ (List ℕ)
toggle h rows p o b =
    stored (or_else (block_code h (length rows) p o) (unless (block_is b rows p (2 ^ o)) 7)) rows (with_bits (not b) rows p (p + 2 ^ o))

-- whole rows turned where all of them are as expected, else 7: a toggle above order 6
unfoldable pub turn_rows : List ℕ → Bool → Out ℕ (List ℕ)
turn_rows rows b = stored (unless (all (λ i. eqb (get_or rows i 0) (solid b 64)) (length rows) 0) 7) rows (replicate (length rows) (solid (not b) 64))

-- is_zero: whether the block's bits are all clear
unfoldable pub is_zero : ℕ → List ℕ → ℕ → ℕ → Answered
is_zero h rows p o =
    pick (eqb (block_code h (length rows) p o) 0) (answered 0 (block_is false rows p (2 ^ o))) (answered (block_code h (length rows) p o) false)

-- count_zeros: the number of clear bits
unfoldable pub count_zeros : ℕ → List ℕ → ZeroCount
count_zeros h rows = pick (eqb (rows_code h (length rows)) 0) (zero_count 0 (count (bit_is false rows) (2 ^ h) 0)) (zero_count (rows_code h (length rows)) 0)

-- the rows of a group that is searched as one: above order 6 those of a block, 2 ^ (o - 6), and else 1
abbrev pub group_rows : ℕ → ℕ
group_rows o = 2 ^ (o - 6)

-- "Get", and document 02, W-206: the first row that a search visits is the first of "the group holding (start row mod 8)"
abbrev pub origin : ℕ → ℕ → ℕ → ℕ
origin h start o = start % rows_per h / group_rows o * group_rows o

-- the place that a search visits after j others: the aligned places upwards from the origin, wrapping
abbrev pub visited : ℕ → ℕ → ℕ → ℕ → ℕ
visited h start o j = (origin h start o * 64 + j * 2 ^ o) % 2 ^ h

-- how far a place lies behind the origin, wrapping: places are visited in the order of this number
abbrev pub distance : ℕ → ℕ → ℕ → ℕ → ℕ
distance h start o p = steps_to (2 ^ h) (origin h start o * 64) p

-- how many places a search passes before the first whose bits are all clear
unfoldable pub passed : ℕ → List ℕ → ℕ → ℕ → ℕ
passed h rows start o = first (λ j. block_is false rows (visited h start o j) (2 ^ o)) (2 ^ (h - o)) 0

-- the search: the first clear block in that order, else 7
unfoldable pub first_zeros : ℕ → List ℕ → ℕ → ℕ → Placed
first_zeros h rows start o =
    pick (eqb (order_code h (length rows) o) 0)
    (pick (ltb (passed h rows start o) (2 ^ (h - o))) (placed 0 (visited h start o (passed h rows start o))) (placed 7 0))
    (placed (order_code h (length rows) o) 0)

-- set_first_zeros: the same search, and the block's bits set
unfoldable pub set_first_zeros : ℕ → List ℕ → ℕ → ℕ → Out Placed (List ℕ)
unfolding first_zeros
set_first_zeros h rows start o =
    pick (eqb (first_zeros h rows start o).code 0)
    (out (first_zeros h rows start o) (with_bits true rows (first_zeros h rows start o).place ((first_zeros h rows start o).place + 2 ^ o)))
    (out (first_zeros h rows start o) rows)
