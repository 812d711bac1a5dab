-- Document 01, "Lines to check": "decimal fields, no leading zeros, below 2^64".
use Rattle.std.specs.Prelude.{Bool, true, false, not, ◌&&◌, ◌||◌, Option, Some, None, List, [], ◌∷◌, ◌++◌, ℕ, zero, suc, ◌+◌, ◌-◌, ◌*◌, ◌/◌, ◌%◌, ◌^◌, eqb, leb, ltb, length, get_or}
use Rattle.std.proofs.Math.Seq.{paste}
use Rattle.base.specs.Walk.{pick, first}
use Rattle.base.specs.Code.{Out, out}
use Rattle.decimal.specs.declared.Number.{Number}

-- the last k digits of n, the most significant first; 48 is `0`
unfoldable pub digits : ℕ → ℕ → List ℕ
digits zero n = []
digits (suc k) n = digits k (n / 10) ++ ((48 + n % 10) ∷ [])

-- how many digits n has: the fewest, and at least one; every n below 2^64 has at most twenty
unfoldable pub places : ℕ → ℕ
unfolding first
places n = first (λ k. ltb n (10 ^ k)) 19 1

-- the text of n
abbrev pub decimal : ℕ → List ℕ
decimal n = digits (places n) n

-- whether a byte is a digit
abbrev pub is_digit : ℕ → Bool
is_digit c = leb 48 c && leb c 57

-- where the digits from a place on end
unfoldable pub digits_end : List ℕ → ℕ → ℕ
digits_end l at = first (λ i. not (is_digit (get_or l i 0))) (length l - at) at

-- the number that k digits from a place on say
unfoldable pub value_at : List ℕ → ℕ → ℕ → ℕ
value_at l at zero = 0
value_at l at (suc k) = value_at l at k * 10 + (get_or l (at + k) 0 - 48)

-- what is read: a number and where its text ends (true), or none
abbrev pub number : Bool → ℕ → ℕ → Option Number
number true v e = Some (record { value = v; next = e })
number false v e = None

-- whether the digits from at up to e are a number: there are some, the first of several is no `0`, and it is below 2^64
abbrev pub is_number : List ℕ → ℕ → ℕ → Bool
is_number l at e = ltb at e && (eqb e (at + 1) || not (eqb (get_or l at 0) 48)) && ltb (value_at l at (e - at)) (2 ^ 64)

-- the number whose digits begin at a place of a line
unfoldable pub number_at : List ℕ → ℕ → Option Number
unfolding digits_end value_at
number_at l at = pick (is_number l at (digits_end l at)) (number true (value_at l at (digits_end l at - at)) (digits_end l at)) (number false 0 0)

-- a text with n from a place on, and where n's text ends
unfoldable pub number_to : List ℕ → ℕ → ℕ → Out ℕ (List ℕ)
unfolding digits places
number_to l at n = out (at + places n) (paste l at (decimal n) (places n))
