-- Document 01, "Numbers and memory": the numbers that follow from the huge order h, the tree size t and the frames n.
use Rattle.std.specs.Prelude.{Bool, ℕ, ◌+◌, ◌-◌, ◌*◌, ◌/◌, ◌%◌, ◌^◌, eqb, leb, ltb}
use Rattle.base.specs.Walk.{first}
use Rattle.base.specs.Size.{rows_per}
use Rattle.rules.specs.declared.Init.{Init}
use Rattle.rules.specs.declared.Init.TheVariants.{FreeAll, AllocAll}

-- "the mark: a huge frame held whole"
abbrev pub mark : ℕ
mark = 65535

-- "N frames, 1 to 1,048,576"
abbrev pub frames_max : ℕ
frames_max = 1048576

-- "frame f: row f div 64, bit f mod 64, huge frame f div 512, tree f div 512T"
abbrev pub row_of : ℕ → ℕ
row_of f = f / 64

abbrev pub bit_of : ℕ → ℕ
bit_of f = f % 64

abbrev pub huge_of : ℕ → ℕ → ℕ
huge_of h f = f / 2 ^ h

abbrev pub tree_of : ℕ → ℕ → ℕ → ℕ
tree_of h t f = f / (2 ^ h * t)

-- the first entry of a frame's tree
abbrev pub tree_at : ℕ → ℕ → ℕ → ℕ
tree_at h t f = tree_of h t f * t

-- "T one of 1, 2, 4, .. 512": log2 T, or 10 where t is none of the ten
unfoldable pub tree_log : ℕ → ℕ
unfolding first
tree_log t = first (λ k. eqb (2 ^ k) t) 10 0

abbrev pub is_tree : ℕ → Bool
is_tree t = ltb (tree_log t) 10

-- "top order = 9 + log2 T"
abbrev pub top_order : ℕ → ℕ → ℕ
top_order h t = h + tree_log t

-- "aligned at order o: a multiple of 2^o"
abbrev pub aligned : ℕ → ℕ → Bool
aligned f o = eqb (f % 2 ^ o) 0

-- the first frame of the aligned block of order o that holds frame f
abbrev pub block_at : ℕ → ℕ → ℕ
block_at o f = f / 2 ^ o * 2 ^ o

-- a / b, rounded up
abbrev pub ceil : ℕ → ℕ → ℕ
ceil a b = (a + (b - 1)) / b

-- "lent rows: at least 8·ceil(N/512). Lent entries: at least T·ceil(N/512T)"
abbrev pub rows_needed : ℕ → ℕ → ℕ
rows_needed h n = rows_per h * ceil n (2 ^ h)

abbrev pub trees_needed : ℕ → ℕ → ℕ → ℕ
trees_needed h n t = ceil n (2 ^ h * t)

abbrev pub entries_needed : ℕ → ℕ → ℕ → ℕ
entries_needed h n t = t * trees_needed h n t

-- "entries with no huge frame behind them are absent": a present huge frame begins below N
abbrev pub present : ℕ → ℕ → ℕ → Bool
present h n x = ltb (x * 2 ^ h) n

-- "lies wholly below N"
abbrev pub whole : ℕ → ℕ → ℕ → Bool
whole h n x = leb ((x + 1) * 2 ^ h) n

-- "m 0 free, 1 held": the number of each start
abbrev pub init_number : Init → ℕ
init_number FreeAll = 0
init_number AllocAll = 1

-- "groups of 2^(order−9) entries"
abbrev pub group_of : ℕ → ℕ → ℕ
group_of h o = 2 ^ (o - h)
