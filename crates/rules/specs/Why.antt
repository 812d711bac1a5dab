-- Document 02, W-202: why a get or a put is turned down, in terms of free and held frames.
use Rattle.std.specs.Prelude.{Bool, not, ◌&&◌, List, ℕ, ◌+◌, ◌-◌, ◌*◌, ◌^◌, eqb, leb, ltb}
use Rattle.rules.specs.Words.{pick, first, all, unless, or_else, mark, huge_of, tree_of, top_order, group_of, Mem, entry_of, block_refusal, start_refusal}
use Rattle.rules.specs.Numbered.{Why}
use Rattle.rules.specs.Audit.{reason}
use Rattle.rules.specs.Consistent.{free, held, entirely, free_frames}

-- the answer: code, reason and frame
abbrev pub why : ℕ → ℕ → ℕ → Why
why c r f = record { code = c; reason = r; frame = f }

-- "the tree" y is consistent: no huge frame of it has a reason of the audit's, absent ones too
unfoldable pub sound : ℕ → ℕ → ℕ → Mem → ℕ → Bool
unfolding reason
sound h n t m y = all (λ x. eqb (reason h n m x) 0) t (y * t)

-- "1 to 6 as in the request itself, then 8 if the tree isn't consistent", with reason and frame "both 0 when the tool refuses"
abbrev pub told : ℕ → Bool → Why → Why
told refusal consistent w = pick (eqb (or_else refusal (unless consistent 8)) 0) w (why (or_else refusal (unless consistent 8)) 0 0)

-- "1, the tree has fewer than 2^order free frames"
abbrev pub too_few : ℕ → ℕ → ℕ → Mem → ℕ → ℕ → Bool
too_few h n t m y o = ltb (free_frames h n m (2 ^ h * t) y) (2 ^ o)

-- "2, .. the order is below 9 and no single huge frame has that many"
abbrev pub spread : ℕ → ℕ → ℕ → Mem → ℕ → ℕ → Bool
spread h n t m y o = ltb o h && all (λ x. ltb (free_frames h n m (2 ^ h) x) (2 ^ o)) t (y * t)

-- "3, .. no aligned block": none of the tree's runs of 2^order frames is entirely free
abbrev pub no_block : ℕ → ℕ → ℕ → Mem → ℕ → ℕ → Bool
no_block h n t m y o = all (λ b. not (entirely h n m (2 ^ o) b)) (2 ^ (top_order h t - o)) (y * 2 ^ (top_order h t - o))

-- "Get without a frame", in tree y
unfoldable pub get_reason : ℕ → ℕ → ℕ → Mem → ℕ → ℕ → ℕ
get_reason h n t m y o = pick (too_few h n t m y o) 1 (pick (spread h n t m y o) 2 (pick (no_block h n t m y o) 3 0))

-- "Get with a frame: 4, with the lowest held frame of the block"
unfoldable pub get_at_reason : ℕ → ℕ → Mem → ℕ → ℕ → Why
get_at_reason h n m a o = let f = first (held h n m) (2 ^ o) a in pick (ltb f (a + 2 ^ o)) (why 0 4 f) (why 0 0 0)

-- huge frame x has no mark: "held singly", where all its frames are held
abbrev pub unmarked : List ℕ → ℕ → Bool
unmarked es x = not (eqb (entry_of es x) mark)

-- "Put: 5, with the lowest free frame of the block; 6, all held, but a huge frame in it is held singly, with the lowest such one's first frame"
unfoldable pub put_reason : ℕ → ℕ → Mem → ℕ → ℕ → Why
put_reason h n m a o =
    let f = first (free h n m) (2 ^ o) a in
    let x = first (unmarked m.entries) (group_of h o) (huge_of h a) in
    pick (ltb f (a + 2 ^ o)) (why 0 5 f) (pick (leb h o && ltb x (huge_of h a + group_of h o)) (why 0 6 (x * 2 ^ h)) (why 0 0 0))

unfoldable pub why_get : ℕ → ℕ → ℕ → Mem → ℕ → ℕ → Why
unfolding sound get_reason
why_get h n t m row o = told (start_refusal h n t m row o) (sound h n t m (tree_of h t (row * 64))) (why 0 (get_reason h n t m (tree_of h t (row * 64)) o) 0)

unfoldable pub why_get_at : ℕ → ℕ → ℕ → Mem → ℕ → ℕ → Why
unfolding sound get_at_reason
why_get_at h n t m a o = told (block_refusal h n t m a o) (sound h n t m (tree_of h t a)) (get_at_reason h n m a o)

unfoldable pub why_put : ℕ → ℕ → ℕ → Mem → ℕ → ℕ → Why
unfolding sound put_reason
why_put h n t m a o = told (block_refusal h n t m a o) (sound h n t m (tree_of h t a)) (put_reason h n m a o)
