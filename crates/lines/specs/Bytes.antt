-- The bytes that lines are made of beside digits, by name. They are ASCII's.
use Rattle.std.specs.Prelude.{ℕ}

abbrev pub LF : ℕ
LF = 10

abbrev pub space : ℕ
space = 32

-- the letters, in document 01's order
abbrev pub letter_i : ℕ
letter_i = 73

abbrev pub letter_g : ℕ
letter_g = 71

abbrev pub letter_p : ℕ
letter_p = 80

abbrev pub letter_f : ℕ
letter_f = 70

abbrev pub letter_q : ℕ
letter_q = 81

abbrev pub letter_s : ℕ
letter_s = 83

abbrev pub letter_t : ℕ
letter_t = 84

abbrev pub letter_a : ℕ
letter_a = 65

abbrev pub letter_r : ℕ
letter_r = 82
