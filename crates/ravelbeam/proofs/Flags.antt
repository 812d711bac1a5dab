-- A truth as the number that a cast makes of it. Assumes nothing.
use mathlib.Core.Path.{◌≡◌, refl}
use mathlib.Core.Bool.{Bool, true, false}
use Rattle.base.specs.Walk.{pick}
use mir.Val.{bool_byte}

pub flag_is : (b : Bool) → bool_byte b ≡ pick b 1 0
flag_is true = refl
flag_is false = refl
