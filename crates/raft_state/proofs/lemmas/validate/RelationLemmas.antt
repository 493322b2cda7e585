-- Relations that are tested in turn: none is broken exactly if each holds.
use Rattle.std.proofs.Common.{◌≡◌, Bool, true, false, Option, Some, None, if◌then◌else◌, refl}

-- relations of which none is broken: the first one holds, and so do the others
pub all_hold : {E : Type 0} (t : Bool) (e : E) (others : Option E) → (if t then others else Some e) ≡ None → (t ≡ true) × (others ≡ None)
all_hold true e others h = (refl, h)
all_hold false e others h = cc

-- relations of which the first one holds, and so do the others: none is broken
pub hold_all : {E : Type 0} (t : Bool) (e : E) (others : Option E) → t ≡ true → others ≡ None → (if t then others else Some e) ≡ None
hold_all t e others h o = rw h o
