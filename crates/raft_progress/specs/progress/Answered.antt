-- What a reply says about a step: whether it was refused, and what is granted.
use Rattle.std.specs.Prelude.{◌≡◌, Bool, true, false, ⊤}
use Rattle.raft_progress.specs.declared.progress.steps.Reply.{Reply}
use Rattle.raft_progress.specs.declared.progress.steps.Reply.TheVariants.{Granted, Unknown}

-- whether a step was refused
abbrev pub is_refused : {ID P : Type 0} → Reply ID P → Bool
is_refused (Granted p) = false
is_refused (Unknown p) = false
is_refused reply = true

-- if a reply contains what is granted, it is g
abbrev pub Tells : {ID P : Type 0} → Reply ID P → P → Type 0
Tells (Granted p) g = p ≡ g
Tells (Unknown p) g = p ≡ g
Tells reply g = ⊤

-- if the reply refuses the step, nothing has changed, and otherwise the step was done; and the
-- reply contains what is now granted
pub record IsAnswered {ID P S : Type 0} (granted_of : S → P) (Done : S → Type 0) (old : S)
    (reply : Reply ID P) (new : S) : Type 0 where
  pub refused : is_refused reply ≡ true → new ≡ old
  pub done : is_refused reply ≡ false → Done new
  pub tells : Tells reply (granted_of new)
