-- What is left at the exit of a call that goes to another thread.
use mathlib.Core.Bool.{Bool, true, false}
use denote.Exit.{if_kept, unseen}
use denote.Param.Send.{Quiet}

-- where nothing is seen at an exit, nothing is kept from another thread
pub unseen_is_quiet : {D : Type 0} (kept : Bool) → Quiet (if_kept kept (unseen {D = D}) (unseen {D = D}))
unseen_is_quiet true x w = tt
unseen_is_quiet false x w = tt
