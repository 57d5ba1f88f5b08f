-- Document 01's "a thread acts for its record at a domain"; watching and raising at a ticket root are acting there.
use Rattle.std.specs.Prelude.{Bool, true, false, ◌&&◌, ◌||◌, not, cond, ℕ, eqb, ltb, leb}
use Rattle.model.specs.declared.Place.{Place}
use Rattle.model.specs.declared.Place.TheVariants.{Idle, Prep, Swap, Link, Wait, Inside, Check, Help, Cas, Linger, Grant, Draw, Watch, Raise, Invalid}
use Rattle.model.specs.declared.State.{State}
use Rattle.model.specs.Trees.{Tree, on_path, own_record}
use Rattle.model.specs.States.{acquire_parent, locked, status, place}

-- a status that sends a thread in Wait(L) Inside
unfoldable pub sends_inside : (domain status : ℕ) → Bool
sends_inside l v = cond (eqb l 0) (not (eqb v locked)) (ltb v acquire_parent)

-- on one path parents have lower numbers: a place at l is there or higher than d where l is at most d, higher where it is below
unfoldable pub acts_at : Tree → State → (thread : ℕ) → Place → (domain : ℕ) → Bool
acts_at t s i Idle d = false
acts_at t s i (Prep l) d = ltb l d
acts_at t s i (Swap l) d = ltb l d
acts_at t s i (Link l p) d = leb l d
acts_at t s i (Wait l) d = leb l d || sends_inside l (status s (own_record t i l))
acts_at t s i Inside d = true
acts_at t s i (Check l) d = true
acts_at t s i (Help l) d = leb l d
acts_at t s i (Cas l) d = leb l d
acts_at t s i (Linger l) d = leb l d
acts_at t s i (Grant l r w) d = leb l d || ltb w acquire_parent
acts_at t s i Draw d = ltb 0 d
acts_at t s i Watch d = true
acts_at t s i Raise d = true
acts_at t s i Invalid d = false

-- thread i acts for its record at domain d, which is on its path
unfoldable pub acts : Tree → State → (thread domain : ℕ) → Bool
acts t s i d = on_path t i d && acts_at t s i (place s i) d
