-- The row of Wait, by its status: not granted, granted the domain, or granted the lock.
use mathlib.Core.Path.{◌≡◌, refl, ◌∙◌}
use mathlib.Core.Bool.{true}
use mathlib.Core.Logic.{◌≢◌}
use Prim.Native.Nat.{ℕ, ◌<◌}
use native.Mathlib.Omega.{arith}
use borrow.Author.Tests.{eq-eqb, ne_eqb}
use Rattle.model.specs.declared.Place.TheVariants.{Wait}
use Rattle.model.specs.declared.State.{State}
use Rattle.model.specs.Trees.{Tree, own_record}
use Rattle.model.specs.States.{acquire_parent, wait_word, locked, root_word, status}
use Rattle.model.specs.Steps.{Kind, root_entry, passed_entry, crossed_entry, is_entry, RowResult, stays, enters, acquires_parent, wait_row}
use Rattle.model.proofs.Branches.{Branch, wait_root_locked, wait_root_granted, wait_ungranted, wait_acquires, wait_passed, wait_crossed, wait_branch}

module _ (t : Tree) (i : ℕ) (s : State) where
  -- not granted: it stays
  pub ungranted_row : (l : ℕ) → status s (own_record t i l) ≡ root_word l locked wait_word → wait_row t i l s ≡ stays s
  ungranted_row l v = by (wait_branch t i s l)
    where
      by : {x : RowResult} → Branch t i s (Wait l) x → x ≡ stays s
      by (wait_root_locked _ z e) = refl
      by (wait_root_granted _ z e) = absurd (e (v ∙ rw (eq-eqb l 0 z)))
      by (wait_ungranted _ z e) = refl
      by (wait_acquires _ z e) = absurd (let y : status s (own_record t i l) ≡ wait_word = v ∙ rw (ne_eqb l 0 z) in omega arith)
      by (wait_passed _ z e f a) = absurd (e (v ∙ rw (ne_eqb l 0 z)))
      by (wait_crossed _ z e f a) = absurd (e (v ∙ rw (ne_eqb l 0 z)))

  -- granted the domain: its count starts, and the parent is acquired next
  pub acquiring_row : (l : ℕ) → l ≢ 0 → status s (own_record t i l) ≡ acquire_parent → wait_row t i l s ≡ acquires_parent t i l s
  acquiring_row l n v = by (wait_branch t i s l)
    where
      by : {x : RowResult} → Branch t i s (Wait l) x → x ≡ acquires_parent t i l s
      by (wait_root_locked _ z e) = absurd (n z)
      by (wait_root_granted _ z e) = absurd (n z)
      by (wait_ungranted _ z e) = absurd (omega arith)
      by (wait_acquires _ z e) = refl
      by (wait_passed _ z e f a) = absurd (f v)
      by (wait_crossed _ z e f a) = absurd (f v)

  -- a thread that is granted the lock enters; its domain gives the kind
  pub data Granted (l : ℕ) : RowResult → Type 0 where
    granted_root : l ≡ 0 → Granted l (enters root_entry i s)
    granted_inner : l ≢ 0 → (k : Kind) → is_entry k ≡ true → Granted l (enters k i s)

  pub granted_row : (l : ℕ) → (l ≡ 0 → status s (own_record t i l) ≢ locked) → (l ≢ 0 → status s (own_record t i l) < acquire_parent) → Granted l (wait_row t i l s)
  unfolding is_entry
  granted_row l f g = by (wait_branch t i s l)
    where
      by : {x : RowResult} → Branch t i s (Wait l) x → Granted l x
      by (wait_root_locked _ z e) = absurd (f z e)
      by (wait_root_granted _ z e) = granted_root z
      by (wait_ungranted _ z e) = absurd (omega (arith, g z))
      by (wait_acquires _ z e) = absurd (omega (arith, g z))
      by (wait_passed _ z e y a) = granted_inner z passed_entry refl
      by (wait_crossed _ z e y a) = granted_inner z crossed_entry refl
