-- Which domain is a ticket lock, as facts.
use mathlib.Core.Path.{◌≡◌, refl, sym, ◌∙◌}
use mathlib.Core.Bool.{Bool, true, false, ◌&&◌, not, false≢true}
use mathlib.Core.Logic.{◌≢◌}
use Prim.Native.Nat.{ℕ}
use lib.Dec.{eqb}
use borrow.Author.Tests.{eqb-true, eq-eqb, ne_eqb, not-true}
use Rattle.model.specs.Trees.{Tree, is_ticket, on_path}
use Rattle.model.specs.WellFormed.{queue_on_path}
use Rattle.model.proofs.Tests.{and_both}

pub ticket_facts : (t : Tree) (d : ℕ) → is_ticket t d ≡ true → (t.ticket_root ≡ true) × (d ≡ 0)
unfolding is_ticket
ticket_facts t d e = let both = and_both t.ticket_root (eqb d 0) e in (both.0, eqb-true d 0 both.1)

pub ticket_yes : (t : Tree) (d : ℕ) → t.ticket_root ≡ true → d ≡ 0 → is_ticket t d ≡ true
unfolding is_ticket
ticket_yes t d e z = rw (e, eq-eqb d 0 z)

pub ticket_lower : (t : Tree) (d : ℕ) → d ≢ 0 → is_ticket t d ≡ false
unfolding is_ticket
ticket_lower t d n = by t.ticket_root (ne_eqb d 0 n)
  where
    by : (b : Bool) → eqb d 0 ≡ false → b && eqb d 0 ≡ false
    by true e = e
    by false e = refl

pub ticket_none : (t : Tree) (d : ℕ) → t.ticket_root ≡ false → is_ticket t d ≡ false
unfolding is_ticket
ticket_none t d e = rw e

-- if the root is a ticket lock, a domain with a queue is another domain
pub queue_lower : (t : Tree) (d : ℕ) → is_ticket t d ≡ false → t.ticket_root ≡ true → d ≢ 0
queue_lower t d n e z = false≢true (sym n ∙ ticket_yes t d e z)

pub queue_facts : (t : Tree) (i l : ℕ) → queue_on_path t i l ≡ true → (on_path t i l ≡ true) × (is_ticket t l ≡ false)
unfolding queue_on_path
queue_facts t i l e = let both = and_both (on_path t i l) (not (is_ticket t l)) e in (both.0, not-true (is_ticket t l) both.1)

pub queue_yes : (t : Tree) (i l : ℕ) → on_path t i l ≡ true → is_ticket t l ≡ false → queue_on_path t i l ≡ true
unfolding queue_on_path
queue_yes t i l o n = rw (o, n)
