-- `rows::acquire::prep` meets its contract: it does Prep.
use Rattle.std.proofs.Common.{◌≡◌, ℕ, Bool, true, false, cond, eqb, refl}
use Rattle.model.specs.declared.State.{State}
use Rattle.model.specs.Trees.{Tree}
use Rattle.model.specs.States.{wait_word, locked, root_word}
use Rattle.model.specs.Steps.{prep_with, prep_row}
use Rattle.rows.proofs.acquire.prep.Goals as goal

-- one row for both cases, with the word chosen by the domain
chosen : (t : Tree) (i l : ℕ) (s : State) → prep_row t i l s ≡ prep_with t i l (root_word l locked wait_word) s
unfolding prep_row
chosen t i l s = by (eqb l 0)
  where
    by : (b : Bool) → cond b (prep_with t i l locked s) (prep_with t i l wait_word s) ≡ prep_with t i l (cond b locked wait_word) s
    by true = refl
    by false = refl

pub returns-clause-row_done : goal.returns-clause-row_done
returns-clause-row_done c = record { places_kept = refl; does = λ t i ps S. rw (chosen t i _ _, c.to.ensures, c.root_word_at.ensures, ← S.own_is) (record { kind_is = refl; state_left = refl }) }
