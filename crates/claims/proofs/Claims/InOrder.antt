-- In each domain, standing ungranted ends in the order in which it began.
use mathlib.Core.Path.{◌≡◌, refl, sym, ◌∙◌}
use mathlib.Core.Bool.{Bool, true, false, cond}
use mathlib.Core.List.{List, [], ◌∷◌, ◌++◌, append_assoc, append-nil}
use Prim.Native.Nat.{ℕ}
use lib.Dec.{eqb}
use borrow.Author.Tests.{eq-eqb, ne_eqb}
use Rattle.model.specs.Trees.{Tree}
use Rattle.model.specs.Steps.{is_entry, Standing, unchanged, begins, ends, Step}
use Rattle.model.specs.Runs.{begun_in, ended_in, begun, ended}
use Rattle.model.specs.Calls.{Prefix}
use Rattle.model.proofs.Lists.{same_or, rest}
use Rattle.claims.proofs.Queues.Moves as moves
use Rattle.claims.proofs.Queues.Moves.{State, Event, empty, Run, here}
use Rattle.claims.proofs.Queues.Order.{in_order}
use Rattle.claims.proofs.Words.Outcome.{ends_shown, standing_shown, entry_shown, shown}
use Rattle.claims.proofs.Claims.Reached.{all_shown}

-- JOINED LISTS OF EVENTS
pub begun_append : (d : ℕ) (xs ys : List Event) → moves.begun d (xs ++ ys) ≡ moves.begun d xs ++ moves.begun d ys
unfolding moves.begun
begun_append d [] ys = refl
begun_append d (x ∷ xs) ys = rw (begun_append d xs ys) (simp append_assoc)

pub given_append : (d : ℕ) (xs ys : List Event) → moves.given d (xs ++ ys) ≡ moves.given d xs ++ moves.given d ys
unfolding moves.given
given_append d [] ys = refl
given_append d (x ∷ xs) ys = rw (given_append d xs ys) (simp append_assoc)

-- a test of one domain's number, with its sides exchanged
here_turned : (d e m : ℕ) → here d e m ≡ cond (eqb e d) (m ∷ []) []
unfolding here
here_turned d e m =
    same_or d e _ (λ z. rw (eq-eqb d e z, eq-eqb e d (sym z))) (λ n. rw (ne_eqb d e n, ne_eqb e d (λ z. n (sym z))))

neither : (b : Bool) (xs : List ℕ) → xs ≡ [] → cond b xs [] ≡ []
neither true xs e = e
neither false xs e = refl

-- an entry neither begins nor ends a standing
entry_begun : (d : ℕ) (b : Bool) (i : ℕ) → moves.begun d (cond b (moves.entered i ∷ []) []) ≡ []
unfolding moves.begun moves.begun_by
entry_begun d true i = refl
entry_begun d false i = refl

pub entry_given : (d : ℕ) (b : Bool) (i : ℕ) → moves.given d (cond b (moves.entered i ∷ []) []) ≡ []
unfolding moves.given moves.given_by
entry_given d true i = refl
entry_given d false i = refl

-- an end begins nothing, and ends what it names
ends_begun : (d e : ℕ) (ms : List ℕ) → moves.begun d (ends_shown e ms) ≡ []
unfolding moves.begun moves.begun_by ends_shown
ends_begun d e [] = refl
ends_begun d e (m ∷ ms) = ends_begun d e ms

ends_given : (d e : ℕ) (ms : List ℕ) → moves.given d (ends_shown e ms) ≡ cond (eqb e d) ms []
unfolding moves.given moves.given_by ends_shown
ends_given d e [] = sym (neither (eqb e d) [] refl)
ends_given d e (m ∷ ms) = rw (here_turned d e m, ends_given d e ms) (by (eqb e d))
  where
    by : (b : Bool) → cond b (m ∷ []) [] ++ cond b ms [] ≡ cond b (m ∷ ms) []
    by true = refl
    by false = refl

standing_begun : (d e : ℕ) (x : Standing) → moves.begun d (standing_shown x e) ≡ cond (eqb e d) (begun_in x) []
unfolding moves.begun moves.begun_by standing_shown begun_in
standing_begun d e unchanged = sym (neither (eqb e d) [] refl)
standing_begun d e (begins m) = append-nil (here d e m) ∙ here_turned d e m
standing_begun d e (ends ms) = ends_begun d e ms ∙ sym (neither (eqb e d) [] refl)

standing_given : (d e : ℕ) (x : Standing) → moves.given d (standing_shown x e) ≡ cond (eqb e d) (ended_in x) []
unfolding moves.given moves.given_by standing_shown ended_in
standing_given d e unchanged = sym (neither (eqb e d) [] refl)
standing_given d e (begins m) = sym (neither (eqb e d) [] refl)
standing_given d e (ends ms) = ends_given d e ms

step_begun : (d : ℕ) (x : Step) → moves.begun d (shown x) ≡ cond (eqb x.domain d) (begun_in x.standing) []
unfolding shown entry_shown
step_begun d x =
    begun_append d (standing_shown x.standing x.domain) (cond (is_entry x.kind) (moves.entered x.thread ∷ []) [])
    ∙ rw (entry_begun d (is_entry x.kind) x.thread) (append-nil (moves.begun d (standing_shown x.standing x.domain)))
    ∙ standing_begun d x.domain x.standing

step_given : (d : ℕ) (x : Step) → moves.given d (shown x) ≡ cond (eqb x.domain d) (ended_in x.standing) []
unfolding shown entry_shown
step_given d x =
    given_append d (standing_shown x.standing x.domain) (cond (is_entry x.kind) (moves.entered x.thread ∷ []) [])
    ∙ rw (entry_given d (is_entry x.kind) x.thread) (append-nil (moves.given d (standing_shown x.standing x.domain)))
    ∙ standing_given d x.domain x.standing

-- the members at beginnings and ends are those of the events that are shown
pub begun_shown : (d : ℕ) (xs : List Step) → moves.begun d (all_shown xs) ≡ begun d xs
unfolding all_shown begun moves.begun
begun_shown d [] = refl
begun_shown d (x ∷ xs) = begun_append d (shown x) (all_shown xs) ∙ rw (step_begun d x, begun_shown d xs)

pub ended_shown : (d : ℕ) (xs : List Step) → moves.given d (all_shown xs) ≡ ended d xs
unfolding all_shown ended moves.given
ended_shown d [] = refl
ended_shown d (x ∷ xs) = given_append d (shown x) (all_shown xs) ∙ rw (step_given d x, ended_shown d xs)

pub ordered : (t : Tree) (d : ℕ) (xs : List Step) (g : State) → Run t empty (all_shown xs) g → Prefix (ended d xs) (begun d xs)
ordered t d xs g r =
    record {
      remainder = rest (g.queue d);
      joins = rw (← ended_shown d xs, ← begun_shown d xs) (sym (in_order t d r));
    }
