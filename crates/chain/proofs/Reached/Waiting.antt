-- In states reached from fresh every thread has a chain, which explains why it waits.
use mathlib.Core.Path.{◌≡◌, refl, sym, ap, ◌∙◌}
use mathlib.Core.Bool.{Bool, true, false, cond, false≢true}
use mathlib.Core.List.{List, [], ◌∷◌, ◌++◌, nil≢cons, head-eq_of_cons-eq, tail-eq_of_cons-eq}
use mathlib.Core.Logic.{◌≢◌, ◌⊎◌, inl, inr}
use Prim.Native.Nat.{ℕ, zero, suc, ◌+◌, ◌≤◌, ◌<◌}
use native.Mathlib.Omega.{arith}
use lib.ListN.{length}
use borrow.Author.Tests.{ne_eqb}
use Rattle.model.specs.declared.State.{State as WordState}
use Rattle.model.specs.Trees.{Tree}
use Rattle.model.specs.Steps.{step}
use Rattle.model.specs.Runs.{occurrences}
use Rattle.model.specs.Counters.{lock_state}
use Rattle.model.specs.Refusals.{accepted, refusal, tree_refusal}
use Rattle.model.specs.Laws.{AllThreads, SixteenBit}
use Rattle.model.proofs.Trees.Accepted.{Accepted, accepted as accepted_tree}
use Rattle.model.proofs.Lists.{same_or}
use Rattle.model.proofs.Laws.FromFresh.{formed_from_fresh}
use Rattle.model.proofs.Laws.Calls.{early_accepted}
use Rattle.claims.proofs.Claims.Reached.{Queued, queued_from_fresh}
use Rattle.chain.specs.Chain.{stays, looks_to, chain_from, chain}
use Rattle.chain.specs.Laws.{OnlyStays, Explains, WaitingLaw}
use Rattle.chain.proofs.Refusing.{not_refused}
use Rattle.chain.proofs.Chains.{occurrences_snoc, length_snoc, SomeThreads, threads_short, threads_one, threads_more, from_end, from_link}
use Rattle.chain.proofs.Reached.Actors.{stays_row}
use Rattle.chain.proofs.Reached.Ahead.{Looked, looked_one, looks_one}
use Rattle.chain.proofs.Reached.Falling.{rank, falls}
use Rattle.chain.proofs.Reached.Staying.{only_stays}

-- THE LINKS of a list with one more thread: those it had, and the last
abbrev IsLink : List ℕ → (waiting ahead : ℕ) → Type 0
IsLink c a b = (before : List ℕ) × (after : List ℕ) × (c ≡ before ++ (a ∷ b ∷ after))

longer_link : (front : List ℕ) (i j : ℕ) (before : List ℕ) (a b : ℕ) (after : List ℕ) → front ++ (i ∷ []) ++ (j ∷ []) ≡ before ++ (a ∷ b ∷ after) →
    IsLink (front ++ (i ∷ [])) a b ⊎ ((a ≡ i) × (b ≡ j))
longer_link [] i j [] a b after e = inr (sym (head-eq_of_cons-eq e), sym (head-eq_of_cons-eq (tail-eq_of_cons-eq e)))
longer_link [] i j (x ∷ []) a b after e = absurd (nil≢cons (tail-eq_of_cons-eq (tail-eq_of_cons-eq e)))
longer_link [] i j (x ∷ y ∷ ys) a b after e = absurd (none ys (tail-eq_of_cons-eq (tail-eq_of_cons-eq e)))
  where
    none : (ys : List ℕ) → [] ≡ ys ++ (a ∷ b ∷ after) → ⊥
    none [] f = nil≢cons f
    none (z ∷ zs) f = nil≢cons f
longer_link (x ∷ []) i j [] a b after e =
    inl ([], [], ap (λ u. u ∷ i ∷ []) (head-eq_of_cons-eq e) ∙ ap (λ u. a ∷ u ∷ []) (head-eq_of_cons-eq (tail-eq_of_cons-eq e)))
longer_link (x ∷ y ∷ ys) i j [] a b after e =
    inl ([], ys ++ (i ∷ []), ap (λ u. u ∷ y ∷ (ys ++ (i ∷ []))) (head-eq_of_cons-eq e) ∙ ap (λ u. a ∷ u ∷ (ys ++ (i ∷ []))) (head-eq_of_cons-eq (tail-eq_of_cons-eq e)))
longer_link (x ∷ front) i j (z ∷ before) a b after e =
    elim (longer_link front i j before a b after (tail-eq_of_cons-eq e)) [
      | inl r ↦ inl (z ∷ r.0, r.1, ap (λ u. u ∷ (front ++ (i ∷ []))) (head-eq_of_cons-eq e) ∙ ap (λ u. z ∷ u) r.2)
      | inr r ↦ inr r
    ]

module _ (t : Tree) (ok : (tree_refusal t).number ≡ 0) (bits : SixteenBit t) (s : WordState) (q : Queued t s) (start : ℕ) where
  valid : Accepted t
  valid = accepted_tree t ok

  abbrev number : ℕ → ℕ
  number i = rank t valid bits s q i

  -- a chain so far, from its start to its last thread
  record SoFar (c : List ℕ) (i : ℕ) : Type 0 where
    more : List ℕ
    itself_first : c ≡ start ∷ more
    front : List ℕ
    at_end : c ≡ front ++ (i ∷ [])
    threads : SomeThreads t c
    real : i < t.threads
    lowest : (j : ℕ) → 1 ≤ occurrences j c → number i ≤ number j
    links : (a b : ℕ) → IsLink c a b → OnlyStays t s a b

  first_one : start < t.threads → SoFar (start ∷ []) start
  unfolding occurrences
  first_one h =
      record {
        more = [];
        itself_first = refl;
        front = [];
        at_end = refl;
        threads = threads_one t start h;
        real = h;
        lowest = λ j b. same_or j start _ (λ e. rw e (omega arith)) (λ e. absurd (let z : 1 ≤ 0 + 0 = rw (ne_eqb j start e) at b in omega arith));
        links = λ a b l. absurd (lone l.0 l.1 a b l.2);
      }
    where
      lone : (before after : List ℕ) (a b : ℕ) → start ∷ [] ≡ before ++ (a ∷ b ∷ after) → ⊥
      lone [] after a b e = nil≢cons (tail-eq_of_cons-eq e)
      lone (x ∷ []) after a b e = nil≢cons (tail-eq_of_cons-eq e)
      lone (x ∷ y ∷ ys) after a b e = nil≢cons (tail-eq_of_cons-eq e)

  module _ (c : List ℕ) (i : ℕ) (x : SoFar c i) (still : stays t s i ≡ true) where
    abbrev seen : (j : ℕ) × Looked t valid bits s q i j
    seen = looked_one t valid bits s q i x.real still

    abbrev ahead : ℕ
    ahead = seen.0

    looks : looks_to t s i ≡ ahead ∷ []
    looks = looks_one t valid bits s q i x.real ahead still seen.1

    lower : number ahead < number i
    lower = falls t valid bits s q i ahead x.real seen.1.real still seen.1.looked

    new : occurrences ahead c ≡ 0
    new = same_or (occurrences ahead c) 0 _ (λ e. e) (λ e. absurd (let b = x.lowest ahead (omega (arith, e)) in let l = lower in omega arith))

    one_more : SoFar (c ++ (ahead ∷ [])) ahead
    one_more =
        record {
          more = x.more ++ (ahead ∷ []);
          itself_first = ap (λ u. u ++ (ahead ∷ [])) x.itself_first;
          front = c;
          at_end = refl;
          threads = threads_more t c ahead x.threads seen.1.real new;
          real = seen.1.real;
          lowest = λ j b. same_or j ahead _ (λ e. rw e (omega arith))
              (λ e. let z : 1 ≤ occurrences j c = (let u : occurrences j (c ++ (ahead ∷ [])) ≡ occurrences j c + 0 = occurrences_snoc j ahead c ∙ ap (λ v. occurrences j c + cond v 1 0) (ne_eqb j ahead e) in omega arith) in
              let o = x.lowest j z in let l = lower in omega arith);
          links = λ a b l.
              elim (longer_link x.front i ahead l.0 a b l.1 (ap (λ u. u ++ (ahead ∷ [])) (sym x.at_end) ∙ l.2)) [
                | inl r ↦ x.links a b (r.0, r.1, x.at_end ∙ r.2)
                | inr r ↦ rw (r.0, r.1) (only_stays t ok bits i ahead x.real seen.1.real s q still seen.1.looked)
              ];
        }

  explained : (k : ℕ) (c : List ℕ) (i : ℕ) → SoFar c i → k + length c ≡ suc t.threads → Explains t s start (chain_from k t s c i)
  unfolding step
  explained zero c i x e = absurd (let b = threads_short t c x.threads in omega arith)
  explained (suc k) c i x e = by (explained k) (stays t s i) refl
    where
      by : ((c : List ℕ) (i : ℕ) → SoFar c i → k + length c ≡ suc t.threads → Explains t s start (chain_from k t s c i)) → (b : Bool) → stays t s i ≡ b → Explains t s start (chain_from (suc k) t s c i)
      by rec false z =
          rw (from_end t s k c i z)
          (record {
            more = x.more;
            itself_first = x.itself_first;
            once = x.threads.once;
            front = x.front;
            last = i;
            at_end = x.at_end;
            last_moves = λ f. false≢true (sym z ∙ stays_row t s i f);
            only_stays = λ a b l. x.links a b (l.before, l.after, l.there);
          })
      by rec true z =
          rw (from_link t s k c i (ahead c i x z) z (looks c i x z) (new c i x z)) (rec (c ++ (ahead c i x z ∷ [])) (ahead c i x z) (one_more c i x z) (omega (arith, length_snoc c (ahead c i x z))))

  pub explains : start < t.threads → Explains t s start (chain t s start)
  unfolding chain
  explains h = explained t.threads (start ∷ []) start (first_one h) (omega arith)

-- a chain that begins with its thread is not empty
not_empty : (c more : List ℕ) (i : ℕ) → c ≡ i ∷ more → length c ≢ 0
not_empty c more i e z = let y : suc (length more) ≡ 0 = sym (ap length e) ∙ z in omega arith

pub waiting_law : WaitingLaw
unfolding WaitingLaw AllThreads accepted refusal
waiting_law t s f i h =
    let ok = f.fresh_run.tree_accepted in
    let x = explains t ok f.fresh_run.sixteen_bit s (queued_from_fresh t s f) i h in
    let form = (formed_from_fresh t s f).form in
    record {
      never_refused = λ c good room b.
          (let passed = early_accepted t (lock_state s c) (i ∷ []) 1 (record { tree = ok; form = form; counts = good; short = omega arith; threads = (h, tt); fits = omega arith }) in
          not_refused t (lock_state s c) i room (ap (λ r. r.number) passed) b (not_empty (chain t s i) x.more i x.itself_first));
      explains = x;
    }
