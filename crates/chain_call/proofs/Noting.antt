-- A thread's path entered in a table, domain by domain: each record is named by at most one of them.
use mathlib.Core.Path.{◌≡◌, refl, sym, ap, ◌∙◌}
use mathlib.Core.Bool.{Bool, true, false, ◌&&◌, ◌||◌}
use mathlib.Core.List.{List}
use mathlib.Core.Logic.{◌≢◌}
use Prim.Native.Nat.{ℕ, zero, suc, ◌+◌, ◌-◌, ◌≤◌, ◌<◌}
use native.Mathlib.Omega.{arith}
use lib.Dec.{eqb, leb}
use lib.ListN.{get_or, set, length, length-set}
use lib.Seq.{get_or-set_same, get_or-set_other}
use borrow.Author.Tests.{eq-eqb, ne_eqb, eqb-true, le-leb, lt-leb}
use Rattle.model.specs.declared.TreeWords.{TreeWords}
use Rattle.chain_call.specs.declared.tables.Count.{Count}
use Rattle.chain_call.specs.declared.tables.Count.TheVariants.{Nobody}
use Rattle.model.specs.Scans.{any_below}
use Rattle.model.specs.Trees.{Tree, tree_of, is_member}
use Rattle.model.specs.Refusals.{tree_refusal}
use Rattle.model.proofs.Tests.{and_both, or_false, any_one}
use Rattle.model.proofs.Trees.Index.{ancestor, height, record_at}
use Rattle.model.proofs.Trees.Accepted.{Accepted, accepted}
use Rattle.model.proofs.Trees.Paths.{ancestor_injective, ancestor_strict, ancestor_zero}
use Rattle.model.proofs.Trees.Records.{owner_at, record_small, member_once, member_small}
use Rattle.model.proofs.Lists.{same_or}
use Rattle.model.proofs.Trees.Reading.{threads_read}
use Rattle.chain_call.specs.Tables.{more, more_if, OwnedNexts, noted, names_below, Noted}
use Rattle.chain_call.proofs.Walking.{At, at_home, at_next}

-- TESTS OVER ALL NUMBERS BELOW A BOUND
pub any_false : (n : ℕ) (f : ℕ → Bool) → ((k : ℕ) → k < n → f k ≢ true) → any_below n f ≡ false
any_false n f h = by (any_below n f) refl
  where
    by : (b : Bool) → any_below n f ≡ b → any_below n f ≡ false
    by true e = let x = any_one n f e in absurd (h x.index x.below x.holds)
    by false e = e

pub any_longer : (n k : ℕ) (f : ℕ → Bool) → k ≤ n → ((m : ℕ) → k ≤ m → m < n → f m ≡ false) → any_below n f ≡ any_below k f
unfolding any_below
any_longer zero k f b h = let z : k ≡ 0 = omega arith in rw z refl
any_longer (suc n) k f b h =
    same_or k (suc n) _
    (λ e. rw e refl)
    (λ e. rw (h n (omega arith) (omega arith)) (or_false (any_below n f) ∙ any_longer n k f (omega arith) (λ m a c. h m a (omega arith))))

pub any_next : (n : ℕ) (f : ℕ → Bool) → any_below (suc n) f ≡ any_below n f || f n
unfolding any_below
any_next n f = refl

pub set_at : (xs : List Count) (k q : ℕ) (v : Count) → q ≡ k → k < length xs → get_or (set xs k v) q Nobody ≡ v
set_at xs k q v e b = rw e (get_or-set_same xs k v Nobody b)

module _ (w : TreeWords) (ok : (tree_refusal (tree_of w)).number ≡ 0) (ns : List ℕ) (own : OwnedNexts (tree_of w) ns) (from j : ℕ) (h : j < w.threads) where
  abbrev t : Tree
  t = tree_of w

  valid : Accepted t
  valid = accepted t ok

  real : j < t.threads
  real = rw (threads_read w) h

  -- the record that a next on the path names is a member of the domain there
  named : (k q : ℕ) → k ≤ height t j → get_or ns (record_at t j k) 0 ≡ q + 1 → is_member t (ancestor t j k) q ≡ true
  named k q l e =
      let m = own.owned (record_at t j k) (record_small t valid j real k l) (λ z. omega arith) in
      let z : get_or ns (record_at t j k) 0 - 1 ≡ q = omega arith in
      rw (z, owner_at t valid j real k l) at m

  pub named_small : (k q : ℕ) → k ≤ height t j → get_or ns (record_at t j k) 0 ≡ q + 1 → q < 320
  named_small k q l e = member_small t valid (ancestor t j k) q (named k q l e)

  -- no earlier domain names it
  named_once : (k q : ℕ) → k ≤ height t j → get_or ns (record_at t j k) 0 ≡ q + 1 → names_below k t ns from j q ≡ false
  named_once k q l e =
      any_false k _ (λ m b f.
      let both = and_both (leb from (ancestor t j m)) (eqb (get_or ns (record_at t j m) 0) (q + 1)) f in
      let same = member_once t valid (ancestor t j m) (ancestor t j k) q (named m q (omega arith) (eqb-true _ _ both.1)) (named k q l e) in
      let z = ancestor_injective t valid j real m k (omega arith) l same in
      omega arith)

  pub note_first : (xs : List Count) → Noted t ns from j 0 xs xs
  unfolding any_below
  note_first xs = record { count = λ r b. refl }

  -- one more domain
  module _ (k : ℕ) (l : k ≤ height t j) (acting : from ≤ ancestor t j k) (before mid : List Count) (room : length mid ≡ 320) (so_far : Noted t ns from j k before mid) where
    abbrev n : ℕ
    n = get_or ns (record_at t j k) 0

    here : (q : ℕ) → names_below (suc k) t ns from j q ≡ names_below k t ns from j q || eqb n (q + 1)
    here q = any_next k _ ∙ rw (le-leb from (ancestor t j k) acting)

    missed : (q : ℕ) → n ≢ q + 1 → names_below (suc k) t ns from j q ≡ names_below k t ns from j q
    missed q e = here q ∙ rw (ne_eqb n (q + 1) e) (or_false (names_below k t ns from j q))

    hit : (q : ℕ) → n ≡ q + 1 → names_below (suc k) t ns from j q ≡ true
    hit q e = here q ∙ rw (named_once k q l e, eq-eqb n (q + 1) e)

    pub note_next : Noted t ns from j (suc k) before (noted mid n j)
    note_next =
        same_or n 0 _
        (λ z. rw (eq-eqb n 0 z)
        (record { count = λ q b. so_far.count q b ∙ ap (λ x. more_if x (get_or before q Nobody) j) (sym (missed q (λ e. omega arith))) }))
        (λ z. rw (ne_eqb n 0 z)
        (record {
          count = λ q b. same_or q (n - 1) _
              (λ e.
              let y : n ≡ q + 1 = omega (arith, z) in
              let old : get_or mid q Nobody ≡ get_or before q Nobody = so_far.count q b ∙ ap (λ x. more_if x (get_or before q Nobody) j) (named_once k q l y) in
              set_at mid (n - 1) q (more (get_or mid (n - 1) Nobody) j) e (omega arith) ∙ ap (λ x. more x j) (ap (λ y. get_or mid y Nobody) (sym e) ∙ old) ∙ ap (λ x. more_if x (get_or before q Nobody) j) (sym (hit q y)))
              (λ e. get_or-set_other mid (n - 1) q (more (get_or mid (n - 1) Nobody) j) Nobody e ∙ so_far.count q b
              ∙ ap (λ x. more_if x (get_or before q Nobody) j) (sym (missed q (λ y. e (omega arith)))));
        }))

  pub noted_room : (xs : List Count) (n : ℕ) → length (noted xs n j) ≡ length xs
  noted_room xs n =
      same_or n 0 _ (λ z. rw (eq-eqb n 0 z) refl) (λ z. rw (ne_eqb n 0 z) (length-set xs (n - 1) (more (get_or xs (n - 1) Nobody) j)))

  -- the rest of the path, where the thread does not act
  pub note_rest : (k : ℕ) → k ≤ height t j → ancestor t j k < from → (xs ys : List Count) → Noted t ns from j k xs ys → Noted t ns from j (suc (height t j)) xs ys
  note_rest k l low xs ys so_far =
      record {
        count = λ q b. so_far.count q b ∙ ap (λ x. more_if x (get_or xs q Nobody) j) (sym (any_longer (suc (height t j)) k _ (omega arith) (λ m a c.
            same_or k m (leb from (ancestor t j m) && eqb (get_or ns (record_at t j m) 0) (q + 1) ≡ false)
            (λ e. let z : ancestor t j m < from = rw e at low in rw (lt-leb from (ancestor t j m) z))
            (λ e. let s = ancestor_strict t valid j real k m (omega arith) (omega arith) in rw (lt-leb from (ancestor t j m) (omega arith))))));
      }

  -- at the root the whole path is noted
  pub note_root : (k : ℕ) → k ≤ height t j → ancestor t j k ≡ 0 → (xs ys : List Count) → Noted t ns from j (suc k) xs ys → Noted t ns from j (suc (height t j)) xs ys
  note_root k l e xs ys x = let z = ancestor_zero t valid j real k l e in rw z at x

-- the loop that notes a path: it is at domain c with record r, and the domains before c are noted
pub record Noting (t : Tree) (ns : List ℕ) (from j : ℕ) (before after : List Count) (r c : ℕ) : Type 0 where
  pub at : At t j r c
  pub so_far : Noted t ns from j at.index before after
  pub room : length after ≡ 320

module _ (w : TreeWords) (ok : (tree_refusal (tree_of w)).number ≡ 0) (ns : List ℕ) (own : OwnedNexts (tree_of w) ns) (from j : ℕ) (h : j < w.threads) (xs : List Count) where
  pub noting_first : length xs ≡ 320 → Noting (tree_of w) ns from j xs xs j (get_or w.homes j 0)
  unfolding at_home
  noting_first e = record { at = at_home w ok j h; so_far = note_first w ok ns own from j h xs; room = e }

  module _ (ys : List Count) (r c : ℕ) (x : Noting (tree_of w) ns from j xs ys r c) where
    pub next_small : get_or ns r 0 ≤ 320
    next_small =
        same_or (get_or ns r 0) 0 _ (λ z. omega arith)
        (λ z.
        let e : get_or ns (record_at (tree_of w) j x.at.index) 0 ≡ (get_or ns r 0 - 1) + 1 = ap (λ y. get_or ns y 0) x.at.mine ∙ (let y : get_or ns r 0 ≡ (get_or ns r 0 - 1) + 1 = omega (arith, z) in y) in
        let b = named_small w ok ns own from j h x.at.index (get_or ns r 0 - 1) x.at.within e in
        omega (arith, z))

    module _ (acting : from ≤ c) where
      noted_here : Noted (tree_of w) ns from j (suc x.at.index) xs (noted ys (get_or ns r 0) j)
      noted_here =
          rw x.at.mine at (note_next w ok ns own from j h x.at.index x.at.within (rw x.at.there acting) xs ys x.room x.so_far)

      pub noting_room : length (noted ys (get_or ns r 0) j) ≡ 320
      noting_room = noted_room w ok ns own from j h ys (get_or ns r 0) ∙ x.room

      pub noting_root : c ≡ 0 → Noted (tree_of w) ns from j (suc (height (tree_of w) j)) xs (noted ys (get_or ns r 0) j)
      noting_root e = note_root w ok ns own from j h x.at.index x.at.within (x.at.there ∙ e) xs _ noted_here

      pub noting_up : c ≢ 0 → Noting (tree_of w) ns from j xs (noted ys (get_or ns r 0) j) (256 + c) (get_or w.parents c 0)
      unfolding at_next
      noting_up n =
          record {
            at = at_next w ok j h r c x.at (omega (arith, n));
            so_far = noted_here;
            room = noting_room;
          }

    pub noting_rest : c < from → Noted (tree_of w) ns from j (suc (height (tree_of w) j)) xs ys
    noting_rest b = note_rest w ok ns own from j h x.at.index x.at.within (rw x.at.there b) xs ys x.so_far
