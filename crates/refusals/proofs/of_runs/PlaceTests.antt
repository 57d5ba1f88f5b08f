-- A place given by its four numbers: the test is the model's.
use mathlib.Core.Path.{◌≡◌, refl, sym, ap, ◌∙◌}
use mathlib.Core.Bool.{Bool, true, false, ◌&&◌, ◌||◌, not, cond}
use mathlib.Core.List.{List}
use Prim.Native.Nat.{ℕ, ◌<◌}
use native.Mathlib.Omega.{arith}
use lib.Dec.{eqb, leb}
use lib.ListN.{get_or}
use borrow.Author.Tests.{lt-ltb}
use Rattle.model.specs.declared.Place.{Place}
use Rattle.model.specs.declared.Place.TheVariants.{Idle, Prep, Swap, Link, Wait, Inside, Check, Help, Cas, Linger, Draw, Watch, Raise, Invalid}
use Rattle.model.specs.Places.{place_words, place_of, is_watch}
use Rattle.model.specs.Trees.{Tree, is_ticket, on_path, child, own_record, is_member}
use Rattle.model.specs.WellFormed.{queue_on_path, good_place}
use Rattle.model.proofs.Places.{by_row, no_place, where_fits}
use Rattle.model.proofs.Trees.Accepted.{Accepted}
use Rattle.model.proofs.Trees.Paths.{path_index, ancestor_real}
use Rattle.model.proofs.Tests.{and_true, and_false}
use Rattle.refusals.specs.OfRuns.Tables.{Owners, member_in, ticket_place_in, place_in}
use Rattle.refusals.proofs.of_runs.Members.{member_is}

-- the code tests the word first and the record last. A row without parts
bare_order : (u v d : Bool) → not (not u && true) && (d && v) ≡ (d && (v && u)) && true
bare_order true true true = refl
bare_order true true false = refl
bare_order true false true = refl
bare_order true false false = refl
bare_order false true true = refl
bare_order false true false = refl
bare_order false false true = refl
bare_order false false false = refl

-- a row with a domain
plain_order : (u v b : Bool) → not (not u && true) && (b && v) ≡ (v && u) && b
plain_order true true true = refl
plain_order true true false = refl
plain_order true false true = refl
plain_order true false false = refl
plain_order false true b = refl
plain_order false false b = refl

-- a row with a domain and a record
linked_order : (u b : Bool) → not (not u && true) && b ≡ u && b
linked_order true b = refl
linked_order false b = refl

-- a row with a domain, a record and a word
granted_order : (u b : Bool) → not (not u && false) && b ≡ b
granted_order true b = refl
granted_order false b = refl

-- a row of a ticket lock: at a ticket root, without parts, and with a further test
ticket_order : (ticket u v d c : Bool) → ticket && (true && (u && (d && (v && c)))) ≡ (d && (v && u)) && (ticket && c)
ticket_order true true true true c = refl
ticket_order true true true false c = refl
ticket_order true true false true c = refl
ticket_order true true false false c = refl
ticket_order true false true true c = refl
ticket_order true false true false c = refl
ticket_order true false false true c = refl
ticket_order true false false false c = refl
ticket_order false u v d c = sym (and_false (d && (v && u)))

module _ (t : Tree) (valid : Accepted t) (os vs : List ℕ) (owned : Owners t os) (i : ℕ) (h : i < t.threads) where
  -- the tests of a place, and of the status that it watches
  abbrev asked : Place → Bool
  asked p = good_place t i p && (not (is_watch p) || leb (get_or vs (own_record t i 0) 0) 65535)

  -- the domains on the path have small numbers, so the table decides on their members
  peer_is : (l p : ℕ) → queue_on_path t i l && member_in os l p ≡ queue_on_path t i l && is_member t l p
  unfolding queue_on_path
  peer_is l p = by (on_path t i l) (is_ticket t l) refl
    where
      by : (b c : Bool) → on_path t i l ≡ b → (b && not c) && member_in os l p ≡ (b && not c) && is_member t l p
      by true true e = refl
      by true false e =
          let o = path_index t valid i h l e in
          let r = ancestor_real t valid i h o.index in
          member_is t valid os owned l p (omega (arith, o.there, r, valid.few_domains))
      by false c e = refl

  barred_is : (l : ℕ) (c : Bool) → not (eqb l 0 && t.ticket_root) && (on_path t i l && c) ≡ queue_on_path t i l && c
  unfolding queue_on_path is_ticket
  barred_is l c = by (eqb l 0) t.ticket_root (on_path t i l)
    where
      by : (a b d : Bool) → not (a && b) && (d && c) ≡ (d && not (b && a)) && c
      by true true true = refl
      by true true false = refl
      by true false true = refl
      by true false false = refl
      by false true true = refl
      by false true false = refl
      by false false true = refl
      by false false false = refl

  -- a place of a queue with only a domain
  queue_place :
      (x : Place) (l : ℕ) → asked x ≡ queue_on_path t i l → asked Invalid ≡ false → (u v : Bool) →
      not (not u && true) && (not (eqb l 0 && t.ticket_root) && (on_path t i l && v)) ≡ asked (cond (v && u) x Invalid)
  queue_place x l e n u v =
      ap (λ b. not (not u && true) && b) (barred_is l v) ∙ plain_order u v (queue_on_path t i l) ∙ sym (where_fits asked n x (queue_on_path t i l) (v && u) e)

  -- a place at home
  home_place : (x : Place) → asked x ≡ true → asked Invalid ≡ false → (u v d : Bool) → not (not u && true) && (d && v) ≡ asked (cond (d && (v && u)) x Invalid)
  home_place x e n u v d = bare_order u v d ∙ sym (where_fits asked n x true (d && (v && u)) e)

  -- a place of a ticket lock
  ticket_place :
      (x : Place) (c : Bool) → asked x ≡ t.ticket_root && c → asked Invalid ≡ false → (u v d : Bool) →
      t.ticket_root && (true && (u && (d && (v && c)))) ≡ asked (cond (d && (v && u)) x Invalid)
  ticket_place x c e n u v d =
      ticket_order t.ticket_root u v d c ∙ sym (where_fits asked n x (t.ticket_root && c) (d && (v && u)) e)

  pub place_is : (r l p w : ℕ) → place_in t os vs i (t.home i) (place_words r l p w) ≡ asked (place_of (place_words r l p w))
  unfolding place_in ticket_place_in place_of good_place is_watch on_path own_record child
  place_is r l p w =
      let u = eqb w 0 in
      let v = eqb p 0 in
      let d = eqb l 0 in
      let free : (b : Bool) → b && (true || leb (get_or vs (own_record t i 0) 0) 65535) ≡ b = and_true in
      by_row (λ r. place_in t os vs i (t.home i) (place_words r l p w) ≡ asked (place_of (place_words r l p w))) r
      (home_place Idle refl refl u v d)
      (queue_place (Prep l) l (free _) refl u v)
      (queue_place (Swap l) l (free _) refl u v)
      (ap (λ b. not (not u && true) && b) (barred_is l (member_in os l p)) ∙ linked_order u (queue_on_path t i l && member_in os l p)
      ∙ sym (where_fits asked refl (Link l p) (queue_on_path t i l && member_in os l p) u (free _ ∙ sym (peer_is l p))))
      (queue_place (Wait l) l (free _) refl u v)
      (home_place Inside refl refl u v d)
      (ap (λ b. not (not u && true) && b) (check_free d (on_path t i l) v) ∙ plain_order u v (on_path t i l && not d)
      ∙ sym (where_fits asked refl (Check l) (on_path t i l && not d) (v && u) (free _)))
      (queue_place (Help l) l (free _) refl u v)
      (queue_place (Cas l) l (free _) refl u v)
      (queue_place (Linger l) l (free _) refl u v)
      (granted_order u (not (d && t.ticket_root) && (on_path t i l && member_in os l p)) ∙ barred_is l (member_in os l p) ∙ peer_is l p ∙ sym (free _))
      (ticket_place Draw true refl refl u v d)
      (ticket_place Watch (leb (get_or vs (own_record t i 0) 0) 65535) refl refl u v d)
      (ticket_place Raise true refl refl u v d)
      (λ m. rw (lt-ltb 10 r (omega arith), lt-ltb 13 r m, no_place (place_words r l p w) m) (and_false t.ticket_root))
    where
      check_free : (a b c : Bool) → not (a && true) && (b && c) ≡ (b && not a) && c
      check_free true b c = sym (ap (λ x. x && c) (and_false b))
      check_free false b c = ap (λ x. x && c) (sym (and_true b))
