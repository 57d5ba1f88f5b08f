-- The table of the records' owners: the homes of the threads, then the parents of the domains.
use mathlib.Core.Path.{◌≡◌, sym, ◌∙◌}
use mathlib.Core.Bool.{cond}
use mathlib.Core.List.{List, ◌++◌}
use Prim.Native.Nat.{ℕ, ◌+◌, ◌-◌, ◌≤◌, ◌<◌}
use native.Mathlib.Omega.{arith}
use native.Mathlib.Decide.{ℕ_discrete, dec_lt}
use lib.Dec.{ltb}
use lib.ListN.{get_or, length, take, drop, replicate}
use borrow.Author.Rules.{rules}
use borrow.Author.Tests.{eq-eqb, ne_eqb, lt-ltb, le-ltb}
use borrow.Rule.Slice.PartMut.{put_mid}
use Rattle.std.specs.List.{slice_range}
use Rattle.std.proofs.lemmas.List.{get_or-append_right, get_or-drop, get_or-replicate, places}
use Rattle.model.specs.declared.TreeWords.{TreeWords}
use Rattle.model.specs.Trees.{tree_of, is_record, owner_domain}
use Rattle.model.proofs.Tests.{and_false}
use Rattle.model.proofs.Trees.Reading.{read_in}
use Rattle.refusals.specs.OfRuns.Tables.{Owners}

-- a list with numbers put into its middle
put_below : (a k : ℕ) (xs ys : List ℕ) (i : ℕ) → i < a → a ≤ length xs → get_or (put_mid a k xs ys) i 0 ≡ get_or xs i 0
put_below a k xs ys i l h = search (rules, places)

put_there : (a k : ℕ) (xs ys : List ℕ) (i : ℕ) → a ≤ i → i < a + k → length ys ≡ k → a ≤ length xs → get_or (put_mid a k xs ys) i 0 ≡ get_or ys (i - a) 0
put_there a k xs ys i g l e h = search (rules, places)

put_above : (a k : ℕ) (xs ys : List ℕ) (i : ℕ) → a + k ≤ i → length ys ≡ k → a ≤ length xs → get_or (put_mid a k xs ys) i 0 ≡ get_or xs i 0
put_above a k xs ys i g e h = search (rules, places)

module _ (w : TreeWords) (some : 0 < w.domains) (few : w.domains ≤ 64) (small : w.threads ≤ 256) (homes : length w.homes ≡ 256) (parents : length w.parents ≡ 64) where
  abbrev threaded : List ℕ
  threaded = take w.threads w.homes ++ drop w.threads (replicate 320 255)

  abbrev hung : List ℕ
  hung = slice_range w.parents 1 w.domains

  threaded-length : length threaded ≡ 320
  threaded-length = search (rules, places)

  hung-length : length hung ≡ 256 + w.domains - 257
  hung-length = search (rules, places)

  -- the homes of the threads, and 255 beyond them
  threaded_home : (r : ℕ) → r < w.threads → get_or threaded r 0 ≡ get_or w.homes r 0
  threaded_home r l = search (rules, places)

  abbrev empty : List ℕ
  empty = replicate 320 255

  threaded_none : (r : ℕ) → w.threads ≤ r → r < 320 → get_or threaded r 0 ≡ 255
  threaded_none r g l =
      let long : length (take w.threads w.homes) ≡ w.threads = search (rules, places) in
      let on : w.threads + (r - w.threads) ≡ r = omega arith in
      rw (get_or-append_right (take w.threads w.homes) (drop w.threads empty) w.threads r 0 long g, get_or-drop w.threads empty (r - w.threads) 0, on)
      (get_or-replicate 320 r 255 0 l)

  hung_parent : (d : ℕ) → 0 < d → d < w.domains → get_or hung (256 + d - 257) 0 ≡ get_or w.parents d 0
  hung_parent d p l = let z : 256 + d - 257 ≡ d - 1 = omega arith in search (rules, places)

  -- the table
  abbrev table : List ℕ
  table = put_mid 257 (256 + w.domains - 257) threaded hung

  of_thread : (r : ℕ) → r < 256 → get_or table r 0 ≡ cond (is_record (tree_of w) r) (owner_domain (tree_of w) r) 255
  unfolding is_record owner_domain tree_of
  of_thread r l =
      let e = put_below 257 (256 + w.domains - 257) threaded hung r (omega arith) (omega (arith, threaded-length)) in
      elim (dec_lt r w.threads) [
        | yes p ↦ rw (e, lt-ltb r 256 l, lt-ltb r w.threads p) (threaded_home r p ∙ sym (read_in 0 w.threads w.homes r (omega arith) p))
        | no p ↦ rw (e, lt-ltb r 256 l, le-ltb r w.threads (omega arith)) (threaded_none r (omega arith) (omega arith))
      ]

  of_domain : (d : ℕ) → d < 64 → get_or table (256 + d) 0 ≡ cond (is_record (tree_of w) (256 + d)) (owner_domain (tree_of w) (256 + d)) 255
  unfolding is_record owner_domain tree_of
  of_domain d l =
      let beyond = le-ltb (256 + d) 256 (omega arith) in
      let here : 256 + d - 256 ≡ d = omega arith in
      elim (ℕ_discrete d 0) [
        | yes z ↦
            let e = put_below 257 (256 + w.domains - 257) threaded hung (256 + d) (omega arith) (omega (arith, threaded-length)) in
            rw (e, beyond, here, eq-eqb d 0 z, and_false (ltb d w.domains)) (threaded_none (256 + d) (omega arith) (omega arith))
        | no z ↦
            elim (dec_lt d w.domains) [
              | yes p ↦
                  let e = put_there 257 (256 + w.domains - 257) threaded hung (256 + d) (omega arith) (omega arith) hung-length (omega (arith, threaded-length)) in
                  rw (e, beyond, here, ne_eqb d 0 z, lt-ltb d w.domains p) (hung_parent d (omega arith) p ∙ sym (read_in 1 w.domains w.parents d (omega arith) p))
              | no p ↦
                  let e = put_above 257 (256 + w.domains - 257) threaded hung (256 + d) (omega arith) hung-length (omega (arith, threaded-length)) in
                  rw (e, beyond, here, le-ltb d w.domains (omega arith)) (threaded_none (256 + d) (omega arith) (omega arith))
            ]
      ]

  -- the table has each record's owner
  pub table_owns : Owners (tree_of w) table
  table_owns =
      record {
        owner = λ r l.
            elim (dec_lt r 256) [
              | yes p ↦ of_thread r p
              | no p ↦ let z : r ≡ 256 + (r - 256) = omega arith in rw z (of_domain (r - 256) (omega arith))
            ];
      }
