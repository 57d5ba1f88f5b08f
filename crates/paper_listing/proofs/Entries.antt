-- What one schedule entry executes of the listing, at each point of a thread.
use mathlib.Core.Path.{◌≡◌, refl, ap, ◌∙◌}
use mathlib.Core.Bool.{Bool, true, false, cond}
use mathlib.Core.List.{List, [], ◌∷◌}
use Prim.Native.Nat.{ℕ, suc, ◌+◌, ◌-◌}
use lib.Dec.{eqb, ltb}
use Rattle.model.specs.Trees.{Tree, is_ticket}
use Rattle.model.specs.States.{cohort_start, acquire_parent, wait_word, unlocked, locked, none}
use Rattle.paper_listing.specs.Calls.{Memory, lock_at, status_at, store_lock, store_next, store_status, Return, from_acquire, after_17, Frame, frame, outside, critical, line_7, line_9, line_10, line_11, line_13, line_14, line_16, line_17, line_66, line_67, line_68, line_69, line_71, line_72, ticket_lock, line_90, Control, control, After, goes, acquire_real, returns}
use Rattle.paper_listing.specs.Listing.{line, top_domain, top_node, top_back, next_line}
use Rattle.paper_listing.specs.Agreement.{called_place, ticket_place, place_at, place_of_control, is_place, settle, entry}

-- a point at which a thread can be between entries
abbrev pub Stands : Control → Type 0
Stands c = is_place (place_of_control c) ≡ true

module _ (t : Tree) (i : ℕ) where
  -- an entry continues through any other point
  pub through : (n : ℕ) (x y : After) → is_place (place_of_control x.thread) ≡ false → next_line t i x ≡ y → settle (suc n) t i x ≡ settle n t i y
  unfolding settle
  through n x y e d = rw e (ap (settle n t i) d)

  -- and ends at such a point
  pub there : (n : ℕ) (x : After) → Stands x.thread → settle (suc n) t i x ≡ x
  unfolding settle
  there n x e = rw e

  pub begins : (x y : After) → next_line t i x ≡ y → entry t i x ≡ settle 8 t i y
  unfolding entry
  begins x y d = ap (settle 8 t i) d

  -- IDLE, if the home has a queue: the call, and line 7 or 66, before which no entry ends
  pub idle_elsewhere :
      (m : Memory) → is_ticket t (t.home i) ≡ false → eqb (t.home i) 0 ≡ false → entry t i (goes outside [] m) ≡ goes line_9 (frame (t.home i) i from_acquire ∷ []) (store_next i none (store_status i wait_word m))
  unfolding next_line line acquire_real top_domain top_node top_back place_of_control place_at called_place is_place
  idle_elsewhere m n e =
      let calls = frame (t.home i) i from_acquire ∷ [] in
      begins (goes outside [] m) (goes line_7 calls m) (rw (n, e))
      ∙ through 7 (goes line_7 calls m) (goes line_9 calls (store_next i none (store_status i wait_word m))) refl refl ∙ there 6 _ refl

  pub idle_root :
      (m : Memory) → is_ticket t (t.home i) ≡ false → eqb (t.home i) 0 ≡ true → entry t i (goes outside [] m) ≡ goes line_67 (frame (t.home i) i from_acquire ∷ []) (store_next i none (store_status i locked m))
  unfolding next_line line acquire_real top_domain top_node top_back place_of_control place_at called_place is_place
  idle_root m n e =
      let calls = frame (t.home i) i from_acquire ∷ [] in
      begins (goes outside [] m) (goes line_66 calls m) (rw (n, e))
      ∙ through 7 (goes line_66 calls m) (goes line_67 calls (store_next i none (store_status i locked m))) refl refl ∙ there 6 _ refl

  module _ (l r : ℕ) (b : Return) (fs : List Frame) (m : Memory) where
    abbrev all : List Frame
    all = frame l r b ∷ fs

    -- an entry ends at the beginning of a call of AcquireReal
    call_stands : (d n : ℕ) (callers : List Frame) → Stands (acquire_real t d n after_17 callers)
    unfolding acquire_real place_of_control place_at called_place ticket_place is_place top_domain top_back
    call_stands d n callers = by (is_ticket t d) (eqb d 0)
      where
        by : (c e : Bool) → is_place (place_at (cond c (ticket_lock line_90) (cond e line_66 line_7)) d after_17) ≡ true
        by true e = refl
        by false true = refl
        by false false = refl

    -- PREP
    pub prep_elsewhere : entry t i (goes line_7 all m) ≡ goes line_9 all (store_next r none (store_status r wait_word m))
    unfolding next_line line top_domain top_node place_of_control place_at is_place
    prep_elsewhere = begins (goes line_7 all m) (goes line_9 all (store_next r none (store_status r wait_word m))) refl ∙ there 7 _ refl

    pub prep_root : entry t i (goes line_66 all m) ≡ goes line_67 all (store_next r none (store_status r locked m))
    unfolding next_line line top_domain top_node place_of_control place_at is_place
    prep_root = begins (goes line_66 all m) (goes line_67 all (store_next r none (store_status r locked m))) refl ∙ there 7 _ refl

    -- SWAP
    pub swap_none :
        eqb (lock_at m l) 0 ≡ true →
        entry t i (goes line_9 all m) ≡ record { thread = acquire_real t (t.parent l) (256 + l) after_17 all; memory = store_status r cohort_start (store_lock l (r + 1) m) }
    unfolding next_line line top_domain top_node place_of_control place_at is_place
    swap_none e =
        let m₁ = store_lock l (r + 1) m in
        begins (goes line_9 all m) (goes (line_10 (lock_at m l)) all m₁) refl
        ∙ through 7 (goes (line_10 (lock_at m l)) all m₁) (goes line_16 all m₁) refl (rw e)
        ∙ through 6 (goes line_16 all m₁) (goes line_17 all (store_status r cohort_start m₁)) refl refl
        ∙ through 5 (goes line_17 all (store_status r cohort_start m₁)) (record { thread = acquire_real t (t.parent l) (256 + l) after_17 all; memory = store_status r cohort_start m₁ }) refl refl
        ∙ there 4 _ (call_stands (t.parent l) (256 + l) all)

    pub swap_some : eqb (lock_at m l) 0 ≡ false → entry t i (goes line_9 all m) ≡ goes (line_11 (lock_at m l - 1)) all (store_lock l (r + 1) m)
    unfolding next_line line top_domain top_node place_of_control place_at is_place
    swap_some e =
        let m₁ = store_lock l (r + 1) m in
        begins (goes line_9 all m) (goes (line_10 (lock_at m l)) all m₁) refl
        ∙ through 7 (goes (line_10 (lock_at m l)) all m₁) (goes (line_11 (lock_at m l - 1)) all m₁) refl (rw e)
        ∙ there 6 _ refl

    pub swap_root_none :
        eqb (lock_at m l) 0 ≡ true → returns all ≡ control critical [] →
        entry t i (goes line_67 all m) ≡ goes critical [] (store_status r unlocked (store_lock l (r + 1) m))
    unfolding next_line line top_domain top_node place_of_control place_at is_place
    swap_root_none e a =
        let m₁ = store_lock l (r + 1) m in
        begins (goes line_67 all m) (goes (line_68 (lock_at m l)) all m₁) refl
        ∙ through 7 (goes (line_68 (lock_at m l)) all m₁) (goes line_69 all m₁) refl (rw e)
        ∙ through 6 (goes line_69 all m₁) (goes critical [] (store_status r unlocked m₁)) refl (rw a)
        ∙ there 5 _ refl

    pub swap_root_some : eqb (lock_at m l) 0 ≡ false → entry t i (goes line_67 all m) ≡ goes (line_71 (lock_at m l - 1)) all (store_lock l (r + 1) m)
    unfolding next_line line top_domain top_node place_of_control place_at is_place
    swap_root_some e =
        let m₁ = store_lock l (r + 1) m in
        begins (goes line_67 all m) (goes (line_68 (lock_at m l)) all m₁) refl
        ∙ through 7 (goes (line_68 (lock_at m l)) all m₁) (goes (line_71 (lock_at m l - 1)) all m₁) refl (rw e)
        ∙ there 6 _ refl

    -- LINK
    pub link_elsewhere : (p : ℕ) → entry t i (goes (line_11 p) all m) ≡ goes line_13 all (store_next p (r + 1) m)
    unfolding next_line line top_domain top_node place_of_control place_at is_place
    link_elsewhere p = begins (goes (line_11 p) all m) (goes line_13 all (store_next p (r + 1) m)) refl ∙ there 7 _ refl

    pub link_root : (p : ℕ) → entry t i (goes (line_71 p) all m) ≡ goes line_72 all (store_next p (r + 1) m)
    unfolding next_line line top_domain top_node place_of_control place_at is_place
    link_root p = begins (goes (line_71 p) all m) (goes line_72 all (store_next p (r + 1) m)) refl ∙ there 7 _ refl

    -- WAIT
    pub wait_stays : eqb (status_at m r) wait_word ≡ true → entry t i (goes line_13 all m) ≡ goes line_13 all m
    unfolding next_line line top_domain top_node place_of_control place_at is_place
    wait_stays e = begins (goes line_13 all m) (goes line_13 all m) (rw e) ∙ there 7 _ refl

    pub wait_enters :
        eqb (status_at m r) wait_word ≡ false → ltb (status_at m r) acquire_parent ≡ true → returns all ≡ control critical [] →
        entry t i (goes line_13 all m) ≡ goes critical [] m
    unfolding next_line line top_domain top_node place_of_control place_at is_place
    wait_enters e f a =
        begins (goes line_13 all m) (goes (line_14 (status_at m r)) all m) (rw e)
        ∙ through 7 (goes (line_14 (status_at m r)) all m) (goes critical [] m) refl (rw (f, a))
        ∙ there 6 _ refl

    pub wait_climbs :
        eqb (status_at m r) wait_word ≡ false → ltb (status_at m r) acquire_parent ≡ false →
        entry t i (goes line_13 all m) ≡ record { thread = acquire_real t (t.parent l) (256 + l) after_17 all; memory = store_status r cohort_start m }
    unfolding next_line line top_domain top_node place_of_control place_at is_place
    wait_climbs e f =
        begins (goes line_13 all m) (goes (line_14 (status_at m r)) all m) (rw e)
        ∙ through 7 (goes (line_14 (status_at m r)) all m) (goes line_16 all m) refl (rw f)
        ∙ through 6 (goes line_16 all m) (goes line_17 all (store_status r cohort_start m)) refl refl
        ∙ through 5 (goes line_17 all (store_status r cohort_start m)) (record { thread = acquire_real t (t.parent l) (256 + l) after_17 all; memory = store_status r cohort_start m }) refl refl
        ∙ there 4 _ (call_stands (t.parent l) (256 + l) all)

    pub wait_root_stays : eqb (status_at m r) locked ≡ true → entry t i (goes line_72 all m) ≡ goes line_72 all m
    unfolding next_line line top_domain top_node place_of_control place_at is_place
    wait_root_stays e = begins (goes line_72 all m) (goes line_72 all m) (rw e) ∙ there 7 _ refl

    pub wait_root_enters : eqb (status_at m r) locked ≡ false → returns all ≡ control critical [] → entry t i (goes line_72 all m) ≡ goes critical [] m
    unfolding next_line line top_domain top_node place_of_control place_at is_place
    wait_root_enters e a = begins (goes line_72 all m) (goes critical [] m) (rw (e, a)) ∙ there 7 _ refl
