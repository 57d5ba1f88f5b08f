-- A row that is done gives a step that is taken.
use Rattle.std.proofs.Common.{◌≡◌, ℕ, ◌+◌, ◌%◌, ◌<◌, ◌≤◌, Bool, true, false, cond, not, eqb, ltb, ◌≢◌, List, get_or, sym, refl, ap, ◌∙◌, arith, le-ltb, lt-ltb, eqb-true}
use mathlib.Core.Bool.{false≢true}
use borrow.Author.Tests.{eqb-false, not-true}
use Rattle.model.specs.declared.PlaceArrays.{PlaceArrays}
use Rattle.model.specs.declared.PlaceWords.{PlaceWords}
use Rattle.model.specs.declared.Place.{Place}
use Rattle.model.specs.declared.Place.TheVariants.{Idle, Prep, Swap, Link, Wait, Inside, Check, Help, Cas, Linger, Grant, Draw, Watch, Raise, Invalid}
use Rattle.model.specs.declared.State.{State}
use Rattle.model.specs.declared.Counters.{Counters}
use Rattle.model.specs.declared.TreeWords.{TreeWords}
use Rattle.model.specs.Places.{words_of, place_of, place_domain}
use Rattle.model.specs.States.{numbers_at}
use Rattle.model.specs.Trees.{Tree, tree_of, on_path, is_member, child, child_from, own_record}
use Rattle.model.specs.Steps.{RowResult, stays, prep_row, swap_row, link_row, wait_row, leave_row, check_row, help_row, cas_row, linger_row, grant_row, draw_row, watch_row, raise_row, row}
use Rattle.model.specs.WellFormed.{queue_on_path, good_place}
use Rattle.model.proofs.Tests.{and_both}
use Rattle.model.proofs.Places.{words_of_place}
use Rattle.model.proofs.Trees.Accepted.{Accepted, accepted}
use Rattle.model.proofs.Trees.Tickets.{queue_facts}
use Rattle.model.proofs.Trees.Paths.{path_real}
use Rattle.model.proofs.Trees.Records.{member_small}
use Rattle.model.proofs.Trees.Reading.{read_in}
use Rattle.refusals.specs.Arrays.{parents_in}
use Rattle.refusals.proofs.Reading.{parent_in, home_in}
use Rattle.refusals.proofs.Meeting.{child_same}
use Rattle.rows.specs.declared.common.Member.{Member}
use Rattle.rows.specs.declared.common.rows.Moved.{Moved}
use Rattle.rows.specs.Common.Counting.{taken_in, record_domain_in, Started}
use Rattle.rows.specs.Step.Counting.{started_in, ShownLeft, CountedStep}
use Rattle.rows.specs.Common.Rows.{with_places, Done, Stands, Above}
use Rattle.rows.specs.Acquire.Rows.{start_row}
use Rattle.rows.specs.Common.Standing.{LeadsUp, MemberOf, row_domain}
use Rattle.rows.specs.Step.OneStep.{Ready, StepDone}
use Rattle.rows.proofs.step.StepCounted.{other_counted}
use Rattle.rows.proofs.common.RowPlaces.{place_by_row}

-- the row of a place, at a given domain
abbrev pub row_at : Tree → (thread domain : ℕ) → Place → State → RowResult
row_at t i l Idle s = start_row t i l s
row_at t i l (Prep k) s = prep_row t i l s
row_at t i l (Swap k) s = swap_row t i l s
row_at t i l (Link k p) s = link_row t i l p s
row_at t i l (Wait k) s = wait_row t i l s
row_at t i l Inside s = leave_row t i s
row_at t i l (Check k) s = check_row t i l s
row_at t i l (Help k) s = help_row t i l s
row_at t i l (Cas k) s = cas_row t i l s
row_at t i l (Linger k) s = linger_row t i l s
row_at t i l (Grant k r w) s = grant_row t i l r w s
row_at t i l Draw s = draw_row t i s
row_at t i l Watch s = watch_row t i s
row_at t i l Raise s = raise_row t i s
row_at t i l Invalid s = stays s

row_same : (t : Tree) (i : ℕ) (p : Place) (s : State) → row_at t i (place_domain (t.home i) p) p s ≡ row t i p s
unfolding row
row_same t i Idle s = refl
row_same t i (Prep l) s = refl
row_same t i (Swap l) s = refl
row_same t i (Link l p) s = refl
row_same t i (Wait l) s = refl
row_same t i Inside s = refl
row_same t i (Check l) s = refl
row_same t i (Help l) s = refl
row_same t i (Cas l) s = refl
row_same t i (Linger l) s = refl
row_same t i (Grant l r w) s = refl
row_same t i Draw s = refl
row_same t i Watch s = refl
row_same t i Raise s = refl
row_same t i Invalid s = refl

-- the domain of a good place is a domain of the tree
module _ (t : Tree) (accepts : Accepted t) (i : ℕ) (h : i < t.threads) where
  domain_real : (p : Place) → good_place t i p ≡ true → place_domain (t.home i) p < t.domains
  unfolding good_place
  domain_real Idle e = accepts.home_real i h
  domain_real (Prep l) e = path_real t accepts i h l (queue_facts t i l e).0
  domain_real (Swap l) e = path_real t accepts i h l (queue_facts t i l e).0
  domain_real (Link l p) e = path_real t accepts i h l (queue_facts t i l (and_both (queue_on_path t i l) (is_member t l p) e).0).0
  domain_real (Wait l) e = path_real t accepts i h l (queue_facts t i l e).0
  domain_real Inside e = accepts.home_real i h
  domain_real (Check l) e = path_real t accepts i h l (and_both (on_path t i l) (not (eqb l 0)) e).0
  domain_real (Help l) e = path_real t accepts i h l (queue_facts t i l e).0
  domain_real (Cas l) e = path_real t accepts i h l (queue_facts t i l e).0
  domain_real (Linger l) e = path_real t accepts i h l (queue_facts t i l e).0
  domain_real (Grant l r w) e = path_real t accepts i h l (queue_facts t i l (and_both (queue_on_path t i l) (is_member t l r) e).0).0
  domain_real Draw e = accepts.some_domain
  domain_real Watch e = accepts.some_domain
  domain_real Raise e = accepts.some_domain
  domain_real Invalid e = absurd (false≢true e)

  link_small : (l p : ℕ) → good_place t i (Link l p) ≡ true → p < 320
  unfolding good_place
  link_small l p e = member_small t accepts l p (and_both (queue_on_path t i l) (is_member t l p) e).1

  grant_small : (l r w : ℕ) → good_place t i (Grant l r w) ≡ true → r < 320
  unfolding good_place
  grant_small l r w e = member_small t accepts l r (and_both (queue_on_path t i l) (is_member t l r) e).1

check_inner : (t : Tree) (i l : ℕ) → good_place t i (Check l) ≡ true → l ≢ 0
unfolding good_place
check_inner t i l e = eqb-false l 0 (not-true (eqb l 0) (and_both (on_path t i l) (not (eqb l 0)) e).1)

invalid_bad : (t : Tree) (i : ℕ) → good_place t i Invalid ≡ true → ⊥
unfolding good_place
invalid_bad t i e = false≢true e

-- the domain of a domain's record, from the record's number
domain_back : (d : ℕ) → record_domain_in (256 + d) ≡ d
domain_back d = let z : ltb (256 + d) 256 ≡ false = le-ltb (256 + d) 256 (omega arith) in rw z (omega arith)

-- a thread that is ready for its step
pub record Turn (tree : TreeWords) (i : ℕ) (q : PlaceWords) : Type 0 where
  pub ready : Ready (tree_of tree) i q

pub turn_of : (tree : TreeWords) (i : ℕ) (q : PlaceWords) → Ready (tree_of tree) i q → Turn tree i q
turn_of tree i q ready = record { ready = ready }

-- what the code knows from an accepted tree
module _ {tree : TreeWords} {i : ℕ} {q : PlaceWords} (turn : Turn tree i q) where
  abbrev t : Tree
  t = tree_of tree

  accepts : Accepted t
  accepts = accepted t turn.ready.tree

  pub record Fits : Type 0 where
    pub leads_up : LeadsUp tree
    pub few_threads : tree.threads ≤ 256
    pub real : i < tree.threads
    pub home_real : get_or tree.homes i 0 < tree.domains

  pub home_is : t.home i ≡ get_or tree.homes i 0
  unfolding tree_of
  home_is = home_in tree.domains tree.threads tree.parents tree.thresholds tree.homes i turn.ready.thread

  pub fits : Fits
  unfolding tree_of
  fits =
      record {
        leads_up = record { few_domains = accepts.few_domains; lower = record { lower = λ d p q. rw (parent_in tree.domains tree.threads tree.parents tree.thresholds tree.homes d p q) at (accepts.parent_lower d p q) } };
        few_threads = accepts.few_threads;
        real = turn.ready.thread;
        home_real = rw home_is at (accepts.home_real i turn.ready.thread);
      }

  pub not_invalid : place_of q ≢ Invalid
  not_invalid e = invalid_bad t i (ap (good_place t i) (sym e) ∙ turn.ready.place)

  module _ {p : Place} (a : p ≡ place_of q) where
    good : (x : Place) → p ≡ x → good_place t i x ≡ true
    good x e = ap (good_place t i) (sym e ∙ a) ∙ turn.ready.place

    pub never : p ≡ Invalid → ⊥
    never e = not_invalid (sym a ∙ e)

    pub words : (x : Place) → p ≡ x → q ≡ words_of x
    words x e = sym (words_of_place q not_invalid) ∙ ap words_of (sym a ∙ e)

    module _ {l : ℕ} (b : l ≡ row_domain (get_or tree.homes i 0) q.row q.domain) where
      domain_is : l ≡ place_domain (get_or tree.homes i 0) p
      domain_is = b ∙ rw (words p refl) (place_by_row (get_or tree.homes i 0) p never)

      pub real : l < tree.domains
      unfolding tree_of
      real = rw (domain_is, ← home_is) (domain_real t accepts i turn.ready.thread p (good p refl))

      pub at : (x : Place) → p ≡ x → l ≡ place_domain (get_or tree.homes i 0) x
      at x e = domain_is ∙ ap (place_domain (get_or tree.homes i 0)) e

-- a turn, with its place, its domain and the thread as a member of the domain, as the code has found them
pub record Found (tree : TreeWords) (i : ℕ) (q : PlaceWords) (p : Place) (l : ℕ) (w : Member) : Type 0 where
  pub turn : Turn tree i q
  pub place_is : p ≡ place_of q
  pub domain_is : l ≡ row_domain (get_or tree.homes i 0) q.row q.domain
  pub member : MemberOf tree.domains tree.parents i (get_or tree.homes i 0) l w

pub found :
    {tree : TreeWords} {i : ℕ} {q : PlaceWords} {p : Place} {l : ℕ} {w : Member} → Turn tree i q → p ≡ place_of q → l ≡ row_domain (get_or tree.homes i 0) q.row q.domain →
    MemberOf tree.domains tree.parents i (get_or tree.homes i 0) l w → Found tree i q p l w
found r a b m = record { turn = r; place_is = a; domain_is = b; member = m }

module _ {tree : TreeWords} {i : ℕ} {q : PlaceWords} {p : Place} {l : ℕ} {w : Member} (F : Found tree i q p l w) where
  abbrev named : Tree
  named = tree_of tree

  accepts_tree : Accepted named
  accepts_tree = accepts F.turn

  good_at : (x : Place) → p ≡ x → good_place named i x ≡ true
  good_at = good F.turn F.place_is

  pub home_real : w.home < tree.domains
  home_real = rw F.member.home_is (fits F.turn).home_real

  pub home_same : named.home i ≡ get_or tree.homes i 0
  home_same = home_is F.turn

  pub words_are : (x : Place) → p ≡ x → q ≡ words_of x
  words_are = words F.turn F.place_is

  pub row_of : (x : Place) → p ≡ x → q.row ≡ (words_of x).row
  row_of x e = ap (λ (y : PlaceWords). y.row) (words_are x e)

  pub link_fits : (l x : ℕ) → p ≡ Link l x → x < 320
  link_fits l x e = link_small named accepts_tree i F.turn.ready.thread l x (good_at (Link l x) e)

  pub grant_fits : (l x w : ℕ) → p ≡ Grant l x w → x < 320
  grant_fits l x w e = grant_small named accepts_tree i F.turn.ready.thread l x w (good_at (Grant l x w) e)

  -- what a step counts from any place except Raise and Check
  pub counted :
      (x : Place) → p ≡ x → eqb (words_of x).row 13 ≡ false → eqb (words_of x).row 6 ≡ false → (after : PlaceWords) (kind : ℕ) (shown : List Bool) (old new : Counters) (d : ℕ) →
      d ≡ started_in tree.domains tree.parents (get_or tree.homes i 0) (words_of x) after.row kind → Started d old new → CountedStep tree.domains tree.parents (get_or tree.homes i 0) q after kind shown old new
  counted x e r c after kind shown old new d f s =
      other_counted tree.domains tree.parents (get_or tree.homes i 0) q after kind shown old new (λ z. eqb-false _ 13 r (sym (row_of x e) ∙ z)) (λ z. eqb-false _ 6 c (sym (row_of x e) ∙ z)) d
      (f ∙ ap (λ y. started_in tree.domains tree.parents (get_or tree.homes i 0) y after.row kind) (sym (words_are x e))) s

  pub shown_kept : (x : Place) → p ≡ x → eqb (words_of x).row 13 ≡ false → (shown : List Bool) → ShownLeft q shown shown
  shown_kept x e r shown = record { raise = λ z. absurd (eqb-false _ 13 r (sym (row_of x e) ∙ z)); other = λ n. refl }

  in_tree : l < tree.domains
  in_tree = real F.turn F.place_is F.domain_is

  pub at_domain : (x : Place) → p ≡ x → l ≡ place_domain (get_or tree.homes i 0) x
  at_domain = at F.turn F.place_is F.domain_is

  pub stands : Stands named i w
  unfolding own_record child tree_of
  stands =
      record {
        home_is = F.member.home_is ∙ sym home_same;
        own_is = rw (F.member.domain_is, home_same) (own (eqb l (get_or tree.homes i 0)) refl);
        child_is = λ d. rw F.member.domain_is ((F.member.above_home (λ e. d (F.member.domain_is ∙ e ∙ sym F.member.home_is))).0 ∙ kid);
      }
    where
      kid : child_from 6 (parents_in tree.domains tree.parents) l (get_or tree.homes i 0) ≡ child_from 6 named l (named.home i)
      kid = child_same 6 (parents_in tree.domains tree.parents) named l (get_or tree.homes i 0) (λ x. refl) ∙ ap (child_from 6 named l) (sym home_same)

      own : (x : Bool) → eqb l (get_or tree.homes i 0) ≡ x → w.own ≡ cond x i (256 + child_from 6 named l (get_or tree.homes i 0))
      own true e = F.member.at_home (eqb-true l (get_or tree.homes i 0) e)
      own false e =
          let f = F.member.above_home (eqb-false l (get_or tree.homes i 0) e) in
          f.1 ∙ ap (λ v. 256 + v) (f.0 ∙ child_same 6 (parents_in tree.domains tree.parents) named l (get_or tree.homes i 0) (λ x. refl))

  pub above : Above named tree.ticket_root w.domain (get_or tree.parents w.domain 0)
  unfolding tree_of
  above =
      record {
        parent_is = λ d. sym (parent_in tree.domains tree.threads tree.parents tree.thresholds tree.homes w.domain (omega (arith, d)) (rw F.member.domain_is in_tree));
        root_is = refl;
      }

  -- the domain whose record the thread works with
  pub own_taken : record_domain_in w.own ≡ taken_in tree.domains tree.parents (get_or tree.homes i 0) l
  own_taken = by (eqb l (get_or tree.homes i 0)) refl
    where
      by : (x : Bool) → eqb l (get_or tree.homes i 0) ≡ x → record_domain_in w.own ≡ cond x 0 (child_from 6 (parents_in tree.domains tree.parents) l (get_or tree.homes i 0))
      by true e = rw (F.member.at_home (eqb-true l (get_or tree.homes i 0) e)) (rw (lt-ltb i 256 (omega (arith, (fits F.turn).real, (fits F.turn).few_threads))))
      by false e =
          let f = F.member.above_home (eqb-false l (get_or tree.homes i 0) e) in
          ap (λ r. record_domain_in r) f.1 ∙ domain_back w.child ∙ f.0

  pub taken :
      (x : Place) (said : Moved) (old new : State) → p ≡ x → new.places ≡ old.places →
      ((ps : PlaceArrays) → numbers_at ps i ≡ q → Done (row_at named i w.domain x (with_places ps old)) i said (with_places ps new)) → StepDone named i q said old new
  taken x said old new e kept f =
      record {
        places_kept = kept;
        does = λ ps here.
            let now : place_of q ≡ x = sym F.place_is ∙ e in
            let there : w.domain ≡ place_domain (named.home i) x = F.member.domain_is ∙ at_domain x e ∙ ap (λ h. place_domain h x) (sym home_same) in
            rw (now, ← row_same named i x (with_places ps old), ← there) (f ps here);
      }

  pub inner : (c : ℕ) → p ≡ Check c → w.domain ≢ 0
  inner c e = rw (F.member.domain_is ∙ at_domain (Check c) e) (check_inner named i c (good_at (Check c) e))

  pub threshold_is : w.domain ≢ 0 → get_or tree.thresholds w.domain 0 % 65536 ≡ named.threshold w.domain
  unfolding tree_of
  threshold_is d = rw (read_in 1 tree.domains tree.thresholds w.domain (omega (arith, d)) (rw F.member.domain_is in_tree))

  -- if the domain of the place is the root, so is the thread's domain
  pub at_root : (x : Place) → p ≡ x → place_domain (get_or tree.homes i 0) x ≡ 0 → w.domain ≡ 0
  at_root x e z = F.member.domain_is ∙ at_domain x e ∙ z

  -- an Idle thread works with its own record
  pub own_small : p ≡ Idle → w.own < 256
  own_small e = omega (arith, F.member.at_home (at_domain Idle e), (fits F.turn).real, (fits F.turn).few_threads)
