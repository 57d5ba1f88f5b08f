-- KINDS. A stay changes nothing, and only a stay does so; an entry arrives Inside; where root, passed and crossed entries come from.
use mathlib.Core.Path.{◌≡◌, refl, sym, ap, ◌∙◌}
use mathlib.Core.Bool.{Bool, true, false, ◌||◌, not, false≢true, true≢false}
use mathlib.Core.Logic.{◌≢◌}
use Prim.Native.Nat.{ℕ, ◌+◌, ◌-◌, ◌<◌}
use native.Mathlib.Omega.{arith}
use lib.Dec.{eqb}
use borrow.Author.Tests.{eqb-false, not-true}
use Rattle.model.specs.declared.Place.{Place}
use Rattle.model.specs.declared.Place.TheVariants.{Idle, Prep, Swap, Link, Wait, Inside, Check, Help, Cas, Linger, Grant, Draw, Watch, Raise, Invalid}
use Rattle.model.specs.declared.State.{State}
use Rattle.model.specs.Trees.{Tree, is_ticket, on_path, child, own_record}
use Rattle.model.specs.Places.{words_of}
use Rattle.model.specs.States.{tail, next, status, place, with_place}
use Rattle.model.specs.Steps.{Kind, stay, other, root_entry, passed_entry, crossed_entry, leaving, kind_number, is_kind, is_entry, RowResult, acquire_place, acquired_place, release_place, done_place, row, step}
use Rattle.model.specs.WellFormed.{good_place}
use Rattle.model.specs.Laws.{EntersRoot, by_swap, by_wait, by_draw, by_watch, by_own_draw, ReportsKind, KindLaw}
use Rattle.model.proofs.Tests.{by_test, and_both, or_neither}
use Rattle.model.proofs.Places.{place_stored}
use Rattle.model.proofs.Branches.{Branch, idle_draws, idle_prepares, prepares, swap_root, swap_inner, swap_joins, link_writes, wait_root_locked, wait_root_granted, wait_ungranted, wait_acquires, wait_passed, wait_crossed, inside_leaves, check_passes, check_releases, help_alone, help_linked, cas_last, cas_not_last, linger_alone, linger_linked, grant_writes, draw_shown, draw_unshown, watch_shown, watch_unshown, raise_counts, invalid_stays, branch}
use Rattle.model.proofs.Trees.Accepted.{Accepted, accepted}
use Rattle.model.proofs.Trees.Paths.{path_real}
use Rattle.model.proofs.Laws.Facts.{Facts, well_formed_facts}

-- a move to another place, not to Inside
abbrev MovesTo : (before after : Place) → Type 0
MovesTo p q = (q ≢ p) × (q ≢ Inside)

-- places of different rows differ
not_inside : (p : Place) → eqb (words_of p).row 5 ≡ false → p ≢ Inside
not_inside p f e = eqb-false _ _ f (ap (λ x. (words_of x).row) e)

moves_to : (p q : Place) → eqb (words_of q).row (words_of p).row || eqb (words_of q).row 5 ≡ false → MovesTo p q
moves_to p q f =
    let both = or_neither (eqb (words_of q).row (words_of p).row) (eqb (words_of q).row 5) f in
    (λ e. eqb-false _ _ both.0 (ap (λ x. (words_of x).row) e), λ e. eqb-false _ _ both.1 (ap (λ x. (words_of x).row) e))

-- the result of a step of a thread from a place
pub data Outcome (t : Tree) (s : State) (i : ℕ) (p : Place) (x : RowResult) : Type 0 where
  stayed : x.kind ≡ stay → x.state ≡ s → p ≢ Inside → Outcome t s i p x
  moved : (q : Place) → x.kind ≡ other → place x.state i ≡ q → MovesTo p q → p ≢ Inside → Outcome t s i p x
  left : (q : Place) → x.kind ≡ leaving → place x.state i ≡ q → MovesTo p q → p ≡ Inside → Outcome t s i p x
  entered_root : x.kind ≡ root_entry → place x.state i ≡ Inside → EntersRoot t i p → Outcome t s i p x
  entered_passed : x.kind ≡ passed_entry → place x.state i ≡ Inside → (t.home i ≢ 0) × (p ≡ Wait (t.home i)) → Outcome t s i p x
  entered_crossed :
      x.kind ≡ crossed_entry → place x.state i ≡ Inside → (l : ℕ) × (l ≢ 0) × (l ≢ t.home i) × (p ≡ Wait l) → Outcome t s i p x

module _ (t : Tree) (valid : Accepted t) (i : ℕ) (h : i < t.threads) (s : State) (k : Facts t s) where
  abbrev Of : Place → RowResult → Type 0
  Of p x = Outcome t s i p x

  -- the stores of a row change no place except the thread's own
  stored : (q : Place) → place (with_place i q s) i ≡ q
  stored q = place_stored i q s (k.typed.places_room, omega (arith, valid.few_threads))

  acquire_moves : (p : Place) (d : ℕ) → MovesTo p Draw → MovesTo p (Prep d) → MovesTo p (acquire_place t d)
  acquire_moves p d f g = by_test (MovesTo p) (is_ticket t d) Draw (Prep d) (λ _. f) (λ _. g)

  release_moves : (p : Place) (d : ℕ) → MovesTo p Raise → MovesTo p (Help d) → MovesTo p (Check d) → MovesTo p (release_place t d)
  release_moves p d r f g =
      by_test (MovesTo p) (is_ticket t d) Raise _ (λ _. r) (λ _. by_test (MovesTo p) (eqb d 0) (Help d) (Check d) (λ _. f) (λ _. g))

  done_moves : (p : Place) (l : ℕ) → MovesTo p Idle → MovesTo p (Help (child t i l)) → MovesTo p (done_place t i l)
  done_moves p l f g = by_test (MovesTo p) (eqb l (t.home i)) Idle (Help (child t i l)) (λ _. f) (λ _. g)

  -- a parent is another domain
  parent_moves : (l : ℕ) → on_path t i l ≡ true → l ≢ 0 → MovesTo (Check l) (release_place t (t.parent l))
  parent_moves l o n =
      let d = t.parent l in
      let lower = valid.parent_lower l (omega arith) (path_real t valid i h l o) in
      release_moves (Check l) d (moves_to (Check l) Raise refl) (moves_to (Check l) (Help d) refl)
      (λ e. let z = ap (λ x. (words_of x).domain) e in omega arith, λ e. let z = ap (λ x. (words_of x).row) e in omega arith)

  -- moves to places that are not Inside
  goes : {x : RowResult} (p q : Place) → x.kind ≡ other → place x.state i ≡ place (with_place i q s) i → eqb (words_of p).row 5 ≡ false → MovesTo p q → Of p x
  goes p q k e n f = moved q k (e ∙ stored q) f (not_inside p n)

  climbs : {x : RowResult} (p : Place) (l : ℕ) → x.kind ≡ other → place x.state i ≡ place (with_place i (acquired_place t l) s) i → eqb (words_of p).row 5 ≡ false →
      MovesTo p Draw → MovesTo p (Prep (t.parent l)) → Of p x
  climbs p l k e n f g = goes p (acquired_place t l) k e n (acquire_moves p (t.parent l) f g)

  finishes : {x : RowResult} (p : Place) (l : ℕ) → x.kind ≡ other → place x.state i ≡ place (with_place i (done_place t i l) s) i → eqb (words_of p).row 5 ≡ false →
      MovesTo p Idle → MovesTo p (Help (child t i l)) → Of p x
  finishes p l k e n f g = goes p (done_place t i l) k e n (done_moves p l f g)

  row_outcome : {p : Place} {x : RowResult} → good_place t i p ≡ true → Branch t i s p x → Of p x
  unfolding good_place
  row_outcome g (idle_draws z (draw_shown e)) = entered_root refl (stored Inside) (by_own_draw refl z)
  row_outcome g (idle_draws z (draw_unshown e)) = goes Idle Watch refl refl refl (moves_to Idle Watch refl)
  row_outcome g (idle_prepares z (prepares l v c)) = goes Idle (Swap l) refl refl refl (moves_to Idle (Swap l) refl)
  row_outcome g (prepares l v c) = goes (Prep l) (Swap l) refl refl refl (moves_to (Prep l) (Swap l) refl)
  row_outcome g (swap_root l z e) = entered_root refl (stored Inside) (by_swap (ap Swap z))
  row_outcome g (swap_inner l z e) = climbs (Swap l) l refl refl refl (moves_to (Swap l) Draw refl) (moves_to (Swap l) (Prep (t.parent l)) refl)
  row_outcome g (swap_joins l e) = let q = Link l (tail s l - 1) in goes (Swap l) q refl refl refl (moves_to (Swap l) q refl)
  row_outcome g (link_writes l p) = goes (Link l p) (Wait l) refl refl refl (moves_to (Link l p) (Wait l) refl)
  row_outcome g (wait_root_locked l z e) = stayed refl refl (not_inside (Wait l) refl)
  row_outcome g (wait_root_granted l z e) = entered_root refl (stored Inside) (by_wait (ap Wait z))
  row_outcome g (wait_ungranted l z e) = stayed refl refl (not_inside (Wait l) refl)
  row_outcome g (wait_acquires l z e) = climbs (Wait l) l refl refl refl (moves_to (Wait l) Draw refl) (moves_to (Wait l) (Prep (t.parent l)) refl)
  row_outcome g (wait_passed l z e f same) = entered_passed refl (stored Inside) (λ y. z (same ∙ y), ap Wait same)
  row_outcome g (wait_crossed l z e f apart) = entered_crossed refl (stored Inside) (l, z, apart, refl)
  row_outcome g inside_leaves =
      let d = t.home i in
      left (release_place t d) refl (stored (release_place t d))
      (release_moves Inside d (moves_to Inside Raise refl) (moves_to Inside (Help d) refl) (moves_to Inside (Check d) refl)) refl
  row_outcome g (check_passes l e n) = let q = Grant l (next s (own_record t i l) - 1) (status s (own_record t i l) + 1) in goes (Check l) q refl refl refl (moves_to (Check l) q refl)
  row_outcome g (check_releases l e) =
      let c = and_both (on_path t i l) (not (eqb l 0)) g in
      goes (Check l) (release_place t (t.parent l)) refl refl refl (parent_moves l c.0 (eqb-false l 0 (not-true (eqb l 0) c.1)))
  row_outcome g (help_alone l n) = goes (Help l) (Cas l) refl refl refl (moves_to (Help l) (Cas l) refl)
  row_outcome g (help_linked l v n c) = let q = Grant l (next s (own_record t i l) - 1) v in goes (Help l) q refl refl refl (moves_to (Help l) q refl)
  row_outcome g (cas_last l e) = finishes (Cas l) l refl refl refl (moves_to (Cas l) Idle refl) (moves_to (Cas l) (Help (child t i l)) refl)
  row_outcome g (cas_not_last l e) = goes (Cas l) (Linger l) refl refl refl (moves_to (Cas l) (Linger l) refl)
  row_outcome g (linger_alone l n) = stayed refl refl (not_inside (Linger l) refl)
  row_outcome g (linger_linked l v n c) = let q = Grant l (next s (own_record t i l) - 1) v in goes (Linger l) q refl refl refl (moves_to (Linger l) q refl)
  row_outcome g (grant_writes l r w) = let p = Grant l r w in finishes p l refl refl refl (moves_to p Idle refl) (moves_to p (Help (child t i l)) refl)
  row_outcome g (draw_shown e) = entered_root refl (stored Inside) (by_draw refl)
  row_outcome g (draw_unshown e) = goes Draw Watch refl refl refl (moves_to Draw Watch refl)
  row_outcome g (watch_shown e) = entered_root refl (stored Inside) (by_watch refl)
  row_outcome g (watch_unshown e) = stayed refl refl (not_inside Watch refl)
  row_outcome g raise_counts = finishes Raise 0 refl refl refl (moves_to Raise Idle refl) (moves_to Raise (Help (child t i 0)) refl)
  row_outcome g invalid_stays = absurd (false≢true g)

  pub step_outcome : Outcome t s i (place s i) (row t i (place s i) s)
  step_outcome = row_outcome ((k.places i).used h) (branch t i s (place s i))

-- WHICH ROWS MAY STAY
unfoldable pub may_stay : Place → Bool
may_stay Idle = false
may_stay (Prep l) = false
may_stay (Swap l) = false
may_stay (Link l p) = false
may_stay (Wait l) = true
may_stay Inside = false
may_stay (Check l) = false
may_stay (Help l) = false
may_stay (Cas l) = false
may_stay (Linger l) = true
may_stay (Grant l r w) = false
may_stay Draw = false
may_stay Watch = true
may_stay Raise = false
may_stay Invalid = true

pub goes_on : {t : Tree} {i : ℕ} {s : State} {p : Place} {x : RowResult} → may_stay p ≡ false → Branch t i s p x → is_kind stay x.kind ≡ false
unfolding may_stay is_kind
goes_on f (idle_draws z (draw_shown e)) = refl
goes_on f (idle_draws z (draw_unshown e)) = refl
goes_on f (idle_prepares z (prepares l v c)) = refl
goes_on f (prepares l v c) = refl
goes_on f (swap_root l z e) = refl
goes_on f (swap_inner l z e) = refl
goes_on f (swap_joins l e) = refl
goes_on f (link_writes l p) = refl
goes_on f (wait_root_locked l z e) = absurd (true≢false f)
goes_on f (wait_root_granted l z e) = refl
goes_on f (wait_ungranted l z e) = absurd (true≢false f)
goes_on f (wait_acquires l z e) = refl
goes_on f (wait_passed l z e y a) = refl
goes_on f (wait_crossed l z e y a) = refl
goes_on f inside_leaves = refl
goes_on f (check_passes l e n) = refl
goes_on f (check_releases l e) = refl
goes_on f (help_alone l n) = refl
goes_on f (help_linked l v n c) = refl
goes_on f (cas_last l e) = refl
goes_on f (cas_not_last l e) = refl
goes_on f (linger_alone l n) = absurd (true≢false f)
goes_on f (linger_linked l v n c) = refl
goes_on f (grant_writes l r w) = refl
goes_on f (draw_shown e) = refl
goes_on f (draw_unshown e) = refl
goes_on f (watch_shown e) = refl
goes_on f (watch_unshown e) = absurd (true≢false f)
goes_on f raise_counts = refl
goes_on f invalid_stays = absurd (true≢false f)

pub stay_named : (k : Kind) → is_kind stay k ≡ true → k ≡ stay
unfolding is_kind
stay_named stay e = refl
stay_named other e = absurd (false≢true e)
stay_named root_entry e = absurd (false≢true e)
stay_named passed_entry e = absurd (false≢true e)
stay_named crossed_entry e = absurd (false≢true e)
stay_named leaving e = absurd (false≢true e)

pub no_stay : (k : Kind) → is_kind stay k ≡ false → k ≢ stay
unfolding is_kind
no_stay k f e = eqb-false 0 (kind_number k) f (sym (ap kind_number e))

-- FROM OUTCOMES TO KINDS
kind_entry : (k j : Kind) → k ≡ j → is_entry j ≡ true → is_entry k ≡ true
kind_entry k j e f = rw e f

never : {A : Type 0} → ◌≡◌ {A = ℕ} 0 1 → A
never z = absurd (omega arith)

module _ (t : Tree) (i : ℕ) (s : State) where
  -- the kind, the place before and the place after
  abbrev kind : Kind
  kind = (step t i s).kind

  abbrev before : Place
  before = place s i

  abbrev after : Place
  after = place (step t i s).state i

  -- where each kind of entry comes from
  abbrev FromRoot : Type 0
  FromRoot = EntersRoot t i before

  abbrev FromHome : Type 0
  FromHome = (t.home i ≢ 0) × (before ≡ Wait (t.home i))

  abbrev FromBetween : Type 0
  FromBetween = (l : ℕ) × (l ≢ 0) × (l ≢ t.home i) × (before ≡ Wait l)

  root_not_inside : FromRoot → before ≡ Inside → ◌≡◌ {A = ℕ} 0 1
  root_not_inside (by_swap e) f = cc
  root_not_inside (by_wait e) f = cc
  root_not_inside (by_draw e) f = cc
  root_not_inside (by_watch e) f = cc
  root_not_inside (by_own_draw e z) f = cc

  home_not_inside : FromHome → before ≡ Inside → ◌≡◌ {A = ℕ} 0 1
  home_not_inside (n, e) f = cc

  between_not_inside : FromBetween → before ≡ Inside → ◌≡◌ {A = ℕ} 0 1
  between_not_inside (l, n, m, e) f = cc

  root_not_home : FromRoot → FromHome → ◌≡◌ {A = ℕ} 0 1
  root_not_home (by_swap e) (n, f) = cc
  root_not_home (by_draw e) (n, f) = cc
  root_not_home (by_watch e) (n, f) = cc
  root_not_home (by_own_draw e z) (n, f) = cc
  root_not_home (by_wait e) (n, f) = let z : t.home i ≡ 0 = cc in absurd (n z)

  root_not_between : FromRoot → FromBetween → ◌≡◌ {A = ℕ} 0 1
  root_not_between (by_swap e) (l, n, m, f) = cc
  root_not_between (by_draw e) (l, n, m, f) = cc
  root_not_between (by_watch e) (l, n, m, f) = cc
  root_not_between (by_own_draw e z) (l, n, m, f) = cc
  root_not_between (by_wait e) (l, n, m, f) = let z : l ≡ 0 = cc in absurd (n z)

  home_not_between : FromHome → FromBetween → ◌≡◌ {A = ℕ} 0 1
  home_not_between (n, e) (l, m, o, f) = let z : l ≡ t.home i = cc in absurd (o z)

  not_entry : (k : Kind) → kind ≡ k → is_entry k ≡ false → is_entry kind ≢ true
  not_entry k e f g = false≢true (sym f ∙ ap is_entry (sym e) ∙ g)

  reports : Outcome t s i before (row t i (place s i) s) → ReportsKind t i s
  unfolding step is_entry
  reports (stayed e f n) =
      let same : after ≡ before = ap (λ x. place x i) f in
      record {
        stays_exactly = (λ _. f, λ _. e);
        enters_exactly = (λ g. absurd (not_entry stay e refl g), λ g. absurd (g.1 (sym same ∙ g.0)));
        root_exactly = (λ g. never (cc), λ g. never (root_not_inside g.1 (sym same ∙ g.0)));
        passed_exactly = (λ g. never (cc), λ g. never (home_not_inside g.1 (sym same ∙ g.0)));
        crossed_exactly = (λ g. never (cc), λ g. never (between_not_inside g.1 (sym same ∙ g.0)));
        leaving_exactly = (λ g. never (cc), λ g. absurd (n g));
      }
  reports (moved q e f m n) =
      record {
        stays_exactly = (λ g. never (cc), λ g. absurd (m.0 (sym f ∙ ap (λ x. place x i) g)));
        enters_exactly = (λ g. absurd (not_entry other e refl g), λ g. absurd (m.1 (sym f ∙ g.0)));
        root_exactly = (λ g. never (cc), λ g. absurd (m.1 (sym f ∙ g.0)));
        passed_exactly = (λ g. never (cc), λ g. absurd (m.1 (sym f ∙ g.0)));
        crossed_exactly = (λ g. never (cc), λ g. absurd (m.1 (sym f ∙ g.0)));
        leaving_exactly = (λ g. never (cc), λ g. absurd (n g));
      }
  reports (left q e f m n) =
      record {
        stays_exactly = (λ g. never (cc), λ g. absurd (m.0 (sym f ∙ ap (λ x. place x i) g)));
        enters_exactly = (λ g. absurd (not_entry leaving e refl g), λ g. absurd (m.1 (sym f ∙ g.0)));
        root_exactly = (λ g. never (cc), λ g. absurd (m.1 (sym f ∙ g.0)));
        passed_exactly = (λ g. never (cc), λ g. absurd (m.1 (sym f ∙ g.0)));
        crossed_exactly = (λ g. never (cc), λ g. absurd (m.1 (sym f ∙ g.0)));
        leaving_exactly = (λ _. n, λ _. e);
      }
  reports (entered_root e f m) =
      record {
        stays_exactly = (λ g. never (cc), λ g. never (root_not_inside m (sym (ap (λ x. place x i) g) ∙ f)));
        enters_exactly = (λ _. (f, λ g. never (root_not_inside m g)), λ _. kind_entry kind root_entry e refl);
        root_exactly = (λ _. (f, m), λ _. e);
        passed_exactly = (λ g. never (cc), λ g. never (root_not_home m g.1));
        crossed_exactly = (λ g. never (cc), λ g. never (root_not_between m g.1));
        leaving_exactly = (λ g. never (cc), λ g. never (root_not_inside m g));
      }
  reports (entered_passed e f m) =
      record {
        stays_exactly = (λ g. never (cc), λ g. never (home_not_inside m (sym (ap (λ x. place x i) g) ∙ f)));
        enters_exactly = (λ _. (f, λ g. never (home_not_inside m g)), λ _. kind_entry kind passed_entry e refl);
        root_exactly = (λ g. never (cc), λ g. never (root_not_home g.1 m));
        passed_exactly = (λ _. (f, m), λ _. e);
        crossed_exactly = (λ g. never (cc), λ g. never (home_not_between m g.1));
        leaving_exactly = (λ g. never (cc), λ g. never (home_not_inside m g));
      }
  reports (entered_crossed e f m) =
      record {
        stays_exactly = (λ g. never (cc), λ g. never (between_not_inside m (sym (ap (λ x. place x i) g) ∙ f)));
        enters_exactly = (λ _. (f, λ g. never (between_not_inside m g)), λ _. kind_entry kind crossed_entry e refl);
        root_exactly = (λ g. never (cc), λ g. never (root_not_between g.1 m));
        passed_exactly = (λ g. never (cc), λ g. never (home_not_between g.1 m));
        crossed_exactly = (λ _. (f, m), λ _. e);
        leaving_exactly = (λ g. never (cc), λ g. never (between_not_inside m g));
      }

pub kind_law : KindLaw
unfolding KindLaw
kind_law t i s e h f = let valid = accepted t e in reports t i s (step_outcome t valid i h s (well_formed_facts t s f))
