-- `rows::step::take` meets its contract: each arm is the row of the place.
use Rattle.std.proofs.Common.{cond, eqb, sym, refl, ap, ◌∙◌, arith}
use Rattle.model.specs.declared.PlaceWords.{PlaceWords}
use Rattle.model.specs.declared.Place.TheVariants.{Idle, Prep, Swap, Link, Wait, Inside, Check, Help, Cas, Linger, Grant, Draw, Watch, Raise}
use Rattle.rows.specs.Common.Counting.{taken_in}
use Rattle.rows.specs.Step.Counting.{started_in}
use Rattle.rows.specs.Kinds.{number_of_kind}
use Rattle.rows.proofs.common.Counts.{not_entered}
use Rattle.rows.proofs.step.StepCounted.{raise_counted, check_counted}
use Rattle.rows.proofs.step.StepTaken.{fits, not_invalid, never, real, turn_of, found, home_same, home_real, words_are, row_of, link_fits, grant_fits, counted, shown_kept, at_domain, stands, above, own_taken, taken, inner, threshold_is, at_root, own_small}
use Rattle.rows.proofs.step.take.Goals as goal

pub bounds-tree-i : goal.bounds-tree-i
bounds-tree-i c = let f = fits (turn_of _ _ _ c.requires.ready) in omega (arith, f.few_threads, f.real)

pub place_by_row-p-requires : goal.place_by_row-p-requires
place_by_row-p-requires c = not_invalid (turn_of _ _ _ c.requires.ready)

pub member_at-w-requires : goal.member_at-w-requires
member_at-w-requires c = let b = c.domain_by_row-l.ensures in let a = c.place_by_row-p.ensures in let r = turn_of _ _ _ c.requires.ready in let f = fits r in
    record { leads_up = f.leads_up; i_bound = (omega (arith, f.real, f.few_threads), (f.home_real, real r a b)) }

pub start-requires : goal.start-requires
start-requires c = let F = found (turn_of _ _ _ c.requires.ready) c.place_by_row-p.ensures c.domain_by_row-l.ensures c.member_at-w.ensures in let f = fits F.turn in
    record { leads_up = f.leads_up; home_lt_domains = (home_real F, (F.member.within, own_small F c.in-Idle.is)); room_above = c.requires.room_above }

pub swap-requires : goal.swap-requires
swap-requires c = let F = found (turn_of _ _ _ c.requires.ready) c.place_by_row-p.ensures c.domain_by_row-l.ensures c.member_at-w.ensures in let f = fits F.turn in
    record { leads_up = f.leads_up; home_lt_domains = (home_real F, F.member.within); room_above = c.requires.room_above }

pub link-requires : goal.link-requires
link-requires c = let F = found (turn_of _ _ _ c.requires.ready) c.place_by_row-p.ensures c.domain_by_row-l.ensures c.member_at-w.ensures in record { within = F.member.within; before_bound = link_fits F _ _ c.in-Link.is }

pub wait-requires : goal.wait-requires
wait-requires c = let F = found (turn_of _ _ _ c.requires.ready) c.place_by_row-p.ensures c.domain_by_row-l.ensures c.member_at-w.ensures in let f = fits F.turn in
    record { leads_up = f.leads_up; home_lt_domains = (home_real F, F.member.within); room_above = c.requires.room_above.0 }

pub grant-requires : goal.grant-requires
grant-requires c = let F = found (turn_of _ _ _ c.requires.ready) c.place_by_row-p.ensures c.domain_by_row-l.ensures c.member_at-w.ensures in record { to_bound = grant_fits F _ _ _ c.in-Grant.is; room_above = c.requires.room_above.1 }

pub draw-requires : goal.draw-requires
draw-requires c = let F = found (turn_of _ _ _ c.requires.ready) c.place_by_row-p.ensures c.domain_by_row-l.ensures c.member_at-w.ensures in let f = fits F.turn in
    record { leads_up = f.leads_up; home_lt_domains = (home_real F, (F.member.within, at_root F Draw c.in-Draw.is refl)); room_above = c.requires.room_above }

pub watch-requires : goal.watch-requires
watch-requires c = let F = found (turn_of _ _ _ c.requires.ready) c.place_by_row-p.ensures c.domain_by_row-l.ensures c.member_at-w.ensures in let f = fits F.turn in
    record { leads_up = f.leads_up; home_lt_domains = (home_real F, at_root F Watch c.in-Watch.is refl); room_above = c.requires.room_above.0 }

pub count_shown-requires : goal.count_shown-requires
count_shown-requires c = record { domains_bound = (fits (turn_of _ _ _ c.requires.ready)).leads_up.few_domains; shown_for = c.requires.shown_for; room_above = c.requires.room_above.1 }

pub raise-requires : goal.raise-requires
raise-requires c = let F = found (turn_of _ _ _ c.requires.ready) c.place_by_row-p.ensures c.domain_by_row-l.ensures c.member_at-w.ensures in at_root F Raise c.in-Raise.is refl

pub returns-in-Idle : goal.returns-in-Idle
unfolding started_in
returns-in-Idle c = let F = found (turn_of _ _ _ c.requires.ready) c.place_by_row-p.ensures c.domain_by_row-l.ensures c.member_at-w.ensures in
    let same = c.in-Idle.is in let done = c.start.ensures.row_done in
    record {
      fact = taken F Idle _ _ _ same done.places_kept (λ ps here. done.does _ _ ps (stands F, (above F).root_is));
      entered = rw F.member.home_is at c.start.ensures.entered;
      counted_step = counted F Idle same refl refl _ _ _ _ _ 0 refl c.start.ensures.started;
      shown_left = shown_kept F Idle same refl _;
    }

pub returns-in-Prep : goal.returns-in-Prep
unfolding started_in
returns-in-Prep c = let F = found (turn_of _ _ _ c.requires.ready) c.place_by_row-p.ensures c.domain_by_row-l.ensures c.member_at-w.ensures in
    let same = c.in-Prep.is in let done = c.prep.ensures.row_done in
    record {
      fact = taken F (Prep _) _ _ _ same done.places_kept (λ ps here. done.does _ _ ps (stands F));
      entered = not_entered _ _ _ _ c.prep.ensures.kind_value;
      counted_step = counted F (Prep _) same refl refl _ _ _ _ _ 0 refl (record { added = refl; raised = refl });
      shown_left = shown_kept F (Prep _) same refl _;
    }

pub returns-in-Swap : goal.returns-in-Swap
unfolding started_in
returns-in-Swap c = let F = found (turn_of _ _ _ c.requires.ready) c.place_by_row-p.ensures c.domain_by_row-l.ensures c.member_at-w.ensures in
    let same = c.in-Swap.is in let done = c.swap.ensures.row_done in
    record {
      fact = taken F (Swap _) _ _ _ same done.places_kept (λ ps here. done.does _ _ ps (stands F, above F));
      entered = rw F.member.home_is at c.swap.ensures.entered;
      counted_step = counted F (Swap _) same refl refl _ _ _ _ _ _ (ap (cond (eqb c.swap.result.place.row 3) 0) (own_taken F ∙ ap (taken_in _ _ _) (at_domain F (Swap _) same))) c.swap.ensures.started;
      shown_left = shown_kept F (Swap _) same refl _;
    }

pub returns-in-Link : goal.returns-in-Link
unfolding started_in
returns-in-Link c = let F = found (turn_of _ _ _ c.requires.ready) c.place_by_row-p.ensures c.domain_by_row-l.ensures c.member_at-w.ensures in
    let same = c.in-Link.is in let done = c.link.ensures.row_done in
    record {
      fact = taken F (Link _ _) _ _ _ same done.places_kept (λ ps here. done.does _ _ ps (stands F));
      entered = not_entered _ _ _ _ c.link.ensures.kind_value;
      counted_step = counted F (Link _ _) same refl refl _ _ _ _ _ 0 refl (record { added = refl; raised = refl });
      shown_left = shown_kept F (Link _ _) same refl _;
    }

pub returns-in-Wait : goal.returns-in-Wait
unfolding started_in
returns-in-Wait c = let F = found (turn_of _ _ _ c.requires.ready) c.place_by_row-p.ensures c.domain_by_row-l.ensures c.member_at-w.ensures in
    let same = c.in-Wait.is in let done = c.wait.ensures.row_done in
    record {
      fact = taken F (Wait _) _ _ _ same done.places_kept (λ ps here. done.does _ _ ps (stands F, (above F, sym here)));
      entered = rw F.member.home_is at c.wait.ensures.entered;
      counted_step = counted F (Wait _) same refl refl _ _ _ _ _ 0 refl (record { added = refl; raised = refl });
      shown_left = shown_kept F (Wait _) same refl _;
    }

pub returns-in-Inside : goal.returns-in-Inside
unfolding started_in
returns-in-Inside c = let F = found (turn_of _ _ _ c.requires.ready) c.place_by_row-p.ensures c.domain_by_row-l.ensures c.member_at-w.ensures in
    let same = c.in-Inside.is in let done = c.leave.ensures.row_done _ in
    record {
      fact = taken F Inside _ _ _ same done.places_kept (λ ps here. done.does _ _ ps (sym (home_same F), (above F).root_is));
      entered = not_entered _ _ _ _ c.leave.ensures.kind_value;
      counted_step = counted F Inside same refl refl _ _ _ _ _ 0 refl (record { added = refl; raised = refl });
      shown_left = shown_kept F Inside same refl _;
    }

pub returns-in-Check : goal.returns-in-Check
returns-in-Check c = let F = found (turn_of _ _ _ c.requires.ready) c.place_by_row-p.ensures c.domain_by_row-l.ensures c.member_at-w.ensures in
    let same = c.in-Check.is in let i = inner F _ same in
    let there = F.member.domain_is ∙ at_domain F _ same ∙ sym (ap (λ (y : PlaceWords). y.domain) (words_are F _ same)) in
    let done = c.check.ensures.row_done in
    record {
      fact = taken F (Check _) _ _ _ same done.places_kept (λ ps here. done.does _ _ ps (record { stands = stands F; inner = i; above = above F; threshold_is = threshold_is F i }));
      entered = not_entered _ _ _ _ c.check.ensures.kind_value;
      counted_step = check_counted _ _ _ _ _ _ _ _ _ (row_of F _ same) _ (ap (λ d. cond (eqb c.check.result.place.row 10) d 0) there) refl c.check.ensures.longest_after;
      shown_left = shown_kept F (Check _) same refl _;
    }

pub returns-in-Help : goal.returns-in-Help
unfolding started_in
returns-in-Help c = let F = found (turn_of _ _ _ c.requires.ready) c.place_by_row-p.ensures c.domain_by_row-l.ensures c.member_at-w.ensures in
    let same = c.in-Help.is in let done = c.help.ensures.row_done c.args.words.now in
    record {
      fact = taken F (Help _) _ _ _ same done.places_kept (λ ps here. done.does _ _ ps (stands F, refl));
      entered = not_entered _ _ _ _ c.help.ensures.kind_value;
      counted_step = counted F (Help _) same refl refl _ _ _ _ _ 0 refl (record { added = refl; raised = refl });
      shown_left = shown_kept F (Help _) same refl _;
    }

pub returns-in-Cas : goal.returns-in-Cas
unfolding started_in
returns-in-Cas c = let F = found (turn_of _ _ _ c.requires.ready) c.place_by_row-p.ensures c.domain_by_row-l.ensures c.member_at-w.ensures in
    let same = c.in-Cas.is in let done = c.cas.ensures.row_done in
    record {
      fact = taken F (Cas _) _ _ _ same done.places_kept (λ ps here. done.does _ _ ps (stands F));
      entered = not_entered _ _ _ _ c.cas.ensures.kind_value;
      counted_step = counted F (Cas _) same refl refl _ _ _ _ _ 0 refl (record { added = refl; raised = refl });
      shown_left = shown_kept F (Cas _) same refl _;
    }

pub returns-in-Linger : goal.returns-in-Linger
unfolding started_in
returns-in-Linger c = let F = found (turn_of _ _ _ c.requires.ready) c.place_by_row-p.ensures c.domain_by_row-l.ensures c.member_at-w.ensures in
    let same = c.in-Linger.is in let done = c.linger.ensures.row_done c.args.words.now in
    record {
      fact = taken F (Linger _) _ _ _ same done.places_kept (λ ps here. done.does _ _ ps (stands F, (refl, sym here)));
      entered = not_entered _ _ _ _ c.linger.ensures.kind_value;
      counted_step = counted F (Linger _) same refl refl _ _ _ _ _ 0 refl (record { added = refl; raised = refl });
      shown_left = shown_kept F (Linger _) same refl _;
    }

pub returns-in-Grant : goal.returns-in-Grant
unfolding started_in
returns-in-Grant c = let F = found (turn_of _ _ _ c.requires.ready) c.place_by_row-p.ensures c.domain_by_row-l.ensures c.member_at-w.ensures in
    let same = c.in-Grant.is in let done = c.grant.ensures.row_done in
    record {
      fact = taken F (Grant _ _ _) _ _ _ same done.places_kept (λ ps here. done.does _ _ ps (stands F));
      entered = rw c.grant.ensures.entries_kept (not_entered _ _ _ _ c.grant.ensures.kind_value);
      counted_step = counted F (Grant _ _ _) same refl refl _ _ _ _ _ _ refl c.grant.ensures.started;
      shown_left = shown_kept F (Grant _ _ _) same refl _;
    }

pub returns-in-Draw : goal.returns-in-Draw
unfolding started_in
returns-in-Draw c = let F = found (turn_of _ _ _ c.requires.ready) c.place_by_row-p.ensures c.domain_by_row-l.ensures c.member_at-w.ensures in
    let same = c.in-Draw.is in let done = c.draw.ensures.row_done in
    record {
      fact = taken F Draw _ _ _ same done.places_kept (λ ps here. done.does _ _ ps (stands F));
      entered = rw F.member.home_is at c.draw.ensures.entered;
      counted_step = counted F Draw same refl refl _ _ _ _ _ _ (ap (cond (eqb (number_of_kind c.draw.result.kind) 1) 0) (own_taken F ∙ ap (taken_in _ _ _) (at_domain F Draw same))) c.draw.ensures.started;
      shown_left = shown_kept F Draw same refl _;
    }

pub returns-in-Watch : goal.returns-in-Watch
unfolding started_in
returns-in-Watch c = let F = found (turn_of _ _ _ c.requires.ready) c.place_by_row-p.ensures c.domain_by_row-l.ensures c.member_at-w.ensures in
    let same = c.in-Watch.is in let done = c.watch.ensures.row_done c.args.words.now in
    record {
      fact = taken F Watch _ _ _ same done.places_kept (λ ps here. done.does _ _ ps (stands F, (refl, (refl, sym here))));
      entered = rw F.member.home_is at c.watch.ensures.entered;
      counted_step = counted F Watch same refl refl _ _ _ _ _ 0 refl (record { added = refl; raised = refl });
      shown_left = shown_kept F Watch same refl _;
    }

pub returns-in-Raise : goal.returns-in-Raise
returns-in-Raise c = let F = found (turn_of _ _ _ c.requires.ready) c.place_by_row-p.ensures c.domain_by_row-l.ensures c.member_at-w.ensures in
    let same = c.in-Raise.is in let done = c.raise.ensures.row_done in
    record {
      fact = taken F Raise _ _ _ same done.places_kept (λ ps here. done.does _ _ ps (stands F));
      entered = rw c.count_shown.ensures.entries_kept (not_entered _ _ _ _ c.raise.ensures.kind_value);
      counted_step = raise_counted _ _ _ _ _ _ _ _ _ (row_of F Raise same) c.count_shown.ensures.counted_shown;
      shown_left = record { raise = λ z. c.count_shown.ensures.clear; other = λ n. absurd (n (row_of F Raise same)) };
    }

pub returns-in-Invalid : goal.returns-in-Invalid
returns-in-Invalid c = absurd (never (turn_of _ _ _ c.requires.ready) c.place_by_row-p.ensures c.in-Invalid.is)
