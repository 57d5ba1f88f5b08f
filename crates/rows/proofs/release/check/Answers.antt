-- `rows::release::check` meets its contract: it does Check, and reports the length of a tenure that continues.
use Rattle.std.proofs.Common.{◌<◌, get_or, refl, mod-eq_of_lt, le-ltb, lt-ltb, eq-eqb, ne_eqb, rules}
use Rattle.model.specs.Steps.{check_row}
use Rattle.model.proofs.Tests.{and_false}
use Rattle.rows.proofs.release.Leaving.{release_is}
use Rattle.rows.proofs.release.check.Goals.{then-h-v-via-then-h-v, then-h-v-via-else-h-v+then-n-eq0}
use Rattle.rows.proofs.release.check.Goals as goal

pub returns-then-h-v-clause-row_done : goal.returns-then-h-v-clause-row_done
unfolding check_row
returns-then-h-v-clause-row_done c =
    let fits : get_or c.args.tree.now.thresholds c.args.w.domain 0 < 65536 = search rules in
    record {
      places_kept = refl;
      does = λ t i ps S.
          elim c.then-h-v.branch [
            | then-h-v-via-then-h-v w ↦
                rw (c.to.ensures, c.release_place_at-next.ensures, release_is t _ S.above.root_is _, ← S.stands.own_is, ← S.threshold_is, mod-eq_of_lt fits, ← c.from-h.ensures, le-ltb _ _ w.if-h-v.true, ← S.above.parent_is S.inner) (record { kind_is = refl; state_left = refl })
            | then-h-v-via-else-h-v+then-n-eq0 w ↦
                rw (c.to.ensures, c.release_place_at-next.ensures, release_is t _ S.above.root_is _, ← S.stands.own_is, eq-eqb _ _ w.if-n-eq0.true, and_false _, ← S.above.parent_is S.inner) (record { kind_is = refl; state_left = refl })
          ];
    }

pub returns-clause-row_done : goal.returns-clause-row_done
unfolding check_row
returns-clause-row_done c =
    let fits : get_or c.args.tree.now.thresholds c.args.w.domain 0 < 65536 = search rules in
    record {
      places_kept = refl;
      does = λ t i ps S. rw (c.to-2.ensures, ← S.stands.own_is, ← S.threshold_is, mod-eq_of_lt fits, ← c.from-h.ensures, lt-ltb _ _ c.if-h-v.false, ne_eqb _ _ c.if-n-eq0.false) (record { kind_is = refl; state_left = refl });
    }
