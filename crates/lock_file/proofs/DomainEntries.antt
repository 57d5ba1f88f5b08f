-- The domains' entries: what reading them stores, and that it reads exactly the entries that are there.
use mathlib.Core.Path.{◌≡◌, refl, sym, ◌∙◌, ap}
use mathlib.Core.List.{List, [], ◌++◌, append_assoc}
use mathlib.Core.Logic.{inl}
use Prim.Native.Nat.{ℕ, zero, suc, ◌+◌, ◌≤◌, ◌<◌}
use native.Mathlib.Omega.{arith}
use native.Mathlib.Nat.{add-zero}
use native.Mathlib.Decide.{ℕ_discrete}
use lib.ListN.{length, get_or, drop, length-append}
use Rattle.lock_file.specs.Reading.{At, Ended, BadMap, DomainsRead, domain_end, parent_at, threshold_at, stored, domains_from}
use Rattle.lock_file.specs.Format.{DomainEntries, no_domain, next_domain}
use Rattle.lock_file.proofs.Positions.{reached_cases, domain_then, domain_ended, domain_bad}
use Rattle.lock_file.proofs.Stored.{stored_length, stored_here, stored_other, Outside, outside_next, outside_apart}
use Rattle.lock_file.proofs.DomainEntry.{domain_bytes, domain_fields}

-- reading keeps the lengths of the arrays
pub domains_room :
    (bs : List ℕ) (k d at : ℕ) (ps hs : List ℕ) →
    (length (domains_from bs k d at ps hs).parents ≡ length ps) × (length (domains_from bs k d at ps hs).thresholds ≡ length hs)
unfolding domains_from
domains_room bs zero d at ps hs = (refl, refl)
domains_room bs (suc k) d at ps hs =
    reached_cases (domain_end bs at)
    (λ next e.
    let rest = domains_room bs k (d + 1) next (stored 64 ps d (parent_at bs at)) (stored 64 hs d (threshold_at bs at)) in
    rw (domain_then bs k d at ps hs next e)
    (rest.0 ∙ stored_length 64 ps d (parent_at bs at), rest.1 ∙ stored_length 64 hs d (threshold_at bs at)))
    (λ e. rw (domain_ended bs k d at ps hs e) (refl, refl))
    (λ p e. rw (domain_bad bs k d at ps hs p e) (refl, refl))

-- the words of other domains are unchanged
pub domains_kept :
    (bs : List ℕ) (k d at : ℕ) (ps hs : List ℕ) (j : ℕ) → Outside j d k →
    (get_or (domains_from bs k d at ps hs).parents j 0 ≡ get_or ps j 0) × (get_or (domains_from bs k d at ps hs).thresholds j 0 ≡ get_or hs j 0)
unfolding domains_from
domains_kept bs zero d at ps hs j o = (refl, refl)
domains_kept bs (suc k) d at ps hs j o =
    reached_cases (domain_end bs at)
    (λ next e.
    let rest = domains_kept bs k (d + 1) next (stored 64 ps d (parent_at bs at)) (stored 64 hs d (threshold_at bs at)) j (outside_next j d k o) in
    rw (domain_then bs k d at ps hs next e)
    (rest.0 ∙ stored_other 64 ps d (parent_at bs at) j (outside_apart j d k o), rest.1 ∙ stored_other 64 hs d (threshold_at bs at) j (outside_apart j d k o)))
    (λ e. rw (domain_ended bs k d at ps hs e) (refl, refl))
    (λ p e. rw (domain_bad bs k d at ps hs p e) (refl, refl))

-- entries that were read, with their bytes up to the position reached
pub record DomainsAt (bs : List ℕ) (d k at next : ℕ) (ps hs : List ℕ) : Type 0 where
  pub bytes : List ℕ
  pub entries : DomainEntries ps hs d k bytes
  pub split : drop at bs ≡ bytes ++ drop next bs

pub domains_bytes :
    (bs : List ℕ) (k d at next : ℕ) (ps hs : List ℕ) → length ps ≡ 64 → length hs ≡ 64 →
    (domains_from bs k d at ps hs).reached ≡ At next →
    DomainsAt bs d k at next (domains_from bs k d at ps hs).parents (domains_from bs k d at ps hs).thresholds
unfolding domains_from
domains_bytes bs zero d at next ps hs a b e =
    let z : at ≡ next = cc in
    record { bytes = []; entries = no_domain d; split = rw z }
domains_bytes bs (suc k) d at next ps hs a b e =
    reached_cases (domain_end bs at)
    (λ n g.
    let p = parent_at bs at in
    let h = threshold_at bs at in
    let qs = stored 64 ps d p in
    let is = stored 64 hs d h in
    let then = domain_then bs k d at ps hs n g in
    let first = domain_bytes bs at n g in
    let rest = domains_bytes bs k (d + 1) n next qs is (stored_length 64 ps d p ∙ a) (stored_length 64 hs d h ∙ b) (rw then at e) in
    let room = domains_room bs k (d + 1) n qs is in
    let kept = domains_kept bs k (d + 1) n qs is d (inl (omega arith)) in
    let long = stored_length 64 ps d p in
    let long2 = stored_length 64 hs d h in
    rw then
    (record {
      bytes = first.bytes ++ rest.bytes;
      entries =
          next_domain d k p h first.bytes rest.bytes first.entry (λ l. kept.0 ∙ stored_here 64 ps d p (omega arith) (omega arith))
          (λ l. kept.1 ∙ stored_here 64 hs d h (omega arith) (omega arith)) rest.entries;
      split = first.split ∙ ap (λ l. first.bytes ++ l) rest.split ∙ sym (append_assoc first.bytes rest.bytes (drop next bs));
    }))
    (λ g. let bad : Ended ≡ At next = rw (domain_ended bs k d at ps hs g) at e in absurd (let z : ◌≡◌ {A = ℕ} 0 1 = cc in omega arith))
    (λ p g. let bad : BadMap p ≡ At next = rw (domain_bad bs k d at ps hs p g) at e in absurd (let z : ◌≡◌ {A = ℕ} 0 1 = cc in omega arith))

-- conversely, entries at a position are read, and their words stored
pub record DomainsStored (bs : List ℕ) (d k at : ℕ) (r : DomainsRead) (given_ps given_hs bytes rest : List ℕ) : Type 0 where
  pub reached : r.reached ≡ At (at + length bytes)
  pub after : drop (at + length bytes) bs ≡ rest
  pub parents_given : (j : ℕ) → d ≤ j → j < d + k → j < 64 → get_or r.parents j 0 ≡ get_or given_ps j 0
  pub thresholds_given : (j : ℕ) → d ≤ j → j < d + k → j < 64 → get_or r.thresholds j 0 ≡ get_or given_hs j 0

pub domains_stored :
    (bs given_ps given_hs : List ℕ) (k d at : ℕ) (ps hs xs rest : List ℕ) → length ps ≡ 64 → length hs ≡ 64 → length given_ps ≡ 64 →
    length given_hs ≡ 64 → DomainEntries given_ps given_hs d k xs → drop at bs ≡ xs ++ rest →
    DomainsStored bs d k at (domains_from bs k d at ps hs) given_ps given_hs xs rest
unfolding domains_from
domains_stored bs gp gh k d at ps hs xs rest a b c f (no_domain d') e =
    record {
      reached = rw add-zero;
      after = rw add-zero e;
      parents_given = λ j l m n. absurd (omega arith);
      thresholds_given = λ j l m n. absurd (omega arith);
    }
domains_stored bs gp gh k d at ps hs xs rest a b c f (next_domain d' k' p h ys zs entry hold_p hold_h entries) e =
    let first = domain_fields bs at p h ys (zs ++ rest) entry (rw append_assoc at e) in
    let n = at + length ys in
    let long : n + length zs ≡ at + length (ys ++ zs) = omega (arith, length-append ys zs) in
    let qs = stored 64 ps d (parent_at bs at) in
    let is = stored 64 hs d (threshold_at bs at) in
    let a2 = stored_length 64 ps d (parent_at bs at) ∙ a in
    let b2 = stored_length 64 hs d (threshold_at bs at) ∙ b in
    let then = domain_then bs k' d at ps hs n first.reached in
    let others = domains_stored bs gp gh k' (d + 1) n qs is zs rest a2 b2 c f entries first.after in
    let kept = domains_kept bs k' (d + 1) n qs is d (inl (omega arith)) in
    rw then
    (record {
      reached = others.reached ∙ ap At long;
      after = rw long at others.after;
      parents_given =
          λ j l m o.
          elim (ℕ_discrete j d) [
            | yes z ↦ rw z
                (kept.0 ∙ stored_here 64 ps d (parent_at bs at) (omega arith) (omega arith) ∙ first.parent ∙ sym (hold_p (omega arith)))
            | no z ↦ others.parents_given j (omega arith) (omega arith) o
          ];
      thresholds_given =
          λ j l m o.
          elim (ℕ_discrete j d) [
            | yes z ↦ rw z
                (kept.1 ∙ stored_here 64 hs d (threshold_at bs at) (omega arith) (omega arith) ∙ first.threshold ∙ sym (hold_h (omega arith)))
            | no z ↦ others.thresholds_given j (omega arith) (omega arith) o
          ];
    })
