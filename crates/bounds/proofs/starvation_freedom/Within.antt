-- What holds in some situation within a number of rounds, and how such statements are combined.
use mathlib.Core.Path.{◌≡◌, refl, sym, ap, ◌∙◌}
use mathlib.Core.List.{List, [], ◌∷◌, ◌++◌, append_assoc}
use mathlib.Core.Logic.{◌≢◌, ◌⊎◌, inl, inr}
use Prim.Native.Nat.{ℕ, zero, suc, ◌+◌, ◌≤◌, ◌<◌}
use native.Mathlib.Omega.{arith}
use borrow.Author.Tests.{ne_eqb}
use Rattle.model.specs.Trees.{Tree}
use Rattle.model.specs.Runs.{occurrences}
use Rattle.model.specs.Laws.{AllThreads, SixteenBit}
use Rattle.model.proofs.Lists.{same_or}
use Rattle.model.proofs.Trees.Accepted.{Accepted}
use Rattle.model.proofs.Counted.{occurrences_join}
use Rattle.bounds.proofs.starvation_freedom.Situations.{Situation, next}

-- OCCURRENCES
pub occurrences_other : (i x : ℕ) (xs : List ℕ) → x ≢ i → occurrences i (x ∷ xs) ≡ occurrences i xs
unfolding occurrences
occurrences_other i x xs n = let z = ne_eqb i x (λ e. n (sym e)) in rw z (omega arith)

none_occurs : (i : ℕ) → 1 ≤ occurrences i [] → ⊥
unfolding occurrences
none_occurs i o = omega arith

pub threads_left : (t : Tree) (xs ys : List ℕ) → AllThreads t (xs ++ ys) → AllThreads t xs
unfolding AllThreads
threads_left t [] ys a = tt
threads_left t (x ∷ xs) ys a = (a.0, threads_left t xs ys a.1)

-- ROUNDS, with any entries after them
abbrev pub Everyone : Tree → List ℕ → Type 0
Everyone t r = (i : ℕ) → i < t.threads → 1 ≤ occurrences i r

unfoldable pub Covers : Tree → (rounds : ℕ) → List ℕ → Type 0
Covers t zero S = Unit {0}
Covers t (suc n) S = (r : List ℕ) × (S' : List ℕ) × (S ≡ r ++ S') × Everyone t r × Covers t n S'

covers_front : (t : Tree) (n : ℕ) (xs S : List ℕ) → Covers t n S → Covers t n (xs ++ S)
unfolding Covers
covers_front t zero xs S c = tt
covers_front t (suc n) xs S (r, S', e, every, c) =
    (xs ++ r, S', ap (λ l. xs ++ l) e ∙ sym (append_assoc xs r S'), (λ i h. let o = occurrences_join i xs r in let p = every i h in omega arith), c)

pub covers_less : (t : Tree) (a b : ℕ) (S : List ℕ) → a ≤ b → Covers t b S → Covers t a S
unfolding Covers
covers_less t zero b S h c = tt
covers_less t (suc a) zero S h c = absurd (omega arith)
covers_less t (suc a) (suc b) S h (r, S', e, every, c) = (r, S', e, every, covers_less t a b S' (omega arith) c)

record Split (t : Tree) (a b : ℕ) (S : List ℕ) : Type 0 where
  before : List ℕ
  after : List ℕ
  joined : S ≡ before ++ after
  first_ones : Covers t a before
  last_ones : Covers t b after

covers_split : (t : Tree) (a b : ℕ) (S : List ℕ) → Covers t (a + b) S → Split t a b S
unfolding Covers
covers_split t zero b S c = record { before = []; after = S; joined = refl; first_ones = tt; last_ones = let z : 0 + b ≡ b = omega arith in rw z at c }
covers_split t (suc a) b S c = by (λ S' d. covers_split t a b S' d) (let z : suc a + b ≡ suc (a + b) = omega arith in rw z at c)
  where
    by : ((S' : List ℕ) → Covers t (a + b) S' → Split t a b S') → Covers t (suc (a + b)) S → Split t (suc a) b S
    by rec (r, S', e, every, d) =
        let x = rec S' d in
        record {
          before = r ++ x.before;
          after = x.after;
          joined = e ∙ ap (λ l. r ++ l) x.joined ∙ sym (append_assoc r x.before x.after);
          first_ones = (r, x.before, refl, every, x.first_ones);
          last_ones = x.last_ones;
        }

module _ (t : Tree) (valid : Accepted t) (bits : SixteenBit t) where
  -- P holds somewhere along a schedule
  pub data Reaches (P : Situation t → Type 0) : List ℕ → Situation t → Type 0 where
    now : {S : List ℕ} {c : Situation t} → P c → Reaches P S c
    later : {S : List ℕ} {c : Situation t} (x : ℕ) (h : x < t.threads) → Reaches P S (next t valid bits c x h) → Reaches P (x ∷ S) c

  abbrev pub Within : (rounds : ℕ) → (Situation t → Type 0) → Situation t → Type 0
  Within n P c = (S : List ℕ) → AllThreads t S → Covers t n S → Reaches P S c

  -- ONE CLAIM AFTER ANOTHER, for every kind of claim that carries over to earlier situations
  module _ (P : Situation t → Type 0) (E : List ℕ → Situation t → Type 0) (longer : (S : List ℕ) (c : Situation t) (x : ℕ) (h : x < t.threads) → E S (next t valid bits c x h) → E (x ∷ S) c)
      (b : ℕ) (goes_on : (c : Situation t) → P c → (S : List ℕ) → AllThreads t S → Covers t b S → E S c) where
    continue : (xs S : List ℕ) (c : Situation t) → Reaches P xs c → AllThreads t (xs ++ S) → Covers t b S → E (xs ++ S) c
    unfolding AllThreads
    continue xs S c (now p) all cov = goes_on c p (xs ++ S) all (covers_front t b xs S cov)
    continue (_ ∷ xs) S c (later x h r) all cov = longer (xs ++ S) c x h (continue xs S (next t valid bits c x h) r all.1 cov)

    pub sequence : (a : ℕ) (c : Situation t) → Within a P c → (S : List ℕ) → AllThreads t S → Covers t (a + b) S → E S c
    sequence a c w S all cov =
        let x = covers_split t a b S cov in
        let all' : AllThreads t (x.before ++ x.after) = rw x.joined at all in
        rw x.joined (continue x.before x.after c (w x.before (threads_left t x.before x.after all') x.first_ones) all' x.last_ones)

  pub then : {P Q : Situation t → Type 0} (a b : ℕ) {c : Situation t} → Within a P c → ((c' : Situation t) → P c' → Within b Q c') → Within (a + b) Q c
  then {P} {Q} a b {c} w f = sequence P (Reaches Q) (λ S d x h r. later x h r) b f a c w

  pub longer : {P : Situation t → Type 0} (a b : ℕ) {c : Situation t} → a ≤ b → Within a P c → Within b P c
  longer a b h w S all cov = w S all (covers_less t a b S h cov)

  pub at_once : {P : Situation t → Type 0} (n : ℕ) {c : Situation t} → P c → Within n P c
  at_once n p S all cov = now p

  reaches_map : {P Q : Situation t → Type 0} → ((c : Situation t) → P c → Q c) → {S : List ℕ} {c : Situation t} → Reaches P S c → Reaches Q S c
  reaches_map f {S} {c} (now p) = now (f c p)
  reaches_map f (later x h r) = later x h (reaches_map f r)

  pub within_map : {P Q : Situation t → Type 0} (n : ℕ) {c : Situation t} → ((c' : Situation t) → P c' → Q c') → Within n P c → Within n Q c
  within_map n f w S all cov = reaches_map f (w S all cov)

  -- ONE ROUND: what lasts until a thread's step, and what holds after that step
  module _ (a : ℕ) (ha : a < t.threads) (P Q : Situation t → Type 0)
      (others : (c : Situation t) (x : ℕ) (h : x < t.threads) → x ≢ a → P c → P (next t valid bits c x h) ⊎ Q (next t valid bits c x h))
      (own : (c : Situation t) (h : a < t.threads) → P c → Q (next t valid bits c a h)) where
    own_step : (x : ℕ) (S : List ℕ) (c : Situation t) → x ≡ a → x < t.threads → P c → Reaches Q (x ∷ S) c
    own_step x S c z h p = let h' : a < t.threads = rw z at h in rw z (later a h' (now (own c h' p)))

    other_step :
        (x : ℕ) (S : List ℕ) (c : Situation t) (h : x < t.threads) → x ≢ a → P c → (P (next t valid bits c x h) → Reaches Q S (next t valid bits c x h)) →
        Reaches Q (x ∷ S) c
    other_step x S c h z p go =
        elim (others c x h z p) [
          | inl p' ↦ later x h (go p')
          | inr q ↦ later x h (now q)
        ]

    walk : (S S' : List ℕ) (c : Situation t) → 1 ≤ occurrences a S → AllThreads t (S ++ S') → P c → Reaches Q (S ++ S') c
    unfolding AllThreads
    walk [] S' c o all p = absurd (none_occurs a o)
    walk (x ∷ S) S' c o all p =
        same_or x a _ (λ z. own_step x (S ++ S') c z all.0 p)
        (λ z. other_step x (S ++ S') c all.0 z p
        (λ p'. walk S S' (next t valid bits c x all.0) (rw (occurrences_other a x S z) at o) all.1 p'))

    pub one_round : {c : Situation t} → P c → Within 1 Q c
    unfolding Covers
    one_round {c} p S all (r, S', e, every, cov) =
        let all' : AllThreads t (r ++ S') = rw e at all in
        rw e (walk r S' c (every a ha) all' p)

  -- WHAT LASTS UNTIL THEN, unless something else happens first
  module _ (I Z : Situation t → Type 0) (lasts : (c : Situation t) (x : ℕ) (h : x < t.threads) → I c → I (next t valid bits c x h) ⊎ Z (next t valid bits c x h)) where
    reaches_lasting : {Q : Situation t → Type 0} {S : List ℕ} {c : Situation t} → Reaches Q S c → I c → Reaches (λ d. (Q d × I d) ⊎ Z d) S c
    reaches_lasting (now q) i = now (inl (q, i))
    reaches_lasting {c = c} (later x h r) i =
        elim (lasts c x h i) [
          | inl j ↦ later x h (reaches_lasting r j)
          | inr z ↦ later x h (now (inr z))
        ]

    pub meanwhile : {Q : Situation t → Type 0} (n : ℕ) {c : Situation t} → Within n Q c → I c → Within n (λ d. (Q d × I d) ⊎ Z d) c
    meanwhile n w i S all cov = reaches_lasting (w S all cov) i
