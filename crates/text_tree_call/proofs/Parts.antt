-- What the functions inside the reader promise, one lemma for each case of their code.
use mathlib.Core.Path.{◌≡◌, sym, ◌∙◌, ap}
use mathlib.Core.List.{List, [], ◌∷◌}
use mathlib.Core.Logic.{◌≢◌}
use Prim.Native.Nat.{ℕ, ◌+◌, ◌-◌, ◌≤◌}
use native.Mathlib.Omega.{arith}
use lib.Dec.{lit<}
use lib.ListN.{length, get_or}
use Rattle.std.specs.Prelude.{Result, Ok, Err}
use Rattle.model.specs.declared.TreeWords.{TreeWords}
use Rattle.text_tree_call.specs.declared.Stuck.{Stuck}
use Rattle.text_tree.specs.Words.{root_words, new_number, domain_added, threads_added}
use Rattle.text_tree.specs.Reading.{domain_due, leaves, text_read}
use Rattle.text_tree_call.specs.Inner.{from, Passed, FirstDigit, counted, measured, CountStopped, ThresholdStopped, CountRead, ThresholdRead, resumed, Within, LeafRead, inside, Begun, DomainRead, ListRead, RootRead}
use Rattle.text_tree_call.proofs.Moving.{byte_in_text, start_opens, start_stuck, opened_count, opened_too_deep, opened_list, count_missing, count_closes, count_stuck, threshold_missing, threshold_opens, threshold_stuck, closed_space, closed_again, closed_stuck, text_over, text_goes_on}

later : (bs : List ℕ) (at from : ℕ) (r : Result ℕ Stuck) → at ≤ from → Within bs from r → Within bs at r
later bs at from (Ok end) l h = (omega (arith, h.0), h.1)
later bs at from (Err p) l h = tt

-- NUMBERS: without a first digit
pub count_none : (bs : List ℕ) (at : ℕ) (p : Stuck) → FirstDigit bs at (Err p) → CountRead bs at (Err p)
count_none bs at p h = record { same = λ d ds w. count_missing bs at d ds w h.0 ∙ ap leaves (sym h.1); stopped = tt }

pub threshold_none : (bs : List ℕ) (at : ℕ) (p : Stuck) → FirstDigit bs at (Err p) → ThresholdRead bs at (Err p)
threshold_none bs at p h = record { same = λ d ds w. threshold_missing bs at d ds w h.0 ∙ ap leaves (sym h.1); stopped = tt }

-- A LEAF
module _ (bs : List ℕ) (at : ℕ) (w : TreeWords) (d : ℕ) (r : Result (ℕ × ℕ) Stuck) (read : CountRead bs at r) where
  module _ (n : ℕ × ℕ) (e : r ≡ Ok n) where
    pub leaf_wrong : (p : Stuck) (v : TreeWords) → Passed bs n.0 41 (Err p) → LeafRead bs at w d (Err p) v
    leaf_wrong p v k =
        let stop : CountStopped bs at (Ok n) = rw e at read.stopped in
        record { same = λ ds. read.same d ds w ∙ ap (counted bs d ds w) e ∙ count_stuck bs n.0 d ds w n.1 stop.1 k.0 ∙ ap leaves (sym k.1); within = tt }

    pub leaf_closed : (end : ℕ) → Passed bs n.0 41 (Ok end) → LeafRead bs at w d (Ok end) (threads_added w d n.1)
    leaf_closed end k =
        let stop : CountStopped bs at (Ok n) = rw e at read.stopped in
        let there = byte_in_text bs n.0 41 (lit< tt) k.0 in
        record {
          same = λ ds. read.same d ds w ∙ ap (counted bs d ds w) e ∙ count_closes bs n.0 d ds w n.1 k.0 ∙ ap (λ x. resumed bs ds (threads_added w d n.1) (Ok x)) (sym k.1);
          within = (omega (arith, stop.0, k.1), omega (arith, k.1));
        }

-- THE BEGINNING OF A DOMAIN
module _ (bs : List ℕ) (at : ℕ) (w : TreeWords) (d : ℕ) (r : Result (ℕ × ℕ) Stuck) (read : ThresholdRead bs at r) where
  module _ (h : ℕ × ℕ) (e : r ≡ Ok h) where
    pub begin_wrong : (p : Stuck) (v : TreeWords) → Passed bs h.0 40 (Err p) → Begun bs at w d (Err p) v
    begin_wrong p v k =
        let stop : ThresholdStopped bs at (Ok h) = rw e at read.stopped in
        record { same = λ ds. read.same d ds w ∙ ap (measured bs d ds w) e ∙ threshold_stuck bs h.0 d ds w h.1 stop.1 k.0 ∙ ap leaves (sym k.1); within = tt }

    pub begin_opens : (end : ℕ) → Passed bs h.0 40 (Ok end) → Begun bs at w d (Ok end) (domain_added w d h.1)
    begin_opens end k =
        let stop : ThresholdStopped bs at (Ok h) = rw e at read.stopped in
        let there = byte_in_text bs h.0 40 (lit< tt) k.0 in
        record {
          same = λ ds. read.same d ds w ∙ ap (measured bs d ds w) e ∙ threshold_opens bs h.0 d ds w h.1 k.0 ∙ ap (λ x. inside bs (new_number w.domains) d ds (domain_added w d h.1) (Ok x)) (sym k.1);
          within = (omega (arith, stop.0, k.1), omega (arith, k.1));
        }

-- A DOMAIN
module _ (bs : List ℕ) (at : ℕ) (w : TreeWords) (d left : ℕ) where
  pub domain_leaf :
      (r : Result ℕ Stuck) (v : TreeWords) → get_or bs at 0 ≡ 35 → LeafRead bs (at + 1) w d r v → DomainRead bs at w d left r v
  domain_leaf r v k read =
      record {
        same = λ ds l. opened_count bs at d ds w k ∙ read.same ds;
        within = later bs at (at + 1) r (omega arith) read.within;
      }

  pub domain_too_deep : (v : TreeWords) → get_or bs at 0 ≢ 35 → left ≡ 0 → DomainRead bs at w d left (Err (record { 0 = at })) v
  domain_too_deep v k z = record { same = λ ds l. opened_too_deep bs at d ds w k (omega arith); within = tt }

  pub domain_list :
      (r : Result ℕ Stuck) (v : TreeWords) → get_or bs at 0 ≢ 35 → left ≢ 0 → ListRead bs at w d (left - 1) r v → DomainRead bs at w d left r v
  domain_list r v k z read =
      record {
        same = λ ds l. opened_list bs at d ds w k (omega (arith, z)) ∙ read.same ds (omega (arith, z));
        within = read.within;
      }

-- A LIST: if another domain must follow, reading on from here gives the same as reading from the list's first domain
pub record DueAgain (bs : List ℕ) (start : ℕ) (before : TreeWords) (d left at : ℕ) (w : TreeWords) : Type 0 where
  pub same :
      (ds : List ℕ) → length ds + left ≡ 4 → from bs start (domain_due d ds start before) ≡ from bs at (domain_due d ds at w)
  pub started : start ≤ at

module _ (bs : List ℕ) (start : ℕ) (before : TreeWords) (d left at : ℕ) (w : TreeWords) (here : DueAgain bs start before d left at w) (b : Result ℕ Stuck) (o : TreeWords) (begun : Begun bs at w d b o) where
  pub list_stuck : (p : Stuck) (v : TreeWords) → b ≡ Err p → ListRead bs start before d left (Err p) v
  list_stuck p v e =
      record { same = λ ds l. here.same ds l ∙ begun.same ds ∙ ap (inside bs (new_number w.domains) d ds o) e; within = tt }

  module _ (open_at : ℕ) (e : b ≡ Ok open_at) (r : Result ℕ Stuck) (v : TreeWords) (read : DomainRead bs open_at o (new_number w.domains) left r v) where
    -- from the list's start to after the domain
    list_same : (ds : List ℕ) → length ds + left ≡ 4 → from bs start (domain_due d ds start before) ≡ resumed bs (d ∷ ds) v r
    list_same ds l = here.same ds l ∙ begun.same ds ∙ ap (inside bs (new_number w.domains) d ds o) e ∙ read.same (d ∷ ds) (omega arith)

    list_within : Within bs at r
    list_within = let k : Within bs at (Ok open_at) = rw e at begun.within in later bs at open_at r k.0 read.within

    pub list_stuck_in : (p : Stuck) → r ≡ Err p → ListRead bs start before d left (Err p) v
    list_stuck_in p g = record { same = λ ds l. list_same ds l ∙ ap (resumed bs (d ∷ ds) v) g; within = tt }

    module _ (end : ℕ) (g : r ≡ Ok end) where
      list_ended : (at ≤ end) × (end ≤ length bs)
      list_ended = let k : Within bs at (Ok end) = rw g at list_within in k

      pub list_due : get_or bs end 0 ≡ 32 → DueAgain bs start before d left (end + 1) v
      list_due k =
          record {
            same = λ ds l. list_same ds l ∙ ap (resumed bs (d ∷ ds) v) g ∙ closed_space bs end d ds v k;
            started = omega (arith, list_ended.0, here.started);
          }

      pub list_moves : get_or bs end 0 ≡ 32 → (at ≤ end) × (end + 1 ≤ length bs)
      list_moves k = (list_ended.0, omega (arith, byte_in_text bs end 32 (lit< tt) k))

      pub list_closed : get_or bs end 0 ≡ 41 → ListRead bs start before d left (Ok (end + 1)) v
      list_closed k =
          record {
            same = λ ds l. list_same ds l ∙ ap (resumed bs (d ∷ ds) v) g ∙ closed_again bs end d ds v k;
            within = (omega (arith, list_ended.0, here.started), omega (arith, byte_in_text bs end 41 (lit< tt) k));
          }

      pub list_wrong : get_or bs end 0 ≢ 32 → get_or bs end 0 ≢ 41 → ListRead bs start before d left (Err (record { 0 = end })) v
      list_wrong k l =
          record { same = λ ds z. list_same ds z ∙ ap (resumed bs (d ∷ ds) v) g ∙ closed_stuck bs end d ds v k l; within = tt }

pub numbered :
    {bs : List ℕ} {at : ℕ} {w v : TreeWords} {n m left : ℕ} {r : Result ℕ Stuck} → n ≡ m → DomainRead bs at w n left r v → DomainRead bs at w m left r v
numbered e read = rw e at read

-- THE WHOLE TEXT
pub root_stuck : (bs : List ℕ) (p : Stuck) → Passed bs 0 40 (Err p) → RootRead bs (Err p)
root_stuck bs p k = start_stuck bs k.0 ∙ ap leaves (sym k.1)

module _ (bs : List ℕ) (open_at : ℕ) (k : Passed bs 0 40 (Ok open_at)) (r : Result ℕ Stuck) (v : TreeWords) (read : DomainRead bs open_at root_words 0 5 r v) where
  root_same : text_read bs ≡ resumed bs [] v r
  root_same =
      let here : DomainRead bs 1 root_words 0 5 r v = rw k.1 at read in
      start_opens bs k.0 ∙ here.same [] (omega arith)

  pub root_wrong : (p : Stuck) → r ≡ Err p → RootRead bs (Err p)
  root_wrong p g = root_same ∙ ap (resumed bs [] v) g

  module _ (end : ℕ) (g : r ≡ Ok end) where
    pub root_whole : end ≡ length bs → RootRead bs (Ok v)
    root_whole z = root_same ∙ ap (resumed bs [] v) g ∙ text_over bs end v z

    pub root_more : end ≢ length bs → RootRead bs (Err (record { 0 = end }))
    root_more z =
        let k : Within bs open_at (Ok end) = rw g at read.within in
        root_same ∙ ap (resumed bs [] v) g ∙ text_goes_on bs end v (omega (arith, k.1, z))
