-- The counters of a domain. proofs/ shows that their test is the model's.
use Rattle.std.specs.Prelude.{Bool, ◌&&◌, not, cond, ℕ, eqb, ltb, leb}
use Rattle.model.specs.Counters.{most_counted}

-- three counters are 0
abbrev pub zeros_in : (entries tenures longest : ℕ) → Bool
zeros_in e n l = eqb e 0 && (eqb n 0 && eqb l 0)

-- the three counters of a domain fit; the number of domains and the domain's threshold are given
abbrev pub count_in : (domains domain threshold entries tenures longest : ℕ) → Bool
count_in m d h e n l =
    cond (not (eqb d 0) && ltb d m) (leb e most_counted && (leb n most_counted && leb l h)) (zeros_in e n l)
