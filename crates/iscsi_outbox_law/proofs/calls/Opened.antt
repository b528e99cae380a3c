-- What the steps begin with.
use Rattle.std.proofs.Common.{◌≡◌, ℕ, zero, suc, inl, ◌+◌, ◌<◌, ◌≤◌, ◌==◌, Bool, true, false, cond, List, [], ◌∷◌, length, map, replicate, refl, ap, ◌∙◌, arith, ne_eqb}
use Rattle.std.proofs.lemmas.Bool.{eqb-true}
use Rattle.std.proofs.lemmas.List.{length-replicate}
use Rattle.iscsi_slots.specs.Slots.{times}
use Rattle.iscsi_lists.specs.Lists.{counted, times_in}
use Rattle.iscsi_lists.proofs.PlaceLemmas.{counted_long}
use Rattle.iscsi_arrivals.proofs.LastLemmas.{last_none}
use Rattle.iscsi_arrivals.specs.Counts.{new_counts}
use Rattle.iscsi_arrivals.specs.Standing.{StandsFor}
use Rattle.iscsi_outbox_rules.specs.rules.Calls.{Opening}
use Rattle.iscsi_outbox_rules.specs.rules.Boxes.{Link}
use Rattle.iscsi_outbox_rules.specs.rules.Handing.{takes_handed}
use Rattle.iscsi_outbox_rules.specs.rules.Run.{new_link, opened}
use Rattle.iscsi_outbox_steps.specs.State.{limits_of, places}
use Rattle.iscsi_outbox_steps.specs.Run.{begun}
use Rattle.iscsi_tracked.specs.Tracked.{Tracked}
use Rattle.iscsi_outbox_law.specs.private.Pairs.{PairsOf, EachOf, InOrder}
use Rattle.iscsi_outbox_law.specs.private.Links.{IsQueue}
use Rattle.iscsi_outbox_law.specs.private.Commands.{out_place}
use Rattle.iscsi_outbox_law.specs.private.Stands.{Stands}
use Rattle.iscsi_outbox_law.proofs.general.PairLemmas.{each-new}

stands_new : (conn : ℕ) → StandsFor new_counts (new_link conn)
stands_new conn = record {
  joined = refl;
  closed = refl;
  cut = refl;
  lost = refl;
  next = refl;
  handed = refl;
  written = refl;
  taken = last_none takes_handed;
  ended = refl;
  pings = refl;
  last_ping = inl refl;
  acknowledged = refl;
  answered = refl;
  ends = λ place lt. absurd (omega arith);
  one_ping = omega arith;
  within = omega arith;
  few_written = omega arith;
  unjoined = λ no. refl;
  first = λ yes. absurd cc;
}

conns_new : (cs : List (ℕ × ℕ)) → map (λ (l : Link). l.conn) (map (λ (c : ℕ × ℕ). new_link c.0) cs) ≡ map (λ (c : ℕ × ℕ). c.0) cs
conns_new [] = refl
conns_new (c ∷ cs) = ap (λ ns. c.0 ∷ ns) (conns_new cs)

counts_new : (cs : List (ℕ × ℕ)) → PairsOf StandsFor (map (λ (cid : ℕ). new_counts) (map (λ (c : ℕ × ℕ). c.0) cs)) (map (λ (c : ℕ × ℕ). new_link c.0) cs)
counts_new [] = tt
counts_new (c ∷ cs) = (stands_new c.0, counts_new cs)

queues_new : (v : Tracked) (cs : List (ℕ × ℕ)) → PairsOf (IsQueue v) (replicate (length (map (λ (c : ℕ × ℕ). c.0) cs)) []) (map (λ (c : ℕ × ℕ). new_link c.0) cs)
queues_new v [] = tt
queues_new v (c ∷ cs) = (tt, queues_new v cs)

none_in : (n place : ℕ) → times_in place (replicate n []) ≡ 0
none_in zero place = refl
none_in (suc n) place = omega (arith, none_in n place)

trails_new : (v : Tracked) (n : ℕ) → EachOf (InOrder (λ (p q : ℕ). out_place v p < out_place v q)) (replicate n [])
trails_new v zero = tt
trails_new v (suc n) = (tt, trails_new v n)

low : (place n k : ℕ) → place < n → times place (counted n k) ≡ 0
low place n zero lt = refl
low place n (suc k) lt =
    let isnt : (n == place) ≡ false = ne_eqb n place (λ same. omega (arith, same, lt)) in
    ap (λ (v : Bool). cond v 1 0 + times place (counted (suc n) k)) isnt ∙ (let z : 0 + times place (counted (suc n) k) ≡ 0 = omega (arith, low place (suc n) k (omega (arith, lt))) in z)

once : (place n k : ℕ) → times place (counted n k) ≤ 1
once place n zero = omega arith
once place n (suc k) =
    let rest = once place (suc n) k in
    elim (n == place) as (λ v. (n == place) ≡ v → cond v 1 0 + times place (counted (suc n) k) ≤ 1) [
      | true ↦ λ is. omega (arith, low place (suc n) k (omega (arith, eqb-true n place is)))
      | false ↦ λ is. omega (arith, rest)
    ] refl

pub stands_opened : (o : Opening) → Stands o (begun o) (opened o)
stands_opened o = record {
  sizes = record {
    limits = refl;
    waits = refl;
    answers = refl;
    commands = refl;
    trails = length-replicate (length (limits_of o).cids) [];
  };
  numbers = record { time = refl; exp = refl; max = refl; shown = refl; reached = refl; sent = refl };
  links = record { conns = conns_new o.session.conns; each = counts_new o.session.conns };
  queues = queues_new (begun o).tracked o.session.conns;
  commands = tt;
  placed = record {
    ascending = tt;
    newest = tt;
    apart = tt;
    counted = omega (arith, counted_long 1 (places (limits_of o)));
    unused = λ place some. refl;
    free_once = λ place. once place 1 (places (limits_of o));
  };
  trails = record {
    trailed = tt;
    of_one = λ place some. absurd (omega (arith, some, none_in (length (limits_of o).cids) place));
    onward = trails_new (begun o).tracked (length (limits_of o).cids);
  };
  left = record { each = λ place. refl; counted = refl };
  answers = tt;
  fence = each-new _ (λ (c : ℕ × ℕ). new_link c.0) o.session.conns (λ c. refl);
}
