-- What counts stand for, after a connection joined, is closed, cut or lost, or after something was written.
use Rattle.std.proofs.Common.{◌≡◌, ℕ, ◌+◌, inl, nat_lt, cond, Bool, true, false, List, [], length, take, count_by, refl, ap, sym, subst, ◌∙◌, arith, ltb-true}
use Rattle.std.proofs.lemmas.Bool.{true≢false}
use Rattle.iscsi_wire.specs.Serial.{number_of_first}
use Rattle.iscsi_arrivals.specs.Counts.{Counts, written_by}
use Rattle.iscsi_arrivals.specs.Standing.{StandsFor}
use Rattle.iscsi_outbox_rules.specs.rules.Boxes.{Outgoing, Link}
use Rattle.iscsi_outbox_rules.specs.rules.Handing.{takes_handed, is_ping}
use Rattle.iscsi_outbox_rules.specs.rules.Run.{link_joined, link_lost, one_written}

module _ (s : Counts) (l : Link) (st : StandsFor s l) where
  pub stands_closed : StandsFor (record s { closed = true }) (record l { closed = true })
  stands_closed = record {
    joined = st.joined;
    closed = refl;
    cut = st.cut;
    lost = st.lost;
    next = st.next;
    handed = st.handed;
    written = st.written;
    taken = st.taken;
    ended = st.ended;
    pings = st.pings;
    last_ping = st.last_ping;
    acknowledged = st.acknowledged;
    answered = st.answered;
    ends = st.ends;
    one_ping = st.one_ping;
    within = st.within;
    few_written = st.few_written;
    unjoined = st.unjoined;
    first = st.first;
  }

  pub stands_cut : StandsFor (record s { closed = true; cut = true }) (record l { closed = true; cut = true })
  stands_cut = record {
    joined = st.joined;
    closed = refl;
    cut = refl;
    lost = st.lost;
    next = st.next;
    handed = st.handed;
    written = st.written;
    taken = st.taken;
    ended = st.ended;
    pings = st.pings;
    last_ping = st.last_ping;
    acknowledged = st.acknowledged;
    answered = st.answered;
    ends = st.ends;
    one_ping = st.one_ping;
    within = st.within;
    few_written = st.few_written;
    unjoined = st.unjoined;
    first = st.first;
  }

  pub stands_lost : StandsFor (record s { lost = true }) (link_lost l)
  stands_lost = record {
    joined = st.joined;
    closed = st.closed;
    cut = st.cut;
    lost = refl;
    next = st.next;
    handed = st.handed;
    written = st.written;
    taken = st.taken;
    ended = st.ended;
    pings = st.pings;
    last_ping = st.last_ping;
    acknowledged = st.acknowledged;
    answered = st.answered;
    ends = st.ends;
    one_ping = st.one_ping;
    within = st.within;
    few_written = st.few_written;
    unjoined = st.unjoined;
    first = st.first;
  }

  -- what waits doesn't count
  pub stands_queue : (queue : List Outgoing) → StandsFor s (record l { queue = queue })
  stands_queue queue = record {
    joined = st.joined;
    closed = st.closed;
    cut = st.cut;
    lost = st.lost;
    next = st.next;
    handed = st.handed;
    written = st.written;
    taken = st.taken;
    ended = st.ended;
    pings = st.pings;
    last_ping = st.last_ping;
    acknowledged = st.acknowledged;
    answered = st.answered;
    ends = st.ends;
    one_ping = st.one_ping;
    within = st.within;
    few_written = st.few_written;
    unjoined = st.unjoined;
    first = st.first;
  }

  pub stands_written : StandsFor (written_by s) (one_written l)
  stands_written =
      let same : nat_lt s.written s.handed ≡ nat_lt l.written (length l.handed) = ap (nat_lt s.written) st.handed ∙ ap (λ n. nat_lt n (length l.handed)) st.written in
      subst (λ (v : Bool). StandsFor (cond v (record s { written = s.written + 1 }) s) (one_written l)) (sym same) (by_test (nat_lt l.written (length l.handed)) refl)
    where
      by_test : (v : Bool) → nat_lt l.written (length l.handed) ≡ v → StandsFor (cond v (record s { written = s.written + 1 }) s) (cond v (record l { written = l.written + 1 }) l)
      by_test false is = st
      by_test true is = record {
        joined = st.joined;
        closed = st.closed;
        cut = st.cut;
        lost = st.lost;
        next = st.next;
        handed = st.handed;
        written = ap (λ n. n + 1) st.written;
        taken = st.taken;
        ended = st.ended;
        pings = st.pings;
        last_ping = st.last_ping;
        acknowledged = st.acknowledged;
        answered = st.answered;
        ends = st.ends;
        one_ping = st.one_ping;
        within = st.within;
        few_written = omega (arith, ltb-true l.written (length l.handed) is);
        unjoined = st.unjoined;
        first = st.first;
      }

  pub stands_joined : (n : ℕ) → l.joined ≡ false → StandsFor (record s { joined = true; next = number_of_first n; acknowledged = number_of_first n }) (link_joined n l)
  stands_joined n isnt =
      let empty : l.handed ≡ [] = st.unjoined isnt in
      let zero_arrived : l.arrived ≡ 0 = omega (arith, st.within, ap length empty) in
      record {
        joined = refl;
        closed = st.closed;
        cut = st.cut;
        lost = st.lost;
        next = omega (arith, ap (count_by takes_handed) empty);
        handed = st.handed;
        written = st.written;
        taken = st.taken;
        ended = st.ended;
        pings = st.pings;
        last_ping = inl (st.pings ∙ ap (count_by is_ping) empty);
        acknowledged = omega (arith, ap (λ n. count_by takes_handed (take n l.handed)) zero_arrived);
        answered = st.answered;
        ends = λ place lt. absurd (omega (arith, lt, zero_arrived));
        one_ping = st.one_ping;
        within = st.within;
        few_written = st.few_written;
        unjoined = λ never. absurd (true≢false never);
        first = λ yes. omega arith;
      }
