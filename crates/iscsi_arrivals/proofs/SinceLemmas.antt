-- What the answers by counts mean for a connection.
use Rattle.std.proofs.Common.{◌≡◌, ℕ, ◌+◌, ◌-◌, ◌&&◌, ◌||◌, ⊎_elim, not, cond, Bool, true, false, List, [], length, take, take_all, count_by, nat_lt, nat_le, refl, ap, sym, ◌∙◌, arith, lt-ltb, le-ltb}
use Rattle.std.specs.List.{list_all, list_any}
use Rattle.std.proofs.lemmas.Bool.{cases_lt, or_left, or_right, or_from}
use Rattle.std.proofs.lemmas.List.{length-drop}
use Rattle.iscsi_outbox_rules.specs.rules.Calls.{Opening}
use Rattle.iscsi_outbox_rules.specs.rules.Boxes.{Handed, Link}
use Rattle.iscsi_outbox_rules.specs.rules.Words.{is_open, is_usable, looks_for_arrival, unwritten, unarrived, under_way}
use Rattle.iscsi_outbox_rules.specs.rules.Queues.{takes_more}
use Rattle.iscsi_outbox_rules.specs.rules.Handing.{takes_handed, is_ping, is_behind_logout}
use Rattle.iscsi_arrivals.specs.declared.stamp.Stamp.{Stamp}
use Rattle.iscsi_arrivals.specs.Counts.{Counts, is_usable_by, takes_more_by, is_behind_logout_by, stamp_by, has_arrived_by, is_written_by, is_busy_by, is_under_way_by}
use Rattle.iscsi_arrivals.specs.Stamps.{stat_sn_at, pings_at, stamp_at}
use Rattle.iscsi_arrivals.specs.Standing.{StandsFor}
use Rattle.iscsi_arrivals.proofs.CountLemmas.{any-count, count_rest, lt_rest, le_rest, no_one}
use Rattle.iscsi_arrivals.proofs.StandingLemmas.{open_is}
use Rattle.iscsi_arrivals.proofs.HeardLemmas.{stat_sn_mono, pings_mono}

abbrev stamped : ℕ → ℕ → ℕ → Stamp
stamped stat_sn pings place = record { stat_sn = stat_sn; pings = pings; place = place }

module _ (s : Counts) (l : Link) (st : StandsFor s l) where
  pub usable_is : is_usable_by s ≡ is_usable l
  usable_is = ap (λ (v : Bool). v && not s.closed) (open_is s l st) ∙ ap (λ (v : Bool). is_open l && not v) st.closed

  pub takes_more_is : takes_more_by s ≡ takes_more l
  takes_more_is = ap (λ (v : Bool). v && not s.cut) (open_is s l st) ∙ ap (λ (v : Bool). is_open l && not v) st.cut

  pub behind_logout_is : is_behind_logout_by s ≡ is_behind_logout l
  behind_logout_is = ap (λ (v : Bool). v || s.ended) st.cut ∙ ap (λ (v : Bool). l.cut || v) st.ended

  -- the stamp of the next PDU
  pub stamp_is : stamp_by s ≡ stamp_at l (length l.handed)
  stamp_is =
      let all : take (length l.handed) l.handed ≡ l.handed = take_all (length l.handed) l.handed (omega arith) in
      let stat_sn : s.next ≡ stat_sn_at l (length l.handed) = st.next ∙ sym (ap (λ (hs : List Handed). l.first + count_by takes_handed hs) all) in
      let pings : s.pings ≡ pings_at l (length l.handed) = st.pings ∙ sym (ap (count_by is_ping) all) in
      ap (λ n. stamped n s.pings s.handed) stat_sn ∙ ap (λ n. stamped (stat_sn_at l (length l.handed)) n s.handed) pings
      ∙ ap (stamped (stat_sn_at l (length l.handed)) (pings_at l (length l.handed))) st.handed

  -- what is known to have arrived has a lesser stamp, in one of the two numbers
  pub arrived_is : (place : ℕ) → has_arrived_by (stamp_at l place) s ≡ nat_lt place l.arrived
  arrived_is place =
      ⊎_elim
      (λ lt. ⊎_elim
      (λ less. or_left (nat_lt (stat_sn_at l place) s.acknowledged) (nat_lt (pings_at l place) s.answered) (lt-ltb (stat_sn_at l place) s.acknowledged (omega (arith, less, st.acknowledged))))
      (λ less. or_right (nat_lt (stat_sn_at l place) s.acknowledged) (nat_lt (pings_at l place) s.answered) (lt-ltb (pings_at l place) s.answered (omega (arith, less, st.answered))))
      (st.ends place lt)
      ∙ sym (lt-ltb place l.arrived lt))
      (λ ge.
      let up = stat_sn_mono l l.arrived place ge in
      let more = pings_mono l l.arrived place ge in
      or_from (nat_lt (stat_sn_at l place) s.acknowledged) (nat_lt (pings_at l place) s.answered)
      (le-ltb (stat_sn_at l place) s.acknowledged (omega (arith, up, st.acknowledged))) (le-ltb (pings_at l place) s.answered (omega (arith, more, st.answered)))
      ∙ sym (le-ltb place l.arrived ge))
      (cases_lt place l.arrived)

  pub written_is : (place : ℕ) → is_written_by (stamp_at l place) s ≡ nat_lt place l.written
  written_is place = ap (nat_lt place) st.written

  pub under_way_is : (looks : Bool) (place : ℕ) → is_under_way_by looks (stamp_at l place) s ≡ (is_open l && not (nat_lt place (cond looks l.arrived l.written)))
  under_way_is looks place = ap (λ (v : Bool). v && not (cond looks (has_arrived_by (stamp_at l place) s) (is_written_by (stamp_at l place) s))) (open_is s l st) ∙ by_looks looks
    where
      by_looks : (v : Bool) → (is_open l && not (cond v (has_arrived_by (stamp_at l place) s) (is_written_by (stamp_at l place) s))) ≡ (is_open l && not (nat_lt place (cond v l.arrived l.written)))
      by_looks true = ap (λ (v : Bool). is_open l && not v) (arrived_is place)
      by_looks false = ap (λ (v : Bool). is_open l && not v) (written_is place)

  -- ---- whether there is one

  pub unarrived_is : nat_lt s.acknowledged s.next ≡ list_any takes_handed (unarrived l)
  unarrived_is =
      let rest : count_by takes_handed (take l.arrived l.handed) + count_by takes_handed (unarrived l) ≡ count_by takes_handed l.handed = count_rest takes_handed l.handed l.arrived in
      sym (any-count takes_handed (unarrived l) ∙ lt_rest s.acknowledged (count_by takes_handed (unarrived l)) s.next (omega (arith, rest, st.acknowledged, st.next)))

  pub asking_is : nat_lt s.answered s.pings ≡ list_any is_ping (unarrived l)
  asking_is =
      let rest : count_by is_ping (take l.arrived l.handed) + count_by is_ping (unarrived l) ≡ count_by is_ping l.handed = count_rest is_ping l.handed l.arrived in
      sym (any-count is_ping (unarrived l) ∙ lt_rest s.answered (count_by is_ping (unarrived l)) s.pings (omega (arith, rest, st.answered, st.pings)))

  unwritten_is : nat_lt s.written s.taken ≡ list_any takes_handed (unwritten l)
  unwritten_is = ap (λ n. nat_lt n s.taken) st.written ∙ sym (st.taken l.written)

  pub busy_is : (o : Opening) → is_busy_by (looks_for_arrival o) s ≡ list_any takes_handed (under_way o l)
  busy_is o =
      ap (λ (v : Bool). v && cond (looks_for_arrival o) (nat_lt s.acknowledged s.next) (nat_lt s.written s.taken)) (open_is s l st)
      ∙ by_open (is_open l) (looks_for_arrival o)
    where
      by_open : (v w : Bool) → (v && cond w (nat_lt s.acknowledged s.next) (nat_lt s.written s.taken)) ≡ list_any takes_handed (cond v (cond w (unarrived l) (unwritten l)) [])
      by_open true true = unarrived_is
      by_open true false = unwritten_is
      by_open false w = refl

  pub all_written_is : nat_le s.handed s.written ≡ list_all (λ (h : Handed). false) (unwritten l)
  all_written_is =
      let rest : length (unwritten l) ≡ s.handed - s.written = length-drop l.written l.handed ∙ sym (ap (λ n. n - s.written) st.handed ∙ ap (λ n. length l.handed - n) st.written) in
      sym (no_one (unwritten l) ∙ le_rest (length (unwritten l)) s.handed s.written rest)
