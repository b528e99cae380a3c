-- What counts stand for, after something was handed out.
use Rattle.std.proofs.Common.{◌≡◌, ℕ, ◌+◌, ◌<◌, ◌≤◌, ◌⊎◌, ◌&&◌, ◌||◌, inl, inr, ⊎_elim, not, cond, Bool, true, false, List, [], ◌∷◌, ◌++◌, length, count_by, nat_lt, refl, ap, sym, subst, ◌∙◌, arith, append_assoc, true≢false, ltb-false}
use Rattle.std.specs.List.{list_any}
use Rattle.std.proofs.lemmas.List.{length_push}
use Rattle.std.proofs.lemmas.List.Folds.{list_any-append}
use Rattle.iscsi_outbox_rules.specs.rules.Boxes.{Pings, Handed, Link}
use Rattle.iscsi_outbox_rules.specs.rules.Words.{is_open}
use Rattle.iscsi_outbox_rules.specs.rules.Handing.{takes_handed, is_ping, count_pings}
use Rattle.iscsi_arrivals.specs.Counts.{Counts, is_open_by, handed_by, tag_of_ping, pinged_by}
use Rattle.iscsi_arrivals.specs.Stamps.{IsUpToLast, handed_out, stat_sn_at, pings_at}
use Rattle.iscsi_arrivals.specs.Standing.{LastPing, closes_conn, StandsFor}
use Rattle.iscsi_arrivals.proofs.CountLemmas.{push_yes, push_no}
use Rattle.iscsi_arrivals.proofs.LastLemmas.{or_false, same_stat_sn, same_pings, last_passes, last_fails}
use Rattle.iscsi_arrivals.proofs.PingLemmas.{is_ping_by}

pub open_is : (s : Counts) (l : Link) → StandsFor s l → is_open_by s ≡ is_open l
open_is s l st = ap (λ (v : Bool). v && not s.lost) st.joined ∙ ap (λ (v : Bool). l.joined && not v) st.lost

-- ---- handed out

module _ (s : Counts) (l : Link) (st : StandsFor s l) (h : Handed) where
  -- what is known to have arrived stays
  kept_stat_sn : (place : ℕ) → place ≤ l.arrived → stat_sn_at (handed_out h l) place ≡ stat_sn_at l place
  kept_stat_sn place le = same_stat_sn l h place (omega (arith, le, st.within))

  kept_pings : (place : ℕ) → place ≤ l.arrived → pings_at (handed_out h l) place ≡ pings_at l place
  kept_pings place le = same_pings l h place (omega (arith, le, st.within))

  kept_ends : (place : ℕ) → place < l.arrived
      → (stat_sn_at (handed_out h l) place < stat_sn_at (handed_out h l) l.arrived) ⊎ (pings_at (handed_out h l) place < pings_at (handed_out h l) l.arrived)
  kept_ends place lt =
      let a = kept_stat_sn place (omega (arith, lt)) in
      let b = kept_stat_sn l.arrived (omega arith) in
      let c = kept_pings place (omega (arith, lt)) in
      let d = kept_pings l.arrived (omega arith) in
      ⊎_elim (λ less. inl (omega (arith, less, a, b))) (λ less. inr (omega (arith, less, c, d))) (st.ends place lt)

  longer : length (l.handed ++ h ∷ []) ≡ length l.handed + 1
  longer = length_push l.handed h

  later : LastPing l.handed l.first s.asked → is_ping h ≡ false → LastPing (l.handed ++ h ∷ []) l.first s.asked
  later p isnt = record {
    before = p.before;
    ping = p.ping;
    after = p.after ++ h ∷ [];
    whole = sym (append_assoc p.before (p.ping ∷ p.after) (h ∷ [])) ∙ ap (λ (hs : List Handed). hs ++ h ∷ []) p.whole;
    tag = p.tag;
    takes = p.takes;
    last = push_no is_ping p.after h isnt ∙ p.last;
    shown = p.shown;
  }

  next_now : (takes : Bool) → h.out.takes ≡ takes → cond takes (s.next + 1) s.next ≡ l.first + count_by takes_handed (l.handed ++ h ∷ [])
  next_now true is = omega (arith, st.next, push_yes takes_handed l.handed h is)
  next_now false is = omega (arith, st.next, push_no takes_handed l.handed h is)

  taken_now : (takes : Bool) → h.out.takes ≡ takes → IsUpToLast takes_handed (l.handed ++ h ∷ []) (cond takes (s.handed + 1) s.taken)
  taken_now true is = subst (λ n. IsUpToLast takes_handed (l.handed ++ h ∷ []) (n + 1)) (sym st.handed) (last_passes takes_handed l.handed h is)
  taken_now false is = last_fails takes_handed l.handed h s.taken is st.taken

  ended_now : (ends : Bool) → closes_conn l.conn h ≡ ends → (s.ended || ends) ≡ list_any (closes_conn l.conn) (l.handed ++ h ∷ [])
  ended_now ends is =
      ap (λ (v : Bool). v || ends) st.ended ∙ ap (λ (v : Bool). list_any (closes_conn l.conn) l.handed || v) (sym is ∙ sym (or_false (closes_conn l.conn h)))
      ∙ sym (list_any-append (closes_conn l.conn) l.handed (h ∷ []))

  pub stands_handed : (takes ends : Bool) → l.joined ≡ true → h.out.takes ≡ takes → closes_conn l.conn h ≡ ends → is_ping h ≡ false
      → StandsFor (handed_by takes ends s) (handed_out h l)
  stands_handed takes ends joined is closes isnt = record {
    joined = st.joined;
    closed = st.closed;
    cut = st.cut;
    lost = st.lost;
    next = next_now takes is;
    handed = omega (arith, st.handed, longer);
    written = st.written;
    taken = taken_now takes is;
    ended = ended_now ends closes;
    pings = st.pings ∙ sym (push_no is_ping l.handed h isnt);
    last_ping = ⊎_elim (λ no. inl no) (λ (p : LastPing l.handed l.first s.asked). inr (later p isnt)) st.last_ping;
    acknowledged = st.acknowledged ∙ sym (kept_stat_sn l.arrived (omega arith));
    answered = st.answered ∙ sym (kept_pings l.arrived (omega arith));
    ends = kept_ends;
    one_ping = st.one_ping;
    within = omega (arith, st.within, longer);
    few_written = omega (arith, st.few_written, longer);
    unjoined = λ no. absurd (true≢false (sym joined ∙ no));
    first = st.first;
  }

  pub stands_pinged : l.joined ≡ true → nat_lt s.answered s.pings ≡ false → h.out.pdu ≡ Pings (tag_of_ping (count_pings l)) → h.out.takes ≡ false → closes_conn l.conn h ≡ false
      → StandsFor (pinged_by s) (handed_out h l)
  stands_pinged joined none is takes closes = record {
    joined = st.joined;
    closed = st.closed;
    cut = st.cut;
    lost = st.lost;
    next = next_now false takes;
    handed = omega (arith, st.handed, longer);
    written = st.written;
    taken = taken_now false takes;
    ended = sym (or_false s.ended) ∙ ended_now false closes;
    pings = omega (arith, st.pings, push_yes is_ping l.handed h (is_ping_by h (tag_of_ping (count_pings l)) is));
    last_ping = inr (record { before = l.handed; ping = h; after = []; whole = refl; tag = is; takes = takes; last = refl; shown = st.next });
    acknowledged = st.acknowledged ∙ sym (kept_stat_sn l.arrived (omega arith));
    answered = st.answered ∙ sym (kept_pings l.arrived (omega arith));
    ends = kept_ends;
    one_ping = omega (arith, ltb-false s.answered s.pings none);
    within = omega (arith, st.within, longer);
    few_written = omega (arith, st.few_written, longer);
    unjoined = λ no. absurd (true≢false (sym joined ∙ no));
    first = st.first;
  }
