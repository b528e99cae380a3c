-- What the calls show of a connection, and what the box has of it.
use Rattle.std.proofs.Common.{◌≡◌, ℕ, ⊎_elim, ◌==◌, ◌+◌, ◌&&◌, ◌||◌, not, cond, Bool, true, false, List, [], ◌∷◌, ◌++◌, map, count_by, Some, refl, ap, sym, subst, ◌∙◌, eq-eqb, arith}
use Rattle.std.proofs.lemmas.Bool.{false≢true}
use Rattle.std.proofs.lemmas.List.{append-nil, map-append}
use Rattle.std.proofs.lemmas.List.Sums.{sum_by-cons}
use Rattle.iscsi_wire.specs.Serial.{wire, number_of_first}
use Rattle.iscsi_rules.specs.declared.effect.Effect.{Effect}
use Rattle.iscsi_rules.proofs.general.BoolLemmas.{and_parts, or_false, or_second}
use Rattle.iscsi_outbox_rules.specs.rules.Calls.{Opening, Call, Nexts, Joins, Loses}
use Rattle.iscsi_outbox_rules.specs.rules.Boxes.{Outgoing, Handed, Link, Box}
use Rattle.iscsi_outbox_rules.specs.rules.Queues.{without}
use Rattle.iscsi_outbox_rules.specs.rules.Handing.{is_from_queue, takes_handed, handed_as}
use Rattle.iscsi_outbox_rules.specs.rules.Run.{Answered, Silent, Joined, link_joined, link_lost, new_link, opened}
use Rattle.iscsi_outbox_rules.specs.promises.Deeds.{Deed, handed_in_deed, handed_on, is_join_of, is_lose_of, has_joined, was_lost}
use Rattle.iscsi_outbox_rules.specs.promises.Numbers.{takes_stat_sn, in_sequence, joined_with}
use Rattle.iscsi_outbox_rules.proofs.general.EachLemmas.{each-drop_one, EachOf, each-append, each-filter}
use Rattle.iscsi_outbox_rules.proofs.general.Linkwise.{Linkwise, Stands}
use Rattle.iscsi_outbox_rules.proofs.general.DeedLemmas.{has_joined-more, was_lost-more, handed_on-append, some_on, joined_with-same, joined_with-now, unjoined_with}
use Rattle.iscsi_outbox_rules.proofs.general.Chosen.{FromQueue, IsPing, IsNotice, Chosen}
use Rattle.iscsi_outbox_rules.proofs.general.Callwise.{Callwise}

-- an entry of a queue takes a StatSN where its PDU does
pub record Fit (out : Outgoing) : Type 0 where
  pub takes : out.takes ≡ takes_stat_sn out.pdu
  pub queued : is_from_queue out ≡ true

abbrev pub FitHanded : Handed → Type 0
FitHanded h = h.out.takes ≡ takes_stat_sn h.out.pdu

pub record LinkShows (ds : List Deed) (l : Link) : Type 0 where
  pub joined : l.joined ≡ has_joined ds l.conn
  pub lost : l.lost ≡ was_lost ds l.conn
  pub handed : l.handed ≡ handed_on l.conn ds
  pub empty : l.joined ≡ false → l.handed ≡ []
  pub first : (s : ℕ) → joined_with l.conn ds ≡ Some s → l.first ≡ number_of_first s
  pub fit : EachOf Fit l.queue
  pub fit_handed : EachOf FitHanded l.handed
  pub sns : (s : ℕ) → joined_with l.conn ds ≡ Some s → map (λ (h : Handed). h.stat_sn) l.handed ≡ in_sequence s l.handed

abbrev pub Shows : List Deed → List (List Effect) → Link → Type 0
Shows ds items l = LinkShows ds l

abbrev pub FitEntry : List (List Effect) → ℕ → Outgoing → Type 0
FitEntry items conn out = Fit out

-- only its queue, and whether it is closed, are others
same_but_queue : (ds : List Deed) (l : Link) (queue : List Outgoing) (closed cut : Bool) (written arrived : ℕ) → LinkShows ds l → EachOf Fit queue
    → LinkShows ds (record l { queue = queue; closed = closed; cut = cut; written = written; arrived = arrived })
same_but_queue ds l queue closed cut written arrived h fit = record {
  joined = h.joined;
  lost = h.lost;
  handed = h.handed;
  empty = h.empty;
  first = h.first;
  fit = fit;
  fit_handed = h.fit_handed;
  sns = h.sns;
}

wise : (o : Opening) (ds : List Deed) → Linkwise o (Shows ds) FitEntry
wise o ds = record {
  closes = λ items l h. same_but_queue ds l l.queue true l.cut l.written l.arrived h h.fit;
  cuts = λ items l h. same_but_queue ds l l.queue true true l.written l.arrived h h.fit;
  filters = λ items l these h. same_but_queue ds l (without these l).queue l.closed l.cut l.written l.arrived h (each-filter Fit _ l.queue h.fit);
  empties = λ items l h. same_but_queue ds l [] l.closed l.cut l.written l.arrived h tt;
  appends = λ items l out e h. same_but_queue ds l (l.queue ++ out ∷ []) l.closed l.cut l.written l.arrived h (each-append Fit l.queue (out ∷ []) h.fit (e, tt));
  times = λ items conn out t e. record { takes = e.takes; queued = e.queued };
  grows = λ items item l h. h;
  stays = λ items item conn out e. e;
  enters = λ items b item conn reply found sent. record { takes = refl; queued = refl };
  awaits = λ items b item r conns closes conn reply about found sent. record { takes = refl; queued = refl };
}

quiet : (ds : List Deed) (deed : Deed) (l : Link) → handed_on l.conn (deed ∷ []) ≡ [] → is_join_of l.conn deed ≡ false → is_lose_of l.conn deed.0 ≡ false → LinkShows ds l → LinkShows (ds ++ deed ∷ []) l
quiet ds deed l hands joins loses h = record {
  joined = h.joined ∙ sym (has_joined-more ds deed l.conn ∙ ap (λ v. has_joined ds l.conn || v) joins ∙ or_false (has_joined ds l.conn));
  lost = h.lost ∙ sym (was_lost-more ds deed l.conn ∙ ap (λ v. was_lost ds l.conn || v) loses ∙ or_false (was_lost ds l.conn));
  handed = h.handed ∙ sym (handed_on-append l.conn ds (deed ∷ []) ∙ ap (λ hs. handed_on l.conn ds ++ hs) hands ∙ append-nil (handed_on l.conn ds));
  empty = h.empty;
  first = λ s is. h.first s (sym (joined_with-same l.conn ds deed joins) ∙ is);
  fit = h.fit;
  fit_handed = h.fit_handed;
  sns = λ s is. h.sns s (sym (joined_with-same l.conn ds deed joins) ∙ is);
}

loses : (ds : List Deed) (l : Link) → LinkShows ds l → LinkShows (ds ++ (Loses l.conn, Silent) ∷ []) (link_lost l)
loses ds l h =
    let d : Deed = (Loses l.conn, Silent) in
    record {
      joined = h.joined ∙ sym (has_joined-more ds d l.conn ∙ or_false (has_joined ds l.conn));
      lost = sym (was_lost-more ds d l.conn ∙ or_second (was_lost ds l.conn) (l.conn == l.conn) (eq-eqb l.conn l.conn refl));
      handed = h.handed ∙ sym (handed_on-append l.conn ds (d ∷ []) ∙ append-nil (handed_on l.conn ds));
      empty = h.empty;
      first = λ s is. h.first s (sym (joined_with-same l.conn ds d refl) ∙ is);
      fit = h.fit;
      fit_handed = h.fit_handed;
      sns = λ s is. h.sns s (sym (joined_with-same l.conn ds d refl) ∙ is);
    }

pub some_number : (x y : ℕ) → Some x ≡ Some y → x ≡ y
some_number x y h = cc

joins : (ds : List Deed) (l m : Link) (stat_sn : ℕ) → LinkShows ds l → LinkShows ds m → m.conn ≡ l.conn → m.joined ≡ false → LinkShows (ds ++ (Joins l.conn stat_sn, Joined true) ∷ []) (link_joined stat_sn l)
joins ds l m stat_sn h k same unjoined =
    let d : Deed = (Joins l.conn stat_sn, Joined true) in
    let is_join : is_join_of l.conn d ≡ true = ap (λ v. v && true) (eq-eqb l.conn l.conn refl) in
    let before : has_joined ds l.conn ≡ false = ap (has_joined ds) (sym same) ∙ sym k.joined ∙ unjoined in
    let empty : l.handed ≡ [] = h.empty (h.joined ∙ before) in
    let with : joined_with l.conn (ds ++ d ∷ []) ≡ Some stat_sn = joined_with-now l.conn ds d (unjoined_with l.conn ds before) is_join in
    record {
      joined = sym (has_joined-more ds d l.conn ∙ or_second (has_joined ds l.conn) (is_join_of l.conn d) is_join);
      lost = h.lost ∙ sym (was_lost-more ds d l.conn ∙ or_false (was_lost ds l.conn));
      handed = h.handed ∙ sym (handed_on-append l.conn ds (d ∷ []) ∙ append-nil (handed_on l.conn ds));
      empty = λ none. empty;
      first = λ s is. ap number_of_first (some_number stat_sn s (sym with ∙ is));
      fit = h.fit;
      fit_handed = h.fit_handed;
      sns = λ s is. ap (map (λ (g : Handed). g.stat_sn)) empty ∙ sym (ap (in_sequence s) empty);
    }

-- ---- handing out

-- how far the StatSNs go
sequence-push : (s : ℕ) (hs : List Handed) (h : Handed) → EachOf FitHanded hs → in_sequence s (hs ++ h ∷ []) ≡ in_sequence s hs ++ wire (s + count_by takes_handed hs) ∷ []
sequence-push s [] h fit = ap (λ n. wire n ∷ []) (let z : s ≡ s + 0 = omega arith in z)
sequence-push s (g ∷ hs) h fit =
    ap (λ ns. wire s ∷ ns)
    (sequence-push (cond (takes_stat_sn g.out.pdu) (s + 1) s) hs h fit.1
    ∙ ap (λ n. in_sequence (cond (takes_stat_sn g.out.pdu) (s + 1) s) hs ++ wire n ∷ []) (by_taking (takes_stat_sn g.out.pdu) ∙ ap (λ v. s + (count_by takes_handed hs + cond v 1 0)) (sym fit.0) ∙ counted))
  where
    by_taking : (v : Bool) → cond v (s + 1) s + count_by takes_handed hs ≡ s + (count_by takes_handed hs + cond v 1 0)
    by_taking true = omega arith
    by_taking false = omega arith

    counted : s + (count_by takes_handed hs + cond g.out.takes 1 0) ≡ s + count_by takes_handed (g ∷ hs)
    counted = omega (arith, sum_by-cons (λ (x : Handed). cond (takes_handed x) 1 0) g hs)

shown-next : (f s n : ℕ) → f ≡ number_of_first s → wire (f + n) ≡ wire (s + n)
shown-next f s n is = omega (arith, is)

-- what comes out takes a StatSN where its PDU does
fits_out : (o : Opening) (b : Box) (l : Link) (out : Outgoing) → Chosen o b l out → EachOf Fit l.queue → out.takes ≡ takes_stat_sn out.pdu
fits_out o b l out from fit =
    ⊎_elim (λ (q : FromQueue o b l out). (subst (EachOf Fit) q.queue_is fit).0.takes)
    (⊎_elim (λ (p : IsPing o b l out). subst (λ (x : Outgoing). x.takes ≡ takes_stat_sn x.pdu) (sym p.is) refl) (λ (p : IsNotice o b l out). subst (λ (x : Outgoing). x.takes ≡ takes_stat_sn x.pdu) (sym p.is) refl))
    from.source

pub hands : (o : Opening) (ds : List Deed) (b : Box) (l m : Link) (out : Outgoing) (deed : Deed) (queue : List Outgoing) → LinkShows ds l → LinkShows ds m → m.conn ≡ l.conn → Chosen o b l out
    → handed_in_deed deed ≡ Some (l.conn, handed_as o b l out) → is_join_of m.conn deed ≡ false → is_lose_of m.conn deed.0 ≡ false → EachOf Fit queue
    → LinkShows (ds ++ deed ∷ []) (record m { queue = queue; handed = m.handed ++ handed_as o b l out ∷ [] })
hands o ds b l m out deed queue h k same from shown joins loses fit = record {
  joined = k.joined ∙ sym (has_joined-more ds deed m.conn ∙ ap (λ v. has_joined ds m.conn || v) joins ∙ or_false (has_joined ds m.conn));
  lost = k.lost ∙ sym (was_lost-more ds deed m.conn ∙ ap (λ v. was_lost ds m.conn || v) loses ∙ or_false (was_lost ds m.conn));
  handed = ap (λ hs. hs ++ g ∷ []) k.handed ∙ sym (handed_on-append m.conn ds (deed ∷ []) ∙ ap (λ hs. handed_on m.conn ds ++ hs) (some_on m.conn deed g (shown ∙ ap (λ c. Some (c, g)) (sym same))));
  empty = λ unjoined. absurd (false≢true (sym unjoined ∙ is_joined));
  first = λ s is. k.first s (sym (joined_with-same m.conn ds deed joins) ∙ is);
  fit = fit;
  fit_handed = each-append FitHanded m.handed (g ∷ []) k.fit_handed (fits_out o b l out from h.fit, tt);
  sns = λ s is. sns s (sym (joined_with-same m.conn ds deed joins) ∙ is);
}
  where
    g : Handed
    g = handed_as o b l out

    is_joined : m.joined ≡ true
    is_joined = k.joined ∙ ap (has_joined ds) same ∙ sym h.joined ∙ (and_parts l.joined (not l.lost) from.open_is).0

    alike : l.handed ≡ m.handed
    alike = h.handed ∙ ap (λ c. handed_on c ds) (sym same) ∙ sym k.handed

    sns : (s : ℕ) → joined_with m.conn ds ≡ Some s → map (λ (x : Handed). x.stat_sn) (m.handed ++ g ∷ []) ≡ in_sequence s (m.handed ++ g ∷ [])
    sns s is =
        map-append (λ (x : Handed). x.stat_sn) m.handed (g ∷ []) ∙ ap (λ ns. ns ++ g.stat_sn ∷ []) (k.sns s is)
        ∙ ap (λ n. in_sequence s m.handed ++ n ∷ []) (shown-next l.first s (count_by takes_handed l.handed) (h.first s (ap (λ c. joined_with c ds) (sym same) ∙ is)) ∙ ap (λ hs. wire (s + count_by takes_handed hs)) alike)
        ∙ sym (sequence-push s m.handed g k.fit_handed)

pub link_calls : (o : Opening) → Callwise o Shows FitEntry
link_calls o = record {
  wise = wise o;
  quiet = λ ds items deed l hands joins loses h. quiet ds deed l hands joins loses h;
  puts = λ items conn p. record { takes = refl; queued = refl };
  writes = λ ds items l h. same_but_queue ds l l.queue l.closed l.cut (l.written + 1) l.arrived h h.fit;
  hears = λ ds items l n h. same_but_queue ds l l.queue l.closed l.cut l.written n h h.fit;
  loses = λ ds items l h. loses ds l h;
  joins = λ ds items l m stat_sn h k same unjoined. joins ds l m stat_sn h k same unjoined;
  hands = λ ds b l m out deed queue stands h k same from is shown dropped kept.
      hands o ds b l m out deed queue h k same from shown (by_call deed.0 deed.1 l.conn m.conn is) (ap (is_lose_of m.conn) is)
      (elim (is_from_queue out) as (λ v. is_from_queue out ≡ v → EachOf Fit queue) [
        | true ↦ λ q. subst (EachOf Fit) (sym (dropped q)) (each-drop_one Fit m.queue k.fit)
        | false ↦ λ q. subst (EachOf Fit) (sym (kept q)) k.fit
      ] refl);
}
  where
    by_call : (c : Call) (a : Answered) (conn e : ℕ) → c ≡ Nexts conn → is_join_of e (c, a) ≡ false
    by_call c a conn e is = ap (λ x. is_join_of e (x, a)) is

pub link_starts : (o : Opening) → Stands (Shows []) FitEntry [] (opened o)
link_starts o = record { sent = refl; links = starts o.session.conns; undue = tt }
  where
    new : (conn : ℕ) → LinkShows [] (new_link conn)
    new conn = record { joined = refl; lost = refl; handed = refl; empty = λ none. refl; first = λ s is. absurd cc; fit = tt; fit_handed = tt; sns = λ s is. refl }

    starts : (cs : List (ℕ × ℕ)) → EachOf (Shows [] []) (map (λ (c : ℕ × ℕ). new_link c.0) cs)
    starts [] = tt
    starts (c ∷ cs) = (new c.0, starts cs)
