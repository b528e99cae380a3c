-- What the session has is on connections that joined, or are closed; and a connection that is lost is closed.
use Rattle.std.proofs.Common.{◌≡◌, ℕ, ◌+◌, ◌==◌, ◌&&◌, ◌||◌, nat_lt, max, Bool, true, false, List, [], ◌∷◌, map, length, refl, ap, sym, ◌∙◌, inl, inr, ◌⊎◌, ⊎_elim}
use Rattle.std.specs.List.{list_any}
use Rattle.std.proofs.lemmas.Bool.{cond_both, eqb-true, false≢true}
use Rattle.iscsi_wire.specs.Fields.{connection_of}
use Rattle.iscsi_rules.specs.declared.event.Event.{Event}
use Rattle.iscsi_rules.specs.rules.Agenda.{items_of}
use Rattle.iscsi_rules.specs.rules.Run.{entry_of}
use Rattle.iscsi_rules.specs.rules.Trace.{Arrival, Trace, is_closed}
use Rattle.iscsi_rules.proofs.general.BoolLemmas.{and_both, and_parts, or_first, or_second}
use Rattle.iscsi_outbox_rules.specs.rules.Boxes.{Box, Link}
use Rattle.iscsi_outbox_rules.specs.rules.Calls.{Call, Clears, Hears, Joins, Loses, Nexts, Opening, Puts, Stops, Takes, Writes}
use Rattle.iscsi_outbox_rules.specs.rules.Run.{after_call, arrived_by_ping, arrived_by_stat_sn, new_link}
use Rattle.iscsi_outbox_rules.specs.rules.Words.{is_open}
use Rattle.iscsi_outbox_rules.specs.promises.Room.{Both, Happens, Other, after_step, begun}
use Rattle.iscsi_outbox_law.specs.private.Pairs.{EachOf}
use Rattle.iscsi_outbox_law.proofs.general.PairLemmas.{each-new}
use Rattle.iscsi_outbox_law.proofs.invariants.SoundCalls.{TakesNone}
use Rattle.iscsi_ffi_law.proofs.session_invariants.FitArrivals.{AllAre, OfEvent, all_none, all_weaken, event_items, items_end}
use Rattle.iscsi_ffi_law.proofs.outbox_invariants.FitLinks.{IsCallRule, IsCloseRule, IsKept, IsKeptRule, IsQueueRule, Moves, moved_call, moved_each, moved_event, moved_kept, moved_lost, moved_next}
use Rattle.iscsi_ffi_law.proofs.session_invariants.FitParting.{closed_on}

-- ---- a connection that joined

abbrev pub has_joined : List Link → ℕ → Bool
has_joined links c = list_any (λ (l : Link). l.conn == c && l.joined) links

abbrev pub JoinsOn : Link → Link → Type 0
JoinsOn l m = (m.conn ≡ l.conn) × (l.joined ≡ true → m.joined ≡ true)

joins_queue : IsQueueRule JoinsOn
joins_queue = record { same = λ l. (refl, λ h. h); queued = λ l queue may. (refl, λ h. h); then = λ l m n f g. (g.0 ∙ f.0, λ h. g.1 (f.1 h)) }

pub joins_close : IsCloseRule JoinsOn
joins_close = record { queue = joins_queue; closed = λ l. (refl, λ h. h); cut = λ l. (refl, λ h. h) }

joins_call : IsCallRule JoinsOn
joins_call = record {
  kept = record {
    queue = joins_queue;
    written = λ l. cond_both (nat_lt l.written (length l.handed)) (record l { written = l.written + 1 }) l (JoinsOn l) (λ may. (refl, λ h. h)) (λ may. (refl, λ h. h));
    heard = λ exp_stat_sn tag l. cond_both (is_open l) (record l { arrived = max l.arrived (max (arrived_by_stat_sn l exp_stat_sn) (arrived_by_ping l tag)) }) l (JoinsOn l) (λ may. (refl, λ h. h)) (λ may. (refl, λ h. h));
    joined = λ stat_sn l. (refl, λ h. refl);
  };
  lost = λ l. (refl, λ h. h);
}

joined_map : (c : ℕ) (f : Link → Link) (links : List Link) → ((l : Link) → JoinsOn l (f l)) → has_joined links c ≡ true → has_joined (map f links) c ≡ true
joined_map c f [] stays h = h
joined_map c f (l ∷ links) stays h = by_first (joined_map c f links stays) (l.conn == c && l.joined) refl h
  where
    by_first : (has_joined links c ≡ true → has_joined (map f links) c ≡ true) → (v : Bool) → (l.conn == c && l.joined) ≡ v → (v || has_joined links c) ≡ true → (((f l).conn == c && (f l).joined) || has_joined (map f links) c) ≡ true
    by_first further true is k =
        let parts = and_parts (l.conn == c) l.joined is in
        or_first ((f l).conn == c && (f l).joined) (has_joined (map f links) c) (and_both ((f l).conn == c) (f l).joined (ap (λ n. n == c) (stays l).0 ∙ parts.0) ((stays l).1 parts.1))
    by_first further false is k = or_second ((f l).conn == c && (f l).joined) (has_joined (map f links) c) (further k)

pub joined_moved : (c : ℕ) (ls ms : List Link) → Moves JoinsOn ls ms → has_joined ls c ≡ true → has_joined ms c ≡ true
joined_moved c ls ms v h = ap (λ xs. has_joined xs c) v.is ∙ joined_map c v.by ls v.each h

joined_next : (o : Opening) (b : Box) (conn c : ℕ) → has_joined b.links c ≡ true → has_joined (after_call o b (Nexts conn)).links c ≡ true
joined_next o b conn c h = joined_moved c b.links (after_call o b (Nexts conn)).links (moved_next o JoinsOn JoinsOn joins_queue (λ l m g s. s) (λ l m s. s) b conn) h

pub joined_other : (o : Opening) (b : Box) (call : Call) (c : ℕ) → TakesNone call → has_joined b.links c ≡ true → has_joined (after_call o b call).links c ≡ true
joined_other o b (Takes effects numbers) c none h = absurd none
joined_other o b (Puts p) c none h = joined_moved c b.links (after_call o b (Puts p)).links (moved_call o JoinsOn joins_call b (Puts p) tt) h
joined_other o b (Stops ticket) c none h = joined_moved c b.links (after_call o b (Stops ticket)).links (moved_call o JoinsOn joins_call b (Stops ticket) tt) h
joined_other o b (Nexts conn) c none h = joined_next o b conn c h
joined_other o b (Writes conn) c none h = joined_moved c b.links (after_call o b (Writes conn)).links (moved_call o JoinsOn joins_call b (Writes conn) tt) h
joined_other o b (Hears conn exp_stat_sn tag) c none h = joined_moved c b.links (after_call o b (Hears conn exp_stat_sn tag)).links (moved_call o JoinsOn joins_call b (Hears conn exp_stat_sn tag) tt) h
joined_other o b (Joins conn stat_sn) c none h = joined_moved c b.links (after_call o b (Joins conn stat_sn)).links (moved_call o JoinsOn joins_call b (Joins conn stat_sn) tt) h
joined_other o b (Loses conn) c none h = joined_moved c b.links (after_call o b (Loses conn)).links (moved_call o JoinsOn joins_call b (Loses conn) tt) h
joined_other o b (Clears unit) c none h = joined_moved c b.links (after_call o b (Clears unit)).links (moved_call o JoinsOn joins_call b (Clears unit) tt) h

-- a request came on a connection that joined, or is closed
abbrev pub IsServed : List Link → Trace → Arrival → Type 0
IsServed links t a = (has_joined links (connection_of a.request) ≡ true) ⊎ (is_closed (connection_of a.request) t ≡ true)

served_more : (links links' : List Link) (t t' : Trace) → ((c : ℕ) → has_joined links c ≡ true → has_joined links' c ≡ true) → ((c : ℕ) → is_closed c t ≡ true → is_closed c t' ≡ true) → (a : Arrival) → IsServed links t a → IsServed links' t' a
served_more links links' t t' f g a h = ⊎_elim (λ x. inl (f (connection_of a.request) x)) (λ x. inr (g (connection_of a.request) x)) h

-- ---- a connection that was lost

abbrev pub IsOver : Trace → Link → Type 0
IsOver t l = l.lost ≡ true → is_closed l.conn t ≡ true

abbrev pub SameLost : Link → Link → Type 0
SameLost l m = (m.conn ≡ l.conn) × (m.lost ≡ l.lost)

lost_queue : IsQueueRule SameLost
lost_queue = record { same = λ l. (refl, refl); queued = λ l queue may. (refl, refl); then = λ l m n f g. (g.0 ∙ f.0, g.1 ∙ f.1) }

pub lost_close : IsCloseRule SameLost
lost_close = record { queue = lost_queue; closed = λ l. (refl, refl); cut = λ l. (refl, refl) }

lost_kept : IsKeptRule SameLost
lost_kept = record {
  queue = lost_queue;
  written = λ l. cond_both (nat_lt l.written (length l.handed)) (record l { written = l.written + 1 }) l (SameLost l) (λ may. (refl, refl)) (λ may. (refl, refl));
  heard = λ exp_stat_sn tag l. cond_both (is_open l) (record l { arrived = max l.arrived (max (arrived_by_stat_sn l exp_stat_sn) (arrived_by_ping l tag)) }) l (SameLost l) (λ may. (refl, refl)) (λ may. (refl, refl));
  joined = λ stat_sn l. (refl, refl);
}

pub over_same : (t t' : Trace) → ((c : ℕ) → is_closed c t ≡ true → is_closed c t' ≡ true) → (l m : Link) → SameLost l m → IsOver t l → IsOver t' m
over_same t t' g l m s h lost = ap (λ n. is_closed n t') s.0 ∙ g l.conn (h (sym s.1 ∙ lost))

-- .. or is the one that is lost now
abbrev OrLost : ℕ → Link → Link → Type 0
OrLost c l m = (m.conn ≡ l.conn) × (m.lost ≡ true → (l.lost ≡ true) ⊎ (l.conn ≡ c))

pub lost_closed : (o : Opening) (b : Box) (t t' : Trace) (c : ℕ) → ((k : ℕ) → is_closed k t ≡ true → is_closed k t' ≡ true) → is_closed c t' ≡ true → EachOf (IsOver t) b.links → EachOf (IsOver t') (after_call o b (Loses c)).links
lost_closed o b t t' c g closed h =
    moved_each (OrLost c) (IsOver t) (IsOver t') b.links (after_call o b (Loses c)).links
    (moved_lost o SameLost (OrLost c) lost_queue c (λ l m is s. (s.0, λ lost. inr (eqb-true l.conn c is))) (λ l m s. (s.0, λ lost. inl (sym s.1 ∙ lost))) b)
    (λ l m s over lost. ap (λ n. is_closed n t') s.0 ∙ ⊎_elim (λ before. g l.conn (over before)) (λ is. ap (λ n. is_closed n t') is ∙ closed) (s.1 lost)) h

module _ (o : Opening) where
  over_event : (b : Both) (e : Event) → EachOf (IsOver b.trace) b.box.links → EachOf (IsOver (after_step o b (Happens e)).trace) (after_step o b (Happens e)).box.links
  over_event b e h =
      let entry = entry_of o.session b.event b.trace e in
      moved_each SameLost (IsOver b.trace) (IsOver (after_step o b (Happens e)).trace) b.box.links (after_step o b (Happens e)).box.links (moved_event o SameLost lost_close b.box entry.effects entry.numbers)
      (over_same b.trace (after_step o b (Happens e)).trace (λ c k. closed_on c (items_of o.session b.event b.trace e) b.trace k)) h

  -- a call that takes no event, and loses no connection
  pub over_kept : (b : Box) (t : Trace) (c : Call) → IsKept c → EachOf (IsOver t) b.links → EachOf (IsOver t) (after_call o b c).links
  over_kept b t c kept h = moved_each SameLost (IsOver t) (IsOver t) b.links (after_call o b c).links (moved_kept o SameLost lost_kept b c kept) (over_same t t (λ k closed. closed)) h

  pub over_next : (b : Box) (t : Trace) (conn : ℕ) → EachOf (IsOver t) b.links → EachOf (IsOver t) (after_call o b (Nexts conn)).links
  over_next b t conn h =
      moved_each SameLost (IsOver t) (IsOver t) b.links (after_call o b (Nexts conn)).links (moved_next o SameLost SameLost lost_queue (λ l m g s. s) (λ l m s. s) b conn) (over_same t t (λ k closed. closed)) h

  -- ---- both

  pub record AreServed (b : Both) : Type 0 where
    pub served : AllAre (IsServed b.box.links b.trace) b.trace
    pub over : EachOf (IsOver b.trace) b.box.links

  pub served_begun : AreServed (begun o)
  served_begun = record { served = all_none (IsServed (begun o).box.links []); over = each-new (IsOver []) (λ (c : ℕ × ℕ). new_link c.0) o.session.conns (λ c is. absurd (false≢true is)) }

  -- an event of which the request comes on a connection that joined, or that it closes
  abbrev pub Serves : Both → Event → Type 0
  Serves b e = OfEvent o.session b.event (IsServed b.box.links (after_step o b (Happens e)).trace) b.trace e

  served_after : (b : Both) (e : Event) → Serves b e → AllAre (IsServed b.box.links b.trace) b.trace → AllAre (IsServed (after_step o b (Happens e)).box.links (after_step o b (Happens e)).trace) (after_step o b (Happens e)).trace
  served_after b e serves h =
      let entry = entry_of o.session b.event b.trace e in
      let t' : Trace = (after_step o b (Happens e)).trace in
      let stays : (c : ℕ) → is_closed c b.trace ≡ true → is_closed c t' ≡ true = λ c k. closed_on c (items_of o.session b.event b.trace e) b.trace k in
      let v = moved_event o JoinsOn joins_close b.box entry.effects entry.numbers in
      all_weaken (IsServed b.box.links t') (IsServed (after_step o b (Happens e)).box.links t') t' (served_more b.box.links (after_step o b (Happens e)).box.links t' t' (λ c k. joined_moved c b.box.links (after_step o b (Happens e)).box.links v k) (λ c k. k))
      (items_end o.session b.event (IsServed b.box.links t') b.trace (items_of o.session b.event b.trace e)
      (event_items o.session b.event (IsServed b.box.links t') b.trace e serves (all_weaken (IsServed b.box.links b.trace) (IsServed b.box.links t') b.trace (served_more b.box.links b.box.links b.trace t' (λ c k. k) stays) h)))

  pub served_event : (b : Both) (e : Event) → Serves b e → AreServed b → AreServed (after_step o b (Happens e))
  served_event b e serves h = record { served = served_after b e serves h.served; over = over_event b e h.over }

  served_call : (b : Both) (c : Call) → TakesNone c → AllAre (IsServed b.box.links b.trace) b.trace → AllAre (IsServed (after_call o b.box c).links b.trace) b.trace
  served_call b c none h =
      all_weaken (IsServed b.box.links b.trace) (IsServed (after_call o b.box c).links b.trace) b.trace (served_more b.box.links (after_call o b.box c).links b.trace b.trace (λ k x. joined_other o b.box c k none x) (λ k x. x)) h

  pub served_other : (b : Both) (c : Call) → TakesNone c → EachOf (IsOver b.trace) (after_call o b.box c).links → AreServed b → AreServed (after_step o b (Other c))
  served_other b c none over h = record { served = served_call b c none h.served; over = over }

  -- a connection is lost, and the session hears of it in an event that closes it
  pub served_lost : (b : Both) (c : ℕ) (e : Event) → is_closed c (after_step o (after_step o b (Other (Loses c))) (Happens e)).trace ≡ true → Serves (after_step o b (Other (Loses c))) e → AreServed b
      → AreServed (after_step o (after_step o b (Other (Loses c))) (Happens e))
  served_lost b c e closed serves h =
      let b' : Both = after_step o b (Other (Loses c)) in
      let t' : Trace = (after_step o b' (Happens e)).trace in
      let entry = entry_of o.session b'.event b'.trace e in
      record {
        served = served_after b' e serves (served_call b (Loses c) tt h.served);
        over =
            moved_each SameLost (IsOver t') (IsOver t') b'.box.links (after_step o b' (Happens e)).box.links (moved_event o SameLost lost_close b'.box entry.effects entry.numbers) (over_same t' t' (λ k x. x))
            (lost_closed o b.box b.trace t' c (λ k x. closed_on k (items_of o.session b'.event b'.trace e) b.trace x) closed h.over);
      }
