-- Each item of an event by which a header arrives: the box holds together before it, and a reply goes out on a connection that takes it.
use Rattle.std.proofs.Common.{◌≤◌, ◌≡◌, ℕ, ◌+◌, ◌-◌, ◌^◌, ◌<◌, ◌==◌, ◌&&◌, ◌||◌, not, nat_lt, Bool, true, false, List, [], ◌∷◌, ◌++◌, map, filter_map, length, count_by, Option, Some, None, refl, ap, sym, subst, ◌∙◌, ◌⊎◌, ⊎_elim, arith, eq-eqb, length-append}
use Rattle.std.specs.List.{flat_map, list_any}
use Rattle.std.proofs.lemmas.Bool.{false≢true}
use Rattle.std.proofs.lemmas.List.Folds.{list_any-append}
use Rattle.iscsi_wire.specs.declared.reply.Reply.{Reply}
use Rattle.iscsi_wire.specs.Fields.{connection_of}
use Rattle.iscsi_rules.specs.declared.effect.Effect.{Effect}
use Rattle.iscsi_rules.specs.declared.effect.Effect.TheVariants.{Enable}
use Rattle.iscsi_rules.specs.rules.Run.{effects_of, effects_of_item, effects_of_mark, newly_enabled}
use Rattle.iscsi_rules.specs.rules.Logout.{is_open}
use Rattle.iscsi_rules.specs.rules.Settings.{Setting, is_known}
use Rattle.iscsi_rules.specs.rules.Trace.{Admits, Arrival, ClosesConn, ClosesSession, Command, Delivers, Empties, Enters, Executes, Ignores, Leaves, Mark, Sends, Trace, Voids, Waits, after_items, entered, enters, first_of, has, is_among, is_closed, leaves_ticket, waiting}
use Rattle.iscsi_rules.proofs.general.BoolLemmas.{and_parts, not_true, or_first, or_none, or_second}
use Rattle.iscsi_rules.proofs.promises.CloseLemmas.{Sound, is_at}
use Rattle.iscsi_rules.proofs.promises.CloseRuns.{Sounds, clear_of}
use Rattle.iscsi_rules.proofs.general.ElementLemmas.{in-filter}
use Rattle.iscsi_rules.proofs.items.Forms.{AfterWaiting, AtArrival, AtTurn, Completed, Each, Executed, Form, HasForm, HaveForms, Ignored, IsFormed, Postponed, Received, Rejected, Start, marks_done, marks_of_form, start_mark}
use Rattle.iscsi_rules.proofs.promises.LifeLemmas.{beyond_entered}
use Rattle.iscsi_rules.proofs.general.ListLemmas.{fewer_counted, list_any-map}
use Rattle.iscsi_rules.proofs.promises.NumberingLemmas.{to_list}
use Rattle.iscsi_rules.proofs.items.TouchLemmas.{EntersNext, entering_in, entering_next, enters_form, leaves_form, leaving_few, leaving_in}
use Rattle.iscsi_outbox_rules.specs.rules.Boxes.{Box, Link, Task}
use Rattle.iscsi_outbox_rules.specs.rules.Items.{after_item, reply_sent}
use Rattle.iscsi_outbox_rules.specs.rules.Queues.{takes_more}
use Rattle.iscsi_outbox_rules.specs.rules.Words.{is_running, is_running_phase}
use Rattle.iscsi_outbox_rules.proofs.closes.ClosedParts.{effects_each}
use Rattle.iscsi_outbox_rules.proofs.room.RoomLives.{first_form, forms_below}
use Rattle.iscsi_outbox_rules.proofs.room.RoomSends.{done_replies, mark_reply}
use Rattle.iscsi_outbox_law.specs.private.Pairs.{EachOf}
use Rattle.iscsi_outbox_law.proofs.invariants.SoundRuns.{SoundItems}
use Rattle.iscsi_ffi_rules.specs.rules.Calls.{Interface}
use Rattle.iscsi_ffi_rules.specs.rules.Sides.{Side}
use Rattle.iscsi_ffi_rules.proofs.Leavings.{has_ticket, none_with}
use Rattle.iscsi_ffi_law.specs.Arrived.{AreLeavingFit, AreStepsFit, IsFreshCommand, side_behind}
use Rattle.iscsi_ffi_law.specs.Sides.{AreItemsFit}
use Rattle.iscsi_ffi_law.proofs.session_invariants.FitArrivals.{AllAre, IsItemOf, Items, OfForm}
use Rattle.iscsi_ffi_law.proofs.outbox_invariants.FitClosed.{AsIn, closed_item}
use Rattle.iscsi_ffi_law.proofs.session_invariants.FitEmptied.{emptied_fit}
use Rattle.iscsi_ffi_law.proofs.premises.FitFacts.{takes_there}
use Rattle.iscsi_ffi_law.proofs.outbox_invariants.FitFollows.{StaysCut, cut_close}
use Rattle.iscsi_ffi_law.proofs.session_invariants.FitJoined.{IsOver, JoinsOn, SameLost, has_joined, joined_moved, joins_close, lost_close, over_same}
use Rattle.iscsi_ffi_law.proofs.outbox_invariants.FitLinks.{moved_each, moved_item}
use Rattle.iscsi_ffi_law.proofs.outbox_invariants.FitLives.{SameHomes, home_of_command, home_of_task, homes_item}
use Rattle.iscsi_ffi_law.proofs.outbox_invariants.FitNumbers.{all_sends, item_sent, one_sent}
use Rattle.iscsi_ffi_law.proofs.session_invariants.FitOnce.{AreTickets, entered_more, none_beyond, unarrived}
use Rattle.iscsi_outbox_law.proofs.general.PairLemmas.{each-weaken}
use Rattle.iscsi_ffi_law.proofs.session_invariants.FitParting.{closed_on}
use Rattle.iscsi_ffi_law.proofs.outbox_invariants.FitPlaces.{AreHanded, handed_more, still_handed}
use Rattle.iscsi_ffi_law.proofs.premises.FitReady.{AreStepsReady}
use Rattle.iscsi_ffi_law.proofs.session_invariants.FitReceived.{IsWired}
use Rattle.iscsi_ffi_law.proofs.side_invariants.FitSides.{Stays, stays_close}
use Rattle.std.proofs.lemmas.List.Elements.{filter_map-append}
use Rattle.iscsi_outbox_rules.specs.rules.Calls.{Opening}
use Rattle.iscsi_ffi_law.proofs.general.Members.{any_counted, any_in, each_in, in_any, in_each}

-- ---- the reply of an item

marks_reply : (o : Setting) (t : Trace) (ms : List Mark) (cs : List Command) → filter_map reply_sent (flat_map (effects_of_mark o t) ms ++ map (λ (c : Command). Enable c.ticket c.unit) cs) ≡ filter_map mark_reply ms
marks_reply o t [] cs = none cs
  where
    none : (ds : List Command) → filter_map reply_sent (map (λ (c : Command). Enable c.ticket c.unit) ds) ≡ []
    none [] = refl
    none (d ∷ ds) = none ds
marks_reply o t (Admits a ∷ ms) cs = marks_reply o t ms cs
marks_reply o t (Delivers a ∷ ms) cs = marks_reply o t ms cs
marks_reply o t (Executes a ∷ ms) cs = marks_reply o t ms cs
marks_reply o t (Voids n ∷ ms) cs = marks_reply o t ms cs
marks_reply o t (Empties a ∷ ms) cs = marks_reply o t ms cs
marks_reply o t (Waits a ∷ ms) cs = marks_reply o t ms cs
marks_reply o t (Leaves c ∷ ms) cs = marks_reply o t ms cs
marks_reply o t (Enters c ∷ ms) cs = marks_reply o t ms cs
marks_reply o t (Sends conn reply ∷ ms) cs = ap (λ rs. (conn, reply) ∷ rs) (marks_reply o t ms cs)
marks_reply o t (ClosesConn conn ∷ ms) cs = marks_reply o t ms cs
marks_reply o t (ClosesSession ∷ ms) cs = marks_reply o t ms cs
marks_reply o t (Ignores why ∷ ms) cs = marks_reply o t ms cs

same_conn : (conn conn' : ℕ) (reply reply' : Reply) → ◌≡◌ {A = Option (ℕ × Reply)} (Some (conn, reply)) (Some (conn', reply')) → conn ≡ conn'
same_conn conn conn' reply reply' is = ap (λ (x : Option (ℕ × Reply)). elim x [ Some s ↦ s.0 | None ↦ 0 ]) is

-- it is a mark of the item
at_reply : (ms : List Mark) (conn : ℕ) (reply : Reply) → first_of (filter_map mark_reply ms) ≡ Some (conn, reply) → list_any (is_at conn) ms ≡ true
at_reply [] conn reply is = absurd cc
at_reply (Sends k r ∷ ms) conn reply is = or_first (k == conn) (list_any (is_at conn) ms) (eq-eqb k conn (same_conn k conn r reply is))
at_reply (Admits a ∷ ms) conn reply is = or_second (is_at conn (Admits a)) (list_any (is_at conn) ms) (at_reply ms conn reply is)
at_reply (Delivers a ∷ ms) conn reply is = or_second (is_at conn (Delivers a)) (list_any (is_at conn) ms) (at_reply ms conn reply is)
at_reply (Executes a ∷ ms) conn reply is = or_second (is_at conn (Executes a)) (list_any (is_at conn) ms) (at_reply ms conn reply is)
at_reply (Voids n ∷ ms) conn reply is = at_reply ms conn reply is
at_reply (Empties a ∷ ms) conn reply is = at_reply ms conn reply is
at_reply (Waits a ∷ ms) conn reply is = or_second (is_at conn (Waits a)) (list_any (is_at conn) ms) (at_reply ms conn reply is)
at_reply (Leaves c ∷ ms) conn reply is = at_reply ms conn reply is
at_reply (Enters c ∷ ms) conn reply is = or_second (is_at conn (Enters c)) (list_any (is_at conn) ms) (at_reply ms conn reply is)
at_reply (ClosesConn k ∷ ms) conn reply is = at_reply ms conn reply is
at_reply (ClosesSession ∷ ms) conn reply is = at_reply ms conn reply is
at_reply (Ignores why ∷ ms) conn reply is = at_reply ms conn reply is

abbrev replies_on : ℕ → Option Reply → List (ℕ × Reply)
replies_on conn x = map (λ (r : Reply). (conn, r)) (to_list x)

-- an item has one at the most
one_mark : (o : Setting) (now : ℕ) (t : Trace) (form : Form) → IsFormed o now t form → length (filter_map mark_reply (marks_of_form form)) ≤ 1
one_mark o now t (Ignored why) formed = omega arith
one_mark o now t (Rejected a) formed = omega arith
one_mark o now t (Received a) formed = omega arith
one_mark o now t (Postponed a) formed = omega arith
one_mark o now t (Completed c status) formed = omega arith
one_mark o now t (Executed start a d) formed = by_start start (by_reply d.reply)
  where
    by_reply : (x : Option Reply) → length (replies_on (connection_of a.request) x) ≤ 1
    by_reply None = omega arith
    by_reply (Some r) = omega arith

    by_start : (s : Start) → length (replies_on (connection_of a.request) d.reply) ≤ 1 → length (filter_map mark_reply (start_mark s a ∷ marks_done a d)) ≤ 1
    by_start AtTurn few = (let same = ap length (done_replies a d) in omega (arith, same, few))
    by_start AtArrival few = (let same = ap length (done_replies a d) in omega (arith, same, few))
    by_start AfterWaiting few = (let same = ap length (done_replies a d) in omega (arith, same, few))

-- it goes out on the connection of a request
reply_conn : (o : Setting) (now : ℕ) (t : Trace) (C : ℕ → Type 0) → AllAre (λ (a : Arrival). C (connection_of a.request)) t → (form : Form) → IsFormed o now t form → OfForm (λ (a : Arrival). C (connection_of a.request)) form
    → (conn : ℕ) (reply : Reply) → first_of (filter_map mark_reply (marks_of_form form)) ≡ Some (conn, reply) → C conn
reply_conn o now t C all (Ignored why) formed q conn reply is = absurd cc
reply_conn o now t C all (Rejected a) formed q conn reply is = subst C (same_conn (connection_of a.request) conn _ reply is) q
reply_conn o now t C all (Received a) formed q conn reply is = absurd cc
reply_conn o now t C all (Postponed a) formed q conn reply is = absurd cc
reply_conn o now t C all (Completed c status) formed q conn reply is =
    subst C (same_conn (connection_of c.arrival.request) conn _ reply is)
    (each_in (λ (d : Command). C (connection_of d.arrival.request)) (entered t) c (in-filter (λ (d : Command). not (has (leaves_ticket d.ticket) t)) (entered t) c formed).0 all.entered_by)
reply_conn o now t C all (Executed start a d) formed q conn reply is = by_reply d.reply (sym (by_start start) ∙ is)
  where
    by_start : (s : Start) → first_of (filter_map mark_reply (start_mark s a ∷ marks_done a d)) ≡ first_of (replies_on (connection_of a.request) d.reply)
    by_start AtTurn = ap first_of (done_replies a d)
    by_start AtArrival = ap first_of (done_replies a d)
    by_start AfterWaiting = ap first_of (done_replies a d)

    by_reply : (x : Option Reply) → first_of (replies_on (connection_of a.request) x) ≡ Some (conn, reply) → C conn
    by_reply None e = absurd cc
    by_reply (Some r) e = subst C (same_conn (connection_of a.request) conn r reply e) q

-- ---- a command that enters

-- what left had entered
unleft : (o : Setting) (t : Trace) (next : ℕ) → HaveForms o next t → (k : ℕ) → is_among k (entered t) ≡ false → has (leaves_ticket k) t ≡ false
unleft o [] next forms k none = refl
unleft o (item ∷ t) next forms k none =
    let f : HasForm o forms.0 t item = forms.1.1.0 in
    let before : is_among k (entered t) ≡ false = (or_none (is_among k (entered t)) (is_among k (filter_map enters item)) (sym (list_any-append (λ (c : Command). c.ticket == k) (entered t) (filter_map enters item)) ∙ none)).0 in
    let rest = unleft o t _ forms.1.1.1 k before in
    let few = leaving_few o forms.0 t f.form f.formed (has_ticket k) in
    let fewer = fewer_counted (has_ticket k) (λ (c : Command). not (has (leaves_ticket c.ticket) t)) (entered t) in
    let none_entered = none_with k (entered t) before in
    let here : list_any (leaves_ticket k) item ≡ false =
    ap (list_any (leaves_ticket k)) f.is ∙ leaves_form k f.form ∙ any_counted (has_ticket k) (leaving_in f.form) ∙ ap (nat_lt 0) (let z : count_by (has_ticket k) (leaving_in f.form) ≡ 0 = omega (arith, few, fewer, none_entered) in z) in
    ap (λ v. v || has (leaves_ticket k) t) here ∙ rest

-- the outbox has no command that didn't enter
unrun : (t : Trace) (b : Box) (k : ℕ) → SameHomes b t → is_among k (entered t) ≡ false → is_running b k ≡ false
unrun t b k homes none = by_run (is_running b k) refl
  where
    by_run : (v : Bool) → is_running b k ≡ v → v ≡ false
    by_run false is = refl
    by_run true is =
        let x = any_in (λ (y : Task). y.ticket == k && is_running_phase y.phase) b.tasks is in
        let here = in_any (λ (y : Task). y.ticket == k) b.tasks x.x x.there (and_parts (x.x.ticket == k) (is_running_phase x.x.phase) x.passes).0 in
        absurd (false≢true (sym none
        ∙ sym (list_any-map (λ (y : ℕ × ℕ). y.0 == k) home_of_command (entered t))
        ∙ sym (ap (list_any (λ (y : ℕ × ℕ). y.0 == k)) homes)
        ∙ list_any-map (λ (y : ℕ × ℕ). y.0 == k) home_of_task b.tasks
        ∙ here))

-- ---- before each item

pub record Mid (t : Trace) (b : Box) : Type 0 where
  pub closed : EachOf (AsIn t) b.links
  pub homes : SameHomes b t
  pub cuts : EachOf (λ (l : Link). l.cut ≡ true → l.closed ≡ true) b.links
  pub over : EachOf (IsOver t) b.links
  pub handed : AreHanded b.sent b.links

module _ (i : Interface) where
  abbrev o : Setting
  o = i.outbox.session

  mid_item : (now : ℕ) (t : Trace) (b : Box) (item : List Mark) → HasForm i.outbox.session now t item → Mid t b → Mid (item ∷ t) (after_item i.outbox b (effects_of_item i.outbox.session t item))
  mid_item now t b item f m =
      let es : List Effect = effects_of_item i.outbox.session t item in
      let b' : Box = after_item i.outbox b es in
      record {
        closed = closed_item i.outbox now t item b f m.closed;
        homes = homes_item i.outbox now t item b f m.homes;
        cuts = moved_each StaysCut (λ (l : Link). l.cut ≡ true → l.closed ≡ true) (λ (l : Link). l.cut ≡ true → l.closed ≡ true) b.links b'.links (moved_item i.outbox StaysCut cut_close b es) (λ l n g k. g k) m.cuts;
        over = moved_each SameLost (IsOver t) (IsOver (item ∷ t)) b.links b'.links (moved_item i.outbox SameLost lost_close b es) (over_same t (item ∷ t) (λ c k. closed_on c (item ∷ []) t k)) m.over;
        handed = handed_more b.sent b'.sent (let more = item_sent i.outbox b es in omega (arith, more)) b'.links (still_handed b.sent b.links b'.links (moved_item i.outbox Stays stays_close b es) m.handed);
      }

  fresh : (r : Side) (item : List Mark) (c : Command) (m then : ℕ) → HaveForms i.outbox.session m r.both.trace → (at : ℕ) → HasForm i.outbox.session at r.both.trace item → Mid r.both.trace r.both.box → AreTickets r.both.trace r.told → AreTickets r.both.trace r.marked → HaveForms i.outbox.session then (item ∷ r.both.trace) → filter_map enters item ≡ c ∷ [] → IsFreshCommand r c
  fresh r item c m then forms at f mid told marked forms' is =
      let t : Trace = r.both.trace in
      let next : c.ticket ≡ length (entered t) + 1 = by_entering (entering_in f.form) (sym (enters_form f.form) ∙ ap (filter_map enters) (sym f.is) ∙ is) (entering_next i.outbox.session at t f.form f.formed) in
      let none : is_among c.ticket (entered t) ≡ false = beyond_entered i.outbox.session t m forms c.ticket (omega (arith, next)) in
      record {
        unentered = none;
        unleft = unleft i.outbox.session t m forms c.ticket none;
        untold = none_beyond (length (entered t)) c.ticket r.told (omega (arith, next)) told;
        unmarked = none_beyond (length (entered t)) c.ticket r.marked (omega (arith, next)) marked;
        idle = unrun t r.both.box c.ticket mid.homes none;
        unarrived = unarrived i.outbox.session item t then forms' c is;
      }
    where
      by_entering : (x : Option Command) → to_list x ≡ c ∷ [] → Each (EntersNext i.outbox.session r.both.trace f.form) x → c.ticket ≡ length (entered r.both.trace) + 1
      by_entering None e h = absurd cc
      by_entering (Some d) e h = let same : d ≡ c = cc in ap (λ (y : Command). y.ticket) (sym same) ∙ h.next

  -- `C`: a connection joined, or was closed before the event
  module _ (now : ℕ) (joined closed : ℕ → Bool) where
    abbrev pub C : ℕ → Type 0
    C conn = (joined conn ≡ true) ⊎ (closed conn ≡ true)

    abbrev pub Q : Arrival → Type 0
    Q a = C (connection_of a.request)

    takes_reply : (t : Trace) (b : Box) (item : List Mark) → Mid t b → Sound i.outbox.session t item → AllAre Q t → IsItemOf i.outbox.session now Q t item → ((c : ℕ) → joined c ≡ true → has_joined b.links c ≡ true) → ((c : ℕ) → closed c ≡ true → is_closed c t ≡ true)
        → (conn : ℕ) (reply : Reply) → first_of (filter_map reply_sent (effects_of_item i.outbox.session t item)) ≡ Some (conn, reply) → list_any (λ (l : Link). l.conn == conn && takes_more l) b.links ≡ true
    takes_reply t b item m sound all f joins closes conn reply is =
        let sent : first_of (filter_map mark_reply item) ≡ Some (conn, reply) = ap first_of (sym (marks_reply i.outbox.session t item (newly_enabled i.outbox.session t item))) ∙ is in
        let on = reply_conn i.outbox.session now t C all f.has.form f.has.formed f.of conn reply (ap (λ ms. first_of (filter_map mark_reply ms)) (sym f.has.is) ∙ sent) in
        let there : (is_known conn i.outbox.session.conns && not (is_closed conn t)) ≡ true = opened (is_known conn i.outbox.session.conns && not (is_closed conn t)) refl (at_reply item conn reply sent) in
        let unclosed : is_closed conn t ≡ false = not_true (is_closed conn t) (and_parts (is_known conn i.outbox.session.conns) (not (is_closed conn t)) there).1 in
        takes_there t conn b.links m.cuts m.closed m.over unclosed (⊎_elim (λ j. joins conn j) (λ c. absurd (false≢true (sym unclosed ∙ closes conn c))) on)
      where
        opened : (v : Bool) → (is_known conn i.outbox.session.conns && not (is_closed conn t)) ≡ v → list_any (is_at conn) item ≡ true → v ≡ true
        opened true e at = refl
        opened false e at = absurd (false≢true (sym (sound.on_open conn e) ∙ at))

    pub steps_fit : (items : List (List Mark)) (r : Side) (next : ℕ) → HaveForms i.outbox.session next (after_items items r.both.trace) → Sounds i.outbox.session (after_items items r.both.trace) → Items i.outbox.session now Q r.both.trace items
        → SoundItems i.outbox r.both.box (effects_each i.outbox.session r.both.trace items) → AreItemsFit i.outbox r.both.box (effects_each i.outbox.session r.both.trace items) → Mid r.both.trace r.both.box
        → ((c : ℕ) → joined c ≡ true → has_joined r.both.box.links c ≡ true) → ((c : ℕ) → closed c ≡ true → is_closed c r.both.trace ≡ true)
        → r.both.box.sent + all_sends (effects_each i.outbox.session r.both.trace items) < 2 ^ 64 - 1 → AreTickets r.both.trace r.told → AreTickets r.both.trace r.marked → AreStepsReady i r items → AreLeavingFit i r items → Items i.outbox.session now IsWired r.both.trace items → AreStepsFit i r items
    steps_fit [] r next forms sounds of sound fits mid joins closes sent told marked ready leaves wires = sound
    steps_fit (item ∷ items) r next forms sounds of sound fits mid joins closes sent told marked ready leaves wires =
        let t : Trace = r.both.trace in
        let b : Box = r.both.box in
        let es : List Effect = effects_of_item i.outbox.session t item in
        let f = first_form i.outbox items item t next forms in
        let below = forms_below i.outbox (item ∷ items) t next forms in
        let behind = forms_below i.outbox items (item ∷ t) next forms in
        let grown = entered_more item t in
        let still : (ks : List ℕ) → AreTickets t ks → AreTickets (item ∷ t) ks = λ ks h. each-weaken (λ (k : ℕ). k ≤ length (entered t)) (λ (k : ℕ). k ≤ length (entered (item ∷ t))) ks (λ k le. omega (arith, le, grown)) h in
        let more = item_sent i.outbox b es in (
          record {
            fit = fits.0;
            sends = λ conn reply is. record {
              takes = takes_reply t b item mid (sound_below items (item ∷ t) sounds).0 of.0 of.1 joins closes conn reply is;
              sent = omega (arith, sent);
              replies = ready.0.replies conn reply is;
              handed = mid.handed;
            };
            one_reply = (let few = one_mark i.outbox.session f.0 t f.1.form f.1.formed in let same = ap (λ ms. length (filter_map mark_reply ms)) f.1.is in let sent = ap length (marks_reply i.outbox.session t item (newly_enabled i.outbox.session t item)) in omega (arith, few, same, sent));
            enters = λ c is. fresh r item c below.0 behind.0 below.1 f.0 f.1 mid told marked behind.1 is;
            waited = ready.0.waited;
            leaves = leaves.0;
            emptied = emptied_fit i.outbox.session f.0 t item f.1 wires.0;
            waits = in_each (λ (a : Arrival). is_open i.outbox.session t (connection_of a.request) ≡ true) (waiting t) (clear_of i.outbox.session t (sound_below items (item ∷ t) sounds).1).waits;
          },
          steps_fit items (side_behind i r item) next forms sounds of.2 sound.1.1 fits.1 (mid_item f.0 t b item f.1 mid) (λ c k. joined_moved c b.links (after_item i.outbox b es).links (moved_item i.outbox JoinsOn joins_close b es) (joins c k))
              (λ c k. closed_on c (item ∷ []) t (closes c k)) (omega (arith, sent, more)) (still r.told told) (still r.marked marked) ready.1 leaves.1 wires.2,
        )
      where
        sound_below : (later : List (List Mark)) (u : Trace) → Sounds i.outbox.session (after_items later u) → Sounds i.outbox.session u
        sound_below [] u h = h
        sound_below (x ∷ later) u h = (sound_below later (x ∷ u) h).1

-- ---- the replies of an event

-- no more are sent than items send
pub sends_few : (o : Opening) (items : List (List Mark)) (t : Trace) (next : ℕ) → HaveForms o.session next (after_items items t) → length (filter_map reply_sent (effects_of o.session t items)) ≤ all_sends (effects_each o.session t items)
sends_few o [] t next forms = omega arith
sends_few o (item ∷ items) t next forms =
    let f = first_form o items item t next forms in
    let es : List Effect = effects_of_item o.session t item in
    let few = one_mark o.session f.0 t f.1.form f.1.formed in
    let same = ap (λ ms. length (filter_map mark_reply ms)) f.1.is in
    let sent = ap length (marks_reply o.session t item (newly_enabled o.session t item)) in
    let both : length (filter_map reply_sent (es ++ effects_of o.session (item ∷ t) items)) ≡ length (filter_map reply_sent es) + length (filter_map reply_sent (effects_of o.session (item ∷ t) items))
    = ap length (filter_map-append reply_sent es (effects_of o.session (item ∷ t) items)) ∙ length-append (filter_map reply_sent es) (filter_map reply_sent (effects_of o.session (item ∷ t) items)) in
    let one = by_list (filter_map reply_sent es) (omega (arith, few, same, sent)) in
    let rest = sends_few o items (item ∷ t) next forms in
    omega (arith, both, one, rest)
  where
    by_list : (xs : List (ℕ × Reply)) → length xs ≤ 1 → length xs ≤ one_sent (first_of xs)
    by_list [] few = omega arith
    by_list (x ∷ xs) few = omega (arith, few)
