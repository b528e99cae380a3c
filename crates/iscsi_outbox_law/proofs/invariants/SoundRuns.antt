-- For every list of calls that follows a session each box is sound, between the calls and between the items of an event, and each
-- item is one that a session gives.
use Rattle.std.proofs.Common.{◌≡◌, ℕ, ◌+◌, cond, Bool, true, false, List, [], ◌∷◌, ◌++◌, map, filter, filter_map, Some, None, refl, ap, sym, subst, ◌∙◌, arith, ⊎_elim}
use Rattle.std.specs.List.{list_all, flat_map}
use Rattle.std.proofs.lemmas.Bool.{and_parts, cond_both}
use Rattle.iscsi_rules.specs.declared.effect.Effect.{Effect}
use Rattle.iscsi_rules.specs.declared.effect.Numbers.{Numbers}
use Rattle.iscsi_rules.specs.declared.entry.Entry.{Entry}
use Rattle.iscsi_rules.specs.declared.event.Event.{Event}
use Rattle.iscsi_rules.specs.rules.Settings.{are_distinct}
use Rattle.iscsi_rules.specs.rules.Trace.{Mark, Trace, after_items as after_marks, first_of}
use Rattle.iscsi_rules.specs.rules.Agenda.{belongs, items_of}
use Rattle.iscsi_rules.specs.rules.Run.{after_event as after_session_event, effects_of, effects_of_item, entries_from, entry_of}
use Rattle.iscsi_rules.specs.promises.Order.{in_parts}
use Rattle.iscsi_rules.proofs.promises.CloseLemmas.{Sound}
use Rattle.iscsi_rules.proofs.promises.CloseRuns.{Sounds, event_sound}
use Rattle.iscsi_rules.proofs.items.Forms.{HaveForms}
use Rattle.iscsi_rules.proofs.items.FormRuns.{event_going}
use Rattle.iscsi_outbox_rules.specs.rules.Calls.{Opening, Call, Takes, Puts, Stops, Nexts, Writes, Hears, Joins, Loses, Clears}
use Rattle.iscsi_outbox_rules.specs.rules.Boxes.{Phase, Dormant, Fresh, Started, Completed, Running, Gone, Task, Box}
use Rattle.iscsi_outbox_rules.specs.rules.Words.{contains, is_live_phase, is_running}
use Rattle.iscsi_outbox_rules.specs.rules.Queues.{at_link, enter, drop_on}
use Rattle.iscsi_outbox_rules.specs.rules.Due.{settle}
use Rattle.iscsi_outbox_rules.specs.rules.Items.{executing, tickets_left, ticket_enabled, reply_sent, closed_in, newly_closed, phase_completed, phase_enabled, phase_told, in_phase, leave, enter_tasks, close, send, after_item, after_items, after_event}
use Rattle.iscsi_outbox_rules.specs.rules.Own.{own_conn, own_outgoing, put_refusal}
use Rattle.iscsi_outbox_rules.specs.rules.Run.{opened, after_call, phase_stopped, one_written, link_heard, may_join, link_joined, link_lost, cleared}
use Rattle.iscsi_outbox_rules.specs.promises.Deeds.{entry_taken, FollowsKnown}
use Rattle.iscsi_outbox_rules.proofs.closes.ClosedParts.{Parts, effects_each, event_parts}
use Rattle.iscsi_outbox_rules.proofs.general.Cuts.{Hand, Idle, next}
use Rattle.iscsi_outbox_rules.proofs.progress.DeadlockSettled.{Settled, settles, settled_call}
use Rattle.iscsi_outbox_rules.proofs.room.RoomLives.{forms_below, first_form}
use Rattle.iscsi_outbox_rules.proofs.room.RoomSends.{Formed}
use Rattle.iscsi_outbox_rules.proofs.room.RoomSends.{event_going as event_sends}
use Rattle.iscsi_outbox_rules.proofs.room.RoomTasks.{live_tickets, live_same, same_told, settled_tasks, live_after_item}
use Rattle.iscsi_outbox_rules.proofs.commands.TaskLives.{item_tasks}
use Rattle.iscsi_outbox_law.specs.private.Pairs.{EachOf}
use Rattle.iscsi_outbox_law.specs.private.Sound.{IsSound, IsItemSound, NoneIsFresh}
use Rattle.iscsi_outbox_law.proofs.invariants.SoundSettled.{stays_settled}
use Rattle.iscsi_outbox_law.proofs.invariants.SoundFirm.{IsFirm, sound_of}
use Rattle.iscsi_outbox_law.proofs.invariants.SoundCalls.{TakesNone, firm_call, firm_opened, firm_told, stale_call}
use Rattle.iscsi_outbox_law.proofs.invariants.SoundForms.{Follows, home_of_task, homes_turn}
use Rattle.iscsi_outbox_law.proofs.invariants.SoundItems.{follows_item, item_sound, item_firm}
use Rattle.iscsi_outbox_law.proofs.invariants.SoundParting.{IsParting, event_parting}
use Rattle.iscsi_outbox_law.proofs.invariants.SoundTaking.{IsItemFirm, firm_item}
use Rattle.iscsi_outbox_law.proofs.invariants.SoundTurns.{IsTurn, phased, turn_phased, completed_left, enabled_left, stopped_left, told_left}

-- ---- what is to be shown

-- before each item of an event, and behind the last one
abbrev pub SoundItems : Opening → Box → List (List Effect) → Type 0
SoundItems o b [] = IsSound o b
SoundItems o b (item ∷ items) = IsSound o b × (IsItemSound o b item × SoundItems o (after_item o b item) items)

abbrev pub SoundCall : Opening → Box → Call → Type 0
SoundCall o b (Takes effects numbers) = SoundItems o b (in_parts effects)
SoundCall o b _ = Unit {0}

-- before each call, and behind the last one
abbrev pub SoundFrom : Opening → Box → List Call → Type 0
SoundFrom o b [] = IsSound o b × NoneIsFresh b
SoundFrom o b (c ∷ cs) = (IsSound o b × NoneIsFresh b) × (SoundCall o b c × SoundFrom o (after_call o b c) cs)

-- ---- commands of the box and of the session

follows_turn : (f : Task → Task) → IsTurn f → ((x : Task) → is_live_phase (f x).phase ≡ is_live_phase x.phase) → (b : Box) (t : Trace) → Follows b t → Follows (record b { tasks = map f b.tasks }) t
follows_turn f turn same b t h = record {
  lives = live_same f (λ x. (turn.ticket x, same x)) b.tasks ∙ h.lives;
  homes = homes_turn f turn b.tasks ∙ h.homes;
}

same_stopped : (p : Phase) → is_live_phase (phase_stopped p) ≡ is_live_phase p
same_stopped Dormant = refl
same_stopped Fresh = refl
same_stopped Started = refl
same_stopped Completed = refl
same_stopped Running = refl
same_stopped Gone = refl

follows_settled : (o : Opening) (b : Box) (t : Trace) → Follows b t → Follows (settle o b) t
follows_settled o b t h = record { lives = ap live_tickets (settled_tasks o b) ∙ h.lives; homes = ap (map home_of_task) (settled_tasks o b) ∙ h.homes }

-- only the commands count
follows_tasks : (b b' : Box) (t : Trace) → b'.tasks ≡ b.tasks → Follows b t → Follows b' t
follows_tasks b b' t same h = record { lives = ap live_tickets same ∙ h.lives; homes = ap (map home_of_task) same ∙ h.homes }

follows_call : (o : Opening) (b : Box) (c : Call) (t : Trace) → TakesNone c → Follows b t → Follows (after_call o b c) t
follows_call o b (Takes effects numbers) t none h = absurd none
follows_call o b (Puts p) t none h =
    elim (put_refusal o b p) as (λ x. Follows (elim x [ Some refusal ↦ b | None ↦ elim (own_conn b p) [ Some conn ↦ enter conn (own_outgoing p) b | None ↦ b ] ]) t) [
      | Some refusal ↦ h
      | None ↦ elim (own_conn b p) as (λ x. Follows (elim x [ Some conn ↦ enter conn (own_outgoing p) b | None ↦ b ]) t) [
        | Some conn ↦ follows_tasks b (enter conn (own_outgoing p) b) t refl h
        | None ↦ h
      ]
    ]
follows_call o b (Stops ticket) t none h =
    cond_both (is_running b ticket) (settle o (in_phase phase_stopped (ticket ∷ []) b)) b (λ (x : Box). Follows x t)
    (λ is. follows_settled o (in_phase phase_stopped (ticket ∷ []) b) t
    (follows_turn (phased phase_stopped (ticket ∷ [])) (turn_phased phase_stopped (ticket ∷ []) (λ p left. stopped_left p ∙ left))
    (λ x. cond_both (contains (ticket ∷ []) x.ticket) (record x { phase = phase_stopped x.phase }) x (λ (y : Task). is_live_phase y.phase ≡ is_live_phase x.phase) (λ among. same_stopped x.phase) (λ among. refl)) b t h))
    (λ is. h)
follows_call o b (Nexts conn) t none h =
    ⊎_elim (λ (k : Hand o b conn). follows_tasks b (after_call o b (Nexts conn)) t (ap (λ (x : Box). x.tasks) k.after_is) h) (λ (k : Idle o b conn). follows_tasks b (after_call o b (Nexts conn)) t (ap (λ (x : Box). x.tasks) k.after_is) h) (next o b conn)
follows_call o b (Writes conn) t none h = follows_settled o (record b { links = at_link conn one_written b.links }) t (follows_tasks b (record b { links = at_link conn one_written b.links }) t refl h)
follows_call o b (Hears conn exp_stat_sn tag) t none h =
    follows_settled o (record b { links = at_link conn (link_heard exp_stat_sn tag) b.links }) t (follows_tasks b (record b { links = at_link conn (link_heard exp_stat_sn tag) b.links }) t refl h)
follows_call o b (Joins conn stat_sn) t none h =
    cond_both (may_join b conn) (record b { links = at_link conn (link_joined stat_sn) b.links }) b (λ (x : Box). Follows x t) (λ is. follows_tasks b (record b { links = at_link conn (link_joined stat_sn) b.links }) t refl h) (λ is. h)
follows_call o b (Loses conn) t none h =
    let lost : Box = drop_on conn (record b { links = at_link conn link_lost b.links; reached = 0 }) in
    follows_settled o lost t (follows_tasks b lost t refl h)
follows_call o b (Clears unit) t none h = follows_settled o (record b { undue = cleared unit b.undue }) t (follows_tasks b (record b { undue = cleared unit b.undue }) t refl h)

-- ---- an event

module _ (o : Opening) where
  -- what stands between the items
  record Stands (b : Box) (t : Trace) : Type 0 where
    firm : IsFirm o b
    settled : Settled o b
    follows : Follows b t

  sound_there : (b : Box) (t : Trace) → Stands b t → IsSound o b
  sound_there b t k = sound_of o b k.firm (stays_settled o b k.settled)

  settled_item : (b : Box) (item : List Effect) → Settled o (after_item o b item)
  settled_item b item =
      settles o
      (in_phase phase_enabled (filter_map ticket_enabled item)
      (send o (executing item) (tickets_left item) (closed_in b item) (newly_closed b (closed_in b item)) (first_of (filter_map reply_sent item))
      (close (executing item) (newly_closed b (closed_in b item)) (enter_tasks (executing item) item (leave (executing item) (tickets_left item) b)))))

  sounds_below : (items : List (List Mark)) (t : Trace) → Sounds o.session (after_marks items t) → Sounds o.session t
  sounds_below [] t s = s
  sounds_below (item ∷ items) t s = (sounds_below items (item ∷ t) s).1

  first_sound : (items : List (List Mark)) (item : List Mark) (t : Trace) → Sounds o.session (after_marks items (item ∷ t)) → Sound o.session t item
  first_sound items item t s = (sounds_below items (item ∷ t) s).0

  -- what items give
  abbrev Gives : Box → List (List Effect) → Trace → Type 0
  Gives b parts t = SoundItems o b parts × Stands (after_items o b parts) t

  items_give : (items : List (List Mark)) (t : Trace) (b : Box) (after : ℕ) → HaveForms o.session after (after_marks items t) → Sounds o.session (after_marks items t) → EachOf IsParting items → Stands b t
      → Gives b (effects_each o.session t items) (after_marks items t)
  items_give [] t b after forms sounds parting k = (sound_there b t k, k)
  items_give (item ∷ items) t b after forms sounds parting k =
      let before = forms_below o (item ∷ items) t after forms in
      let f = first_form o items item t after forms in
      let sound : Sound o.session t item = first_sound items item t sounds in
      let es : List Effect = effects_of_item o.session t item in
      let later : Gives (after_item o b es) (effects_each o.session (item ∷ t) items) (after_marks items (item ∷ t)) =
      items_give items (item ∷ t) (after_item o b es) after forms sounds parting.1
      (record {
        firm = firm_item o b es (item_firm o b t f.0 before.0 before.1 item f.1 k.follows sound) k.firm;
        settled = settled_item b es;
        follows = follows_item o b t f.0 before.0 before.1 item f.1 k.follows;
      }) in
      ((sound_there b t k, (item_sound o b t f.0 before.0 before.1 item f.1 k.follows parting.0 sound, later.0)), later.1)

  -- an empty part does nothing
  no_fact : {A : Type 0} (x : A) → None ≡ Some x → ⊥
  no_fact x is = absurd cc

  empty_firm : (b : Box) → IsItemFirm o b []
  empty_firm b = record { left = tt; later = tt; ascending = tt; known = λ r is. absurd (no_fact r is); home = λ is k conn reply first. absurd (no_fact k first) }

  empty_sound : (b : Box) → IsItemSound o b []
  empty_sound b = record {
    left = tt;
    entered = tt;
    ascending = tt;
    next = tt;
    known = λ r is. absurd (no_fact r is);
    replies = λ conn reply sent. absurd (no_fact (conn, reply) sent);
    one_close = omega arith;
    closing = λ conn reply sent. absurd (no_fact (conn, reply) sent);
    logout = λ r conn reply is. absurd (no_fact r is);
  }

  every : (ks : List ℕ) → filter (λ k. true) ks ++ [] ≡ ks
  every [] = refl
  every (k ∷ ks) = ap (λ (js : List ℕ). k ∷ js) (every ks)

  event_gives : (now : ℕ) (t : Trace) (e : Event) (b : Box) → HaveForms o.session now t → Sounds o.session t → belongs o.session e ≡ true → Stands b t
      → Gives b (in_parts (effects_of o.session t (items_of o.session now t e))) (after_session_event o.session now t e)
  event_gives now t e b forms sounds known k =
      subst (λ (ps : List (List Effect)). Gives b ps (after_session_event o.session now t e)) (sym parts.are) (by_lead parts.lead)
    where
      parts : Parts o.session t (items_of o.session now t e)
      parts = event_parts o.session (Formed o.session (λ c. false)) (λ u item x. x) now t e (event_sends o.session (λ c. false) now t e).each

      given : (b' : Box) → Stands b' t → Gives b' (effects_each o.session t (items_of o.session now t e)) (after_session_event o.session now t e)
      given b' k' = items_give (items_of o.session now t e) t b' (now + 1) (event_going o.session now t e forms) (event_sound o.session now t e known sounds) (event_parting o.session now t e) k'

      by_lead : (v : Bool) → Gives b (cond v ([] ∷ effects_each o.session t (items_of o.session now t e)) (effects_each o.session t (items_of o.session now t e))) (after_session_event o.session now t e)
      by_lead false = given b k
      by_lead true =
          let later = given (after_item o b []) (record {
            firm = firm_item o b [] (empty_firm b) k.firm;
            settled = settled_item b [];
            follows = empty_follows;
          }) in
          ((sound_there b t k, (empty_sound b, later.0)), later.1)
        where
          empty_follows : Follows (after_item o b []) t
          empty_follows = record {
            lives = live_after_item o b [] ∙ every (live_tickets b.tasks) ∙ k.follows.lives;
            homes =
                ap (map home_of_task) (item_tasks o b [])
                ∙ homes_turn (phased phase_enabled []) (turn_phased phase_enabled [] (λ p is. enabled_left p ∙ is)) (map (phased phase_completed []) b.tasks)
                ∙ homes_turn (phased phase_completed []) (turn_phased phase_completed [] (λ p is. completed_left p ∙ is)) b.tasks ∙ k.follows.homes;
          }

  -- ---- the calls

  -- an event's end: what it enabled counts as started
  told : (b : Box) (effects : List Effect) (numbers : Numbers) (t : Trace) → Settled o b → Stands (after_items o b (in_parts effects)) t → Stands (after_event o b effects numbers) t
  told b effects numbers t before k =
      let b' : Box = after_items o b (in_parts effects) in
      let marked : Box = record b' { tasks = map (λ (x : Task). record x { phase = phase_told x.phase }) b'.tasks } in
      record {
        firm = firm_told o b' k.firm;
        settled = settled_call o b (Takes effects numbers) before;
        follows = follows_tasks marked (after_event o b effects numbers) t refl
            (follows_turn (λ (x : Task). record x { phase = phase_told x.phase }) (record { ticket = λ x. refl; conn = λ x. refl; left = λ x left. told_left x.phase ∙ left }) (λ x. same_told x.phase) b' t k.follows);
      }

  after_other : (b : Box) (c : Call) (t : Trace) → are_distinct o.session.conns ≡ true → TakesNone c → Stands b t → Stands (after_call o b c) t
  after_other b c t distinct none k = record { firm = firm_call o b c distinct none k.firm; settled = settled_call o b c k.settled; follows = follows_call o b c t none k.follows }

  calls_sound : (cs : List Call) (b : Box) (now : ℕ) (t : Trace) (events : List Event) → are_distinct o.session.conns ≡ true → HaveForms o.session now t → Sounds o.session t → list_all (belongs o.session) events ≡ true
      → flat_map entry_taken cs ≡ entries_from o.session now t events → NoneIsFresh b → Stands b t → SoundFrom o b cs
  calls_sound [] b now t events distinct forms sounds known follows stale k = (sound_there b t k, stale)
  calls_sound (Takes effects numbers ∷ cs) b now t [] distinct forms sounds known follows stale k = absurd cc
  calls_sound (Takes effects numbers ∷ cs) b now t (e ∷ events) distinct forms sounds known follows stale k =
      let parts = and_parts (belongs o.session e) (list_all (belongs o.session) events) known in
      let first : record { numbers = numbers; effects = effects } ≡ entry_of o.session now t e = cc in
      let rest : flat_map entry_taken cs ≡ entries_from o.session (now + 1) (after_session_event o.session now t e) events = cc in
      let same : effects_of o.session t (items_of o.session now t e) ≡ effects = sym (ap (λ (x : Entry). x.effects) first) in
      let given : Gives b (in_parts effects) (after_session_event o.session now t e) =
      subst (λ (es : List Effect). Gives b (in_parts es) (after_session_event o.session now t e)) same (event_gives now t e b forms sounds parts.0 k) in (
        (sound_there b t k, stale),
        (
          given.0,
          calls_sound cs (after_event o b effects numbers) (now + 1) (after_session_event o.session now t e) events distinct (event_going o.session now t e forms) (event_sound o.session now t e parts.0 sounds) parts.1 rest
              (stale_call o b (Takes effects numbers) stale) (told b effects numbers (after_session_event o.session now t e) k.settled given.1),
        ),
      )
  calls_sound (Puts p ∷ cs) b now t events distinct forms sounds known follows stale k = ((sound_there b t k, stale), (tt, calls_sound cs (after_call o b (Puts p)) now t events distinct forms sounds known follows (stale_call o b (Puts p) stale) (after_other b (Puts p) t distinct tt k)))
  calls_sound (Stops ticket ∷ cs) b now t events distinct forms sounds known follows stale k = ((sound_there b t k, stale), (tt, calls_sound cs (after_call o b (Stops ticket)) now t events distinct forms sounds known follows (stale_call o b (Stops ticket) stale) (after_other b (Stops ticket) t distinct tt k)))
  calls_sound (Nexts conn ∷ cs) b now t events distinct forms sounds known follows stale k = ((sound_there b t k, stale), (tt, calls_sound cs (after_call o b (Nexts conn)) now t events distinct forms sounds known follows (stale_call o b (Nexts conn) stale) (after_other b (Nexts conn) t distinct tt k)))
  calls_sound (Writes conn ∷ cs) b now t events distinct forms sounds known follows stale k = ((sound_there b t k, stale), (tt, calls_sound cs (after_call o b (Writes conn)) now t events distinct forms sounds known follows (stale_call o b (Writes conn) stale) (after_other b (Writes conn) t distinct tt k)))
  calls_sound (Hears conn exp_stat_sn tag ∷ cs) b now t events distinct forms sounds known follows stale k =
      ((sound_there b t k, stale), (tt, calls_sound cs (after_call o b (Hears conn exp_stat_sn tag)) now t events distinct forms sounds known follows (stale_call o b (Hears conn exp_stat_sn tag) stale) (after_other b (Hears conn exp_stat_sn tag) t distinct tt k)))
  calls_sound (Joins conn stat_sn ∷ cs) b now t events distinct forms sounds known follows stale k = ((sound_there b t k, stale), (tt, calls_sound cs (after_call o b (Joins conn stat_sn)) now t events distinct forms sounds known follows (stale_call o b (Joins conn stat_sn) stale) (after_other b (Joins conn stat_sn) t distinct tt k)))
  calls_sound (Loses conn ∷ cs) b now t events distinct forms sounds known follows stale k = ((sound_there b t k, stale), (tt, calls_sound cs (after_call o b (Loses conn)) now t events distinct forms sounds known follows (stale_call o b (Loses conn) stale) (after_other b (Loses conn) t distinct tt k)))
  calls_sound (Clears unit ∷ cs) b now t events distinct forms sounds known follows stale k = ((sound_there b t k, stale), (tt, calls_sound cs (after_call o b (Clears unit)) now t events distinct forms sounds known follows (stale_call o b (Clears unit) stale) (after_other b (Clears unit) t distinct tt k)))

-- what follows a session is sound throughout
pub follows_sound : (o : Opening) (calls : List Call) → FollowsKnown o calls → are_distinct o.session.conns ≡ true → SoundFrom o (opened o) calls
follows_sound o calls follows distinct =
    calls_sound o calls (opened o) 0 [] follows.events distinct tt tt follows.known follows.follows tt (record { firm = firm_opened o; settled = tt; follows = record { lives = refl; homes = refl } })
