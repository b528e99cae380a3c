-- The end of a call: what the steps have released is what the rules need no more.
use Rattle.std.proofs.Common.{◌≡◌, ℕ, ◌+◌, ◌<◌, ◌≤◌, ◌==◌, ◌&&◌, ◌||◌, ⊎_elim, cond, nat_lt, Bool, true, false, List, [], ◌∷◌, ◌++◌, length, map, count_by, filter, Option, Some, None, is_some, refl, ap, sym, subst, ◌∙◌, arith, lt-ltb, not}
use Rattle.std.specs.List.{list_any}
use Rattle.std.proofs.lemmas.Bool.{false≢true, eq-eqb, ltb-true, ltb-false, or_right}
use Rattle.std.proofs.lemmas.List.Elements.{filter-append}
use Rattle.iscsi_rules.specs.rules.Trace.{Command as RulesCommand, entered, has, leaves_ticket}
use Rattle.iscsi_rules.proofs.general.ElementLemmas.{In, append-in_first, append-in_second}
use Rattle.iscsi_rules.proofs.general.ListLemmas.{filter-map, filter-swap, fewer_counted, any_filter}
use Rattle.iscsi_outbox_rules.specs.promises.Scope.{nth}
use Rattle.iscsi_outbox_rules.specs.rules.Boxes.{Answer, Link, Outgoing}
use Rattle.iscsi_outbox_rules.specs.rules.Run.{new_link}
use Rattle.iscsi_outbox_rules.specs.rules.Words.{is_running}
use Rattle.iscsi_outbox_law.specs.private.Commands.{link_in}
use Rattle.iscsi_outbox_law.specs.private.Pairs.{PairsOf}
use Rattle.iscsi_outbox_law.proofs.general.PairLemmas.{each-filter, each-weaken, pairs-weaken}
use Rattle.iscsi_outbox_law.proofs.general.PlaceLemmas.{AreApart as LinksApart, conns_of}
use Rattle.iscsi_outbox_steps.specs.Steps.{is_running_ticket}
use Rattle.iscsi_requests.specs.Conns.{of_conn}
use Rattle.iscsi_requests.specs.Cookies as cookies
use Rattle.iscsi_requests.specs.Cookies.{Cookies, uses_at}
use Rattle.iscsi_requests.specs.declared.replies.WaitingReply.{WaitingReply}
use Rattle.iscsi_ffi_commands.specs.declared.command.Command.{Command}
use Rattle.iscsi_ffi_commands.specs.Commands.{has_ticket}
use Rattle.iscsi_ffi_rules.specs.declared.action.Action.{Action}
use Rattle.iscsi_ffi_rules.specs.promises.Words.{is_forget}
use Rattle.iscsi_ffi_rules.specs.rules.Needs.{is_about, is_live as is_live_event, is_needed, is_noted, is_of_event, is_ticket_of, left_to_write, noted_unwritten, noted_waiting, runs, waits}
use Rattle.iscsi_ffi_rules.specs.rules.Run.{parted, parted_handed, parted_waiting}
use Rattle.iscsi_ffi_rules.specs.rules.Sides.{Noted, Side}
use Rattle.iscsi_ffi_steps.specs.State.{State}
use Rattle.iscsi_ffi_law.specs.Alike.{AreForgets}
use Rattle.iscsi_ffi_law.specs.Names.{AreNoted, Name, Note, asked_of, note_places, noted_of, place_named}
use Rattle.iscsi_ffi_law.specs.Parts.{AreCommands, AreCounted, AreNotesOn, IsAbout, IsAnswered, IsAtEvent, IsCommand, IsConn, IsKnownOut, IsNamedEvent, IsNote, IsOfCommand, IsOneUse, IsOfReply, IsRequest, IsUndue, is_named, IsLiveNamed, noted_in}
use Rattle.iscsi_ffi_law.specs.Stands.{AreRequests}
use Rattle.iscsi_ffi_law.specs.Uses.{count_commands, count_replies, is_place, is_used, uses_of}
use Rattle.iscsi_ffi_law.proofs.commands.Commands.{commands_needed}
use Rattle.iscsi_ffi_law.proofs.own_pdus.Flags.{flag_of, handed_flags, is_used_note, is_used_place, unused_flag, used_flag, waiting_flags}
use Rattle.iscsi_ffi_law.proofs.requests.Kept.{apart_used, count_used, each_place, filter_all, filter_members, filter_nothing, is_named_used, named_used, used_named}
use Rattle.iscsi_ffi_law.proofs.general.Lists.{lists_at}
use Rattle.iscsi_ffi_law.proofs.general.Members.{each_in, find_in, in_any, in_counted, in_each, at_any}
use Rattle.iscsi_ffi_law.proofs.requests.NameLemmas.{Named, found_named}
use Rattle.iscsi_ffi_law.proofs.requests.Needs.{is_needed_used}
use Rattle.iscsi_ffi_law.proofs.own_pdus.NotePlaces.{notes_whole}
use Rattle.iscsi_ffi_law.proofs.own_pdus.Notes.{HasFlags, all_left, parted_needed}
use Rattle.iscsi_ffi_law.proofs.requests.Replies.{AnswersIt, HaveConns, answers_it, at_sent, is_part_of, is_reply_to, queued_counted, undue_counted, waits_counted}

-- what is left of a state where all uses that ended are taken off
abbrev pub left_of : State → Cookies → List Bool → List Bool → State
left_of s v awake over = record s { cookies = v; commands = record s.commands { items = filter (λ (c : Command). is_used_place s c.request) s.commands.items }; awake = awake; over = over }

pub record IsReleased (s : State) (v : Cookies) (forgets : List Action) : Type 0 where
  pub counted : AreCounted v
  pub uses : (place : ℕ) → uses_at place v ≡ uses_of place s
  pub kept : (place cookie : ℕ) → count_by (λ (q : cookies.Request). q.place == place && q.cookie == cookie) v.requests
      ≡ cond (is_used_place s place) (count_by (λ (q : cookies.Request). q.place == place && q.cookie == cookie) s.cookies.requests) 0
  pub are : AreForgets forgets
  pub words : (word : ℕ) → count_by (is_forget word) forgets + count_by (λ (q : cookies.Request). q.cookie == word) v.requests ≡ count_by (λ (q : cookies.Request). q.cookie == word) s.cookies.requests

module _ (names : List Name) (notes : List Note) (pending : ℕ → ℕ) (gone : ℕ → List (Option ℕ)) (s : State) (r : Side)
    (a : AreRequests names notes pending gone s r) (h : HaveConns names notes gone s r) (apart_links : LinksApart (conns_of r.both.box.links))
    (running : (ticket : ℕ) → is_running_ticket ticket s.outbox ≡ is_running r.both.box ticket) where
  abbrev used : ℕ → Bool
  used = is_used_place s

  abbrev names' : List Name
  names' = filter (λ (n : Name). is_used_place s n.place) names

  abbrev notes' : List Note
  notes' = filter (λ (n : Note). is_used_place s n.place) notes

  commands_are : (n : Name) → In n names → (is_live_event n.event r.both.trace || runs n.event r.both.trace r.both.box) ≡ nat_lt 0 (count_commands n.place s)
  commands_are n there = commands_needed names notes r s.commands.items a.apart a.commands s refl running n there

  pub needed_is : (n : Name) → In n names → is_needed r (asked_of n) ≡ is_used_place s n.place
  needed_is n there = is_needed_used names notes gone s r h n there (each_in (IsRequest s r.both.trace) names n there a.named) (commands_are n there)

  pub asked_left : map asked_of (filter (λ (n : Name). is_used_place s n.place) names) ≡ filter (is_needed r) r.asked
  asked_left =
      ap (map asked_of) (sym (filter_members (λ (n : Name). is_needed r (asked_of n)) (λ (n : Name). is_used_place s n.place) names needed_is))
      ∙ sym (filter-map (is_needed r) asked_of names) ∙ ap (filter (is_needed r)) a.asked

  -- of a kind those that the rules keep
  kind_left : (left : Link → ℕ) (kind : Note → Bool) (ns : List Noted) → map noted_of (filter kind notes) ≡ ns → ((p : ℕ) → p < length r.both.box.links → HasFlags left (is_used_note s) (filter kind notes) (link_in r.both.box.links p))
      → map noted_of (filter kind (filter (λ (n : Note). is_used_place s n.place) notes)) ≡ (parted left r.both.box.links ns).needed
  kind_left left kind ns are flags =
      ap (map noted_of) (filter-swap kind (λ (n : Note). is_used_place s n.place) notes)
      ∙ sym (
      ap (λ ms. (parted left r.both.box.links ms).needed) (sym are)
      ∙ parted_needed left (is_used_note s) r.both.box.links (filter kind notes) apart_links (each_place _ r.both.box.links (new_link 0) flags)
      ∙ ap (map noted_of) (all_left left (is_used_note s) r.both.box.links (filter kind notes)
      (each-filter (λ (n : Note). list_any (λ (l : Link). l.conn == n.conn) r.both.box.links ≡ true) kind notes
      (each-weaken (IsNote s r.both.box.links) (λ (n : Note). list_any (λ (l : Link). l.conn == n.conn) r.both.box.links ≡ true) notes (λ n q. q.home) a.noted_apart))))

  pub noted_left : AreNoted (filter (λ (n : Note). is_used_place s n.place) notes) (parted_waiting r).needed (parted_handed r).needed
  noted_left = record {
    waiting_are = kind_left noted_waiting (λ (n : Note). n.waits) r.noted a.noted.waiting_are (waiting_flags names notes gone s r h apart_links a.noted_apart a.commands);
    handed_are = kind_left noted_unwritten (λ (n : Note). not n.waits) r.handed_notes a.noted.handed_are (handed_flags names notes gone s r h apart_links a.noted_apart a.commands);
  }

  -- ---- what is used still

  some_used : (place : ℕ) → 1 ≤ uses_of place s → is_used_place s place ≡ true
  some_used place some = lt-ltb 0 (uses_of place s) (omega (arith, some))

  of_replies : (place : ℕ) → 1 ≤ count_replies place s → is_used_place s place ≡ true
  of_replies place some = some_used place (omega (arith, some))

  of_live : (n : Name) → In n names → is_live_event n.event r.both.trace ≡ true → is_used_place s n.place ≡ true
  of_live n there lives =
      let is : nat_lt 0 (count_commands n.place s) ≡ true = sym (commands_are n there) ∙ ap (λ v. v || runs n.event r.both.trace r.both.box) lives in
      let some : 0 < count_commands n.place s = ltb-true 0 (count_commands n.place s) is in
      some_used n.place (omega (arith, some))

  still_named : (event place : ℕ) → place_named names event ≡ Some place → is_used_place s place ≡ true → is_some (place_named (filter (λ (n : Name). is_used_place s n.place) names) event) ≡ true
  still_named event place named is = is_named_used (is_used_place s) names notes a.apart event place named ∙ is

  some_named : (event : ℕ) → is_some (place_named names event) ≡ true → (place : ℕ) × (place_named names event ≡ Some place)
  some_named event some = by_place (place_named names event) refl some
    where
      by_place : (x : Option ℕ) → place_named names event ≡ x → is_some x ≡ true → (place : ℕ) × (place_named names event ≡ Some place)
      by_place None is k = absurd (false≢true k)
      by_place (Some p) is k = (p, is)

  live_left : (d : RulesCommand) → In d (entered r.both.trace) → has (leaves_ticket d.ticket) r.both.trace ≡ false → is_named names d ≡ true → is_named (filter (λ (n : Name). is_used_place s n.place) names) d ≡ true
  live_left d there lives named =
      let at = some_named d.arrival.event named in
      let f : Named names d.arrival.event at.0 = found_named names d.arrival.event at.0 at.1 in
      let alive : is_live_event f.name.event r.both.trace ≡ true
      = any_filter (λ (x : RulesCommand). is_of_event f.name.event x.arrival) (λ (x : RulesCommand). not (has (leaves_ticket x.ticket) r.both.trace)) (entered r.both.trace)
      ∙ in_any (λ (x : RulesCommand). not (has (leaves_ticket x.ticket) r.both.trace) && is_of_event f.name.event x.arrival) (entered r.both.trace) d there
      (ap (λ v. not v && is_of_event f.name.event d.arrival) lives ∙ eq-eqb d.arrival.event f.name.event (sym f.event_is)) in
      still_named d.arrival.event at.0 at.1 (ap (is_used_place s) (sym f.place_is) ∙ of_live f.name f.there alive)

  -- of a reply that waits
  reply_named : (sent : Option ℕ) → ((event : ℕ) → is_reply_to event r.answers sent ≡ true → (n : Name) → In n names → n.event ≡ event → 1 ≤ count_replies n.place s)
      → IsOfReply names r.answers sent → IsOfReply (filter (λ (n : Name). is_used_place s n.place) names) r.answers sent
  reply_named None counted k = tt
  reply_named (Some place) counted k = by_event (nth place r.answers) refl k
    where
      by_event : (x : Option ℕ) → nth place r.answers ≡ x → IsNamedEvent names x → IsNamedEvent (filter (λ (n : Name). is_used_place s n.place) names) (nth place r.answers)
      by_event None is named = absurd named
      by_event (Some event) is named =
          let at = some_named event named in
          let f : Named names event at.0 = found_named names event at.0 at.1 in
          let some : 1 ≤ count_replies f.name.place s = counted event (at_sent event r.answers (Some place) place refl is) f.name f.there f.event_is in
          subst (IsNamedEvent (filter (λ (n : Name). is_used_place s n.place) names)) (sym is) (still_named event at.0 at.1 (ap (is_used_place s) (sym f.place_is) ∙ of_replies f.name.place some))

  known_left : (p : ℕ) → p < length r.both.box.links → (out : Outgoing) → In out (link_in r.both.box.links p).queue → IsKnownOut names r.both.trace r.answers out
      → IsKnownOut (filter (λ (n : Name). is_used_place s n.place) names) r.both.trace r.answers out
  known_left p within out there k = record {
    of_reply = reply_named out.sent (λ event is n in_names same.
        queued_counted names notes gone s r h n in_names p within (in_any (λ (o : Outgoing). is_reply_to n.event r.answers o.sent) (link_in r.both.box.links p).queue out there (ap (λ e. is_reply_to e r.answers out.sent) same ∙ is))) k.of_reply;
    of_command = by_ticket out.ticket refl k.of_command;
    same = k.same;
    own = k.own;
  }
    where
      by_ticket : (x : Option ℕ) → out.ticket ≡ x → IsOfCommand names r.both.trace x → IsOfCommand (filter (λ (n : Name). is_used_place s n.place) names) r.both.trace x
      by_ticket None is c = tt
      by_ticket (Some ticket) is c =
          let at = some_named c.0.arrival.event c.2 in
          let f : Named names c.0.arrival.event at.0 = found_named names c.0.arrival.event at.0 at.1 in
          let found = find_in (λ (e : RulesCommand). e.ticket == ticket) (entered r.both.trace) c.0 c.1 in
          let of_it : is_ticket_of f.name.event r.both.trace ticket ≡ true = in_any (λ (d : RulesCommand). is_of_event f.name.event d.arrival && d.ticket == ticket) (entered r.both.trace) c.0 found.0
          (ap (λ v. v && (c.0.ticket == ticket)) (eq-eqb c.0.arrival.event f.name.event (sym f.event_is)) ∙ found.1) in
          let about : is_about f.name.event r out ≡ true = or_right (is_reply_to f.name.event r.answers out.sent) (is_part_of f.name.event r.both.trace out.ticket) (ap (is_part_of f.name.event r.both.trace) is ∙ of_it) in
          let waiting : waits f.name.event r ≡ true = ap (λ v. v || list_any (λ (x : Answer). is_about f.name.event r x.out) r.both.box.undue)
          (at_any (λ (l : Link). list_any (is_about f.name.event r) l.queue) r.both.box.links p (new_link 0) within (in_any (is_about f.name.event r) (link_in r.both.box.links p).queue out there about)) in
          let is_still : is_used_place s f.name.place ≡ true = ⊎_elim (λ some. of_replies f.name.place some) (λ lives. of_live f.name f.there lives) (waits_counted names notes gone s r h f.name f.there waiting) in
          (c.0, c.1, still_named c.0.arrival.event at.0 at.1 (ap (is_used_place s) (sym f.place_is) ∙ is_still))

  answered_left : (p : ℕ) → (x : WaitingReply) → In x (of_conn p s.replies.waiting) → IsAnswered names r.answers x.log_place x.request → IsAnswered (filter (λ (n : Name). is_used_place s n.place) names) r.answers x.log_place x.request
  answered_left p x there k =
      let at : AnswersIt names r.answers x.log_place x.request = answers_it names r.answers x.log_place x.request k in
      let some : 1 ≤ count_by (λ (y : WaitingReply). y.request == x.request) (of_conn p s.replies.waiting) = in_counted (λ (y : WaitingReply). y.request == x.request) (of_conn p s.replies.waiting) x there (eq-eqb x.request x.request refl) in
      let is : is_used_place s x.request ≡ true = of_replies x.request (omega (arith, some, lists_at (λ (y : WaitingReply). y.request == x.request) s.replies.waiting p)) in
      subst (IsAtEvent (filter (λ (n : Name). is_used_place s n.place) names) x.request) (sym at.is) (named_used (is_used_place s) names notes a.apart at.event x.request at.named is)

  kind_on : (conn : ℕ) (kind : Note → Bool) (over xs : List (Option ℕ)) → note_places conn (filter kind notes) ≡ over ++ xs → ((x : Option ℕ) → In x over → flag_of names notes gone s r h apart_links a.noted_apart a.commands x ≡ false)
      → ((x : Option ℕ) → In x xs → flag_of names notes gone s r h apart_links a.noted_apart a.commands x ≡ true) → note_places conn (filter kind (filter (λ (n : Note). is_used_place s n.place) notes)) ≡ xs
  kind_on conn kind over xs are unused used' =
      ap (note_places conn) (filter-swap kind (λ (n : Note). is_used_place s n.place) notes)
      ∙ ap (map (λ (n : Note). Some n.place)) (filter-swap (λ (n : Note). n.conn == conn) (λ (n : Note). is_used_place s n.place) (filter kind notes))
      ∙ sym (filter-map (flag_of names notes gone s r h apart_links a.noted_apart a.commands) (λ (n : Note). Some n.place) (filter (λ (n : Note). n.conn == conn) (filter kind notes)))
      ∙ ap (filter (flag_of names notes gone s r h apart_links a.noted_apart a.commands)) are ∙ filter-append (flag_of names notes gone s r h apart_links a.noted_apart a.commands) over xs
      ∙ ap (λ ys. ys ++ filter (flag_of names notes gone s r h apart_links a.noted_apart a.commands) xs) (filter_nothing (flag_of names notes gone s r h apart_links a.noted_apart a.commands) over unused) ∙ filter_all (flag_of names notes gone s r h apart_links a.noted_apart a.commands) xs used'

  notes_on : (p : ℕ) → p < length r.both.box.links
      → AreNotesOn (filter (λ (n : Note). is_used_place s n.place) notes) (link_in r.both.box.links p).conn [] (of_conn p s.noted.handed) (noted_in (of_conn p s.unwritten.handed) (left_to_write (link_in r.both.box.links p)))
  notes_on p within =
      let c : IsConn names notes (gone p) s r p (link_in r.both.box.links p) = a.conns p within in
      let unwritten : List (Option ℕ) = noted_in (of_conn p s.unwritten.handed) (left_to_write (link_in r.both.box.links p)) in
      let over = unused_flag names notes gone s r h apart_links a.noted_apart a.commands p within in
      let still = used_flag names notes gone s r h apart_links a.noted_apart a.commands p within in
      notes_whole (filter (λ (n : Note). is_used_place s n.place) notes) (link_in r.both.box.links p).conn (of_conn p s.noted.handed) (noted_in (of_conn p s.unwritten.handed) (left_to_write (link_in r.both.box.links p)))
      (kind_on (link_in r.both.box.links p).conn (λ (n : Note). n.waits) c.noted.gone_waiting (of_conn p s.noted.handed) c.noted.waiting_are
      (λ x k. over x (subst (In x) (sym c.noted.gone_are) (append-in_second c.noted.gone_handed c.noted.gone_waiting x k))) (λ x k. still x (append-in_second unwritten (of_conn p s.noted.handed) x k)))
      (kind_on (link_in r.both.box.links p).conn (λ (n : Note). not n.waits) c.noted.gone_handed unwritten c.noted.handed_are
      (λ x k. over x (subst (In x) (sym c.noted.gone_are) (append-in_first c.noted.gone_handed c.noted.gone_waiting x k))) (λ x k. still x (append-in_first unwritten (of_conn p s.noted.handed) x k)))

  -- ---- commands

  pairs_left : (items : List Command) (ds : List RulesCommand) → PairsOf (IsCommand names r) items ds
      → PairsOf (IsCommand (filter (λ (n : Name). is_used_place s n.place) names) r) (filter (λ (c : Command). is_used_place s c.request) items) (filter (is_named (filter (λ (n : Name). is_used_place s n.place) names)) ds)
  pairs_left [] [] pairs = tt
  pairs_left [] (d ∷ ds) pairs = absurd pairs
  pairs_left (c ∷ items) [] pairs = absurd pairs
  pairs_left (c ∷ items) (d ∷ ds) pairs =
      subst (λ v. PairsOf (IsCommand names'' r) (cond (is_used_place s c.request) (c ∷ filter (λ (x : Command). is_used_place s x.request) items) (filter (λ (x : Command). is_used_place s x.request) items)) (cond v (d ∷ filter (is_named names'') ds) (filter (is_named names'') ds)))
      (sym (is_named_used (is_used_place s) names notes a.apart d.arrival.event c.request pairs.0.request))
      (either (is_used_place s c.request) refl (pairs_left items ds pairs.1))
    where
      names'' : List Name
      names'' = filter (λ (n : Name). is_used_place s n.place) names

      either : (v : Bool) → is_used_place s c.request ≡ v → PairsOf (IsCommand (filter (λ (n : Name). is_used_place s n.place) names) r) (filter (λ (x : Command). is_used_place s x.request) items) (filter (is_named (filter (λ (n : Name). is_used_place s n.place) names)) ds)
          → PairsOf (IsCommand (filter (λ (n : Name). is_used_place s n.place) names) r) (cond v (c ∷ filter (λ (x : Command). is_used_place s x.request) items) (filter (λ (x : Command). is_used_place s x.request) items)) (cond v (d ∷ filter (is_named (filter (λ (n : Name). is_used_place s n.place) names)) ds) (filter (is_named (filter (λ (n : Name). is_used_place s n.place) names)) ds))
      either false is rest = rest
      either true is rest = (
        record {
          ticket = pairs.0.ticket;
          unit = pairs.0.unit;
          attr = pairs.0.attr;
          request = named_used (is_used_place s) names notes a.apart d.arrival.event c.request pairs.0.request is;
          live = pairs.0.live;
          going = pairs.0.going;
          marked = pairs.0.marked;
          freed = pairs.0.freed;
        },
        rest,
      )

  -- those that are named still are named now
  named_twice : (ds : List RulesCommand) → filter (is_named (filter (λ (n : Name). is_used_place s n.place) names)) (filter (is_named names) ds) ≡ filter (is_named (filter (λ (n : Name). is_used_place s n.place) names)) ds
  named_twice [] = refl
  named_twice (d ∷ ds) = either (named_twice ds) (is_named names d) refl
    where
      names'' : List Name
      names'' = filter (λ (n : Name). is_used_place s n.place) names

      unnamed : is_named names d ≡ false → is_named (filter (λ (n : Name). is_used_place s n.place) names) d ≡ false
      unnamed none = by_place (place_named (filter (λ (n : Name). is_used_place s n.place) names) d.arrival.event) refl
        where
          by_place : (x : Option ℕ) → place_named (filter (λ (n : Name). is_used_place s n.place) names) d.arrival.event ≡ x → is_some x ≡ false
          by_place None found = refl
          by_place (Some p) found = absurd (false≢true (sym none ∙ ap is_some (used_named (is_used_place s) names notes a.apart d.arrival.event p found).0))

      either : filter (is_named (filter (λ (n : Name). is_used_place s n.place) names)) (filter (is_named names) ds) ≡ filter (is_named (filter (λ (n : Name). is_used_place s n.place) names)) ds → (v : Bool) → is_named names d ≡ v
          → filter (is_named (filter (λ (n : Name). is_used_place s n.place) names)) (cond v (d ∷ filter (is_named names) ds) (filter (is_named names) ds)) ≡ filter (is_named (filter (λ (n : Name). is_used_place s n.place) names)) (d ∷ ds)
      either later true is = ap (λ xs. cond (is_named names'' d) (d ∷ xs) xs) later
      either later false is = later ∙ ap (λ v. cond v (d ∷ filter (is_named names'') ds) (filter (is_named names'') ds)) (sym (unnamed is))

  commands_left : PairsOf (IsCommand (filter (λ (n : Name). is_used_place s n.place) names) r) (filter (λ (c : Command). is_used_place s c.request) s.commands.items)
      (filter (is_named (filter (λ (n : Name). is_used_place s n.place) names)) (entered r.both.trace))
  commands_left = subst (PairsOf (IsCommand (filter (λ (n : Name). is_used_place s n.place) names) r) (filter (λ (c : Command). is_used_place s c.request) s.commands.items)) (named_twice (entered r.both.trace))
      (pairs_left s.commands.items (filter (is_named names) (entered r.both.trace)) a.commands)

  pub uses_left : (place : ℕ) (v : Cookies) (awake over : List Bool) → uses_of place (left_of s v awake over) ≡ uses_of place s
  uses_left place v awake over = by_use (is_used_place s place) refl
    where
      left : count_commands place (left_of s v awake over) ≡ cond (is_used_place s place) (count_commands place s) 0
      left = count_used (λ (c : Command). c.request) (is_used_place s) (is_used s.outbox) place s.commands.items

      by_use : (w : Bool) → is_used_place s place ≡ w → uses_of place (left_of s v awake over) ≡ uses_of place s
      by_use true is = let same : count_commands place (left_of s v awake over) ≡ count_commands place s = left ∙ ap (λ w. cond w (count_commands place s) 0) is in omega (arith, same)
      by_use false is =
          let none : count_commands place (left_of s v awake over) ≡ 0 = left ∙ ap (λ w. cond w (count_commands place s) 0) is in
          let unused : uses_of place s ≤ 0 = ltb-false 0 (uses_of place s) is in
          omega (arith, none, unused)

  -- ---- what holds then

  -- the rules' side at the end of a call
  abbrev pub side_left : List ℕ → List ℕ → Side
  side_left awake over = record r { awake = awake; over = over; asked = filter (is_needed r) r.asked; noted = (parted_waiting r).needed; handed_notes = (parted_handed r).needed }

  pub requests_left : (v : Cookies) (forgets : List Action) → IsReleased s v forgets → (awake over : List Bool) (awake_by_rules over_by_rules : List ℕ)
      → AreRequests (filter (λ (n : Name). is_used_place s n.place) names) (filter (λ (n : Note). is_used_place s n.place) notes) (λ place. 0) (λ p. []) (left_of s v awake over) (side_left awake_by_rules over_by_rules)
  requests_left v forgets rel awake over awake' over' = record {
    asked = asked_left;
    noted = noted_left;
    apart = apart_used (is_used_place s) names notes a.apart;
    kept = λ place cookie.
        rel.kept place cookie ∙ ap (λ n. cond (is_used_place s place) n 0) (a.kept place cookie)
        ∙ parts (is_used_place s place) (count_by (λ (n : Name). n.place == place && n.cookie == cookie) names) (count_by (λ (n : Note). n.place == place && n.cookie == cookie) notes)
        ∙ ap (λ n. n + cond (is_used_place s place) (count_by (λ (m : Note). m.place == place && m.cookie == cookie) notes) 0) (sym (count_used (λ (n : Name). n.place) (is_used_place s) (λ (n : Name). n.cookie == cookie) place names))
        ∙ ap (λ n. count_by (λ (m : Name). m.place == place && m.cookie == cookie) (filter (λ (m : Name). is_used_place s m.place) names) + n) (sym (count_used (λ (n : Note). n.place) (is_used_place s) (λ (n : Note). n.cookie == cookie) place notes));
    counted = rel.counted;
    uses = λ place. let e = uses_left place v awake over in omega (arith, e, rel.uses place);
    named = each-filter (IsRequest (left_of s v awake over) r.both.trace) (λ (n : Name). is_used_place s n.place) names
        (each-weaken (IsRequest s r.both.trace) (IsRequest (left_of s v awake over) r.both.trace) names (λ n q. record { held = q.held; waiting = q.waiting }) a.named);
    noted_apart = each-filter (IsNote (left_of s v awake over) r.both.box.links) (λ (n : Note). is_used_place s n.place) notes
        (each-weaken (IsNote s r.both.box.links) (IsNote (left_of s v awake over) r.both.box.links) notes (λ n q. record { held = q.held; waiting = q.waiting; home = q.home }) a.noted_apart);
    tickets = a.tickets;
    commands = subst_commands;
    live_named = in_each (IsLiveNamed (filter (λ (n : Name). is_used_place s n.place) names) r.both.trace) (entered r.both.trace)
        (λ d there lives. live_left d there lives (each_in (IsLiveNamed names r.both.trace) (entered r.both.trace) d there a.live_named lives));
    one_use = each-filter (IsOneUse s.outbox) (λ (c : Command). is_used_place s c.request) s.commands.items a.one_use;
    numbered = λ ticket. omega (arith, a.numbered ticket, fewer_counted (has_ticket ticket) (λ (c : Command). is_used_place s c.request) s.commands.items);
    answers = a.answers;
    once = a.once;
    last = a.last;
    conns = λ p within.
        let c : IsConn names notes (gone p) s r p (link_in r.both.box.links p) = a.conns p within in
        record {
          replies = in_each (λ (x : WaitingReply). IsAnswered (filter (λ (n : Name). is_used_place s n.place) names) r.answers x.log_place x.request) (of_conn p s.replies.waiting)
              (λ x there. answered_left p x there (each_in (λ (y : WaitingReply). IsAnswered names r.answers y.log_place y.request) (of_conn p s.replies.waiting) x there c.replies));
          queued = record {
            sent = c.queued.sent;
            noting = c.queued.noting;
            known = in_each (IsKnownOut (filter (λ (n : Name). is_used_place s n.place) names) r.both.trace r.answers) (link_in r.both.box.links p).queue
                (λ out there. known_left p within out there (each_in (IsKnownOut names r.both.trace r.answers) (link_in r.both.box.links p).queue out there c.queued.known));
            covered = c.queued.covered;
          };
          written = pairs-weaken (IsAbout names notes r (link_in r.both.box.links p).conn)
              (IsAbout (filter (λ (n : Name). is_used_place s n.place) names) (filter (λ (n : Note). is_used_place s n.place) notes) (side_left awake' over') (link_in r.both.box.links p).conn) (of_conn p s.unwritten.handed) (left_to_write (link_in r.both.box.links p))
              (λ x y k. record {
                named = each-filter (λ (n : Name). is_about n.event r y.out ≡ is_place n.place x) (λ (n : Name). is_used_place s n.place) names k.named;
                noted = each-filter (λ (n : Note). is_place n.place x ≡ true → (is_noted y.out.pdu ≡ true) × (n.conn ≡ (link_in r.both.box.links p).conn)) (λ (n : Note). is_used_place s n.place) notes k.noted;
              }) c.written;
          noted = notes_on p within;
        };
    undue = in_each (IsUndue (filter (λ (n : Name). is_used_place s n.place) names) r.answers) r.both.box.undue (λ u there.
        let k : IsUndue names r.answers u = each_in (IsUndue names r.answers) r.both.box.undue u there a.undue in
        record {
          own = k.own;
          reply = k.reply;
          ticket = k.ticket;
          of_reply = reply_named u.out.sent (λ event is n in_names same.
              undue_counted names notes gone s r h n in_names (in_any (λ (x : Answer). is_reply_to n.event r.answers x.out.sent) r.both.box.undue u there (ap (λ e. is_reply_to e r.answers u.out.sent) same ∙ is))) k.of_reply;
        });
  }
    where
      parts : (w : Bool) (x y : ℕ) → cond w (x + y) 0 ≡ cond w x 0 + cond w y 0
      parts true x y = refl
      parts false x y = refl

      subst_commands : AreCommands (filter (λ (n : Name). is_used_place s n.place) names) (side_left awake' over') (filter (λ (c : Command). is_used_place s c.request) s.commands.items)
      subst_commands = pairs-weaken (IsCommand (filter (λ (n : Name). is_used_place s n.place) names) r) (IsCommand (filter (λ (n : Name). is_used_place s n.place) names) (side_left awake' over'))
          (filter (λ (c : Command). is_used_place s c.request) s.commands.items) (filter (is_named (filter (λ (n : Name). is_used_place s n.place) names)) (entered r.both.trace))
          (λ c d k. record { ticket = k.ticket; unit = k.unit; attr = k.attr; request = k.request; live = k.live; going = k.going; marked = k.marked; freed = k.freed }) commands_left
