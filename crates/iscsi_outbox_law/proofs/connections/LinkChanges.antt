-- One connection changes in what isn't handed out there, and doesn't wait there.
use Rattle.std.proofs.Common.{◌≡◌, ℕ, ◌+◌, ◌<◌, Bool, true, false, List, [], length, get_or, set, Option, Some, None, refl, ap, sym, subst, ◌∙◌, arith, ⊎_elim}
use Rattle.std.specs.List.{list_any}
use Rattle.std.proofs.lemmas.Bool.{cases_lt, cases_eq, lt-ltb, false≢true}
use Rattle.std.proofs.lemmas.List.{drop_all, get_or-set_same, get_or-set_other, length-set, map-set, set-get_or, get_or-map}
use Rattle.iscsi_arrivals.specs.declared.stamp.Stamp.{Stamp}
use Rattle.iscsi_arrivals.specs.Counts.{Counts}
use Rattle.iscsi_arrivals.specs.Stamps.{stamp_at, IsUpToLast}
use Rattle.iscsi_arrivals.specs.Standing.{StandsFor}
use Rattle.iscsi_outbox_rules.specs.rules.Calls.{Opening}
use Rattle.iscsi_outbox_rules.specs.rules.Boxes.{Task, Handed, Link, Box}
use Rattle.iscsi_outbox_rules.specs.rules.Words.{is_open, unarrived}
use Rattle.iscsi_outbox_rules.specs.rules.Handing.{fenced_handed}
use Rattle.iscsi_outbox_rules.specs.rules.Run.{new_link}
use Rattle.iscsi_outbox_state.specs.Waits.{Entry}
use Rattle.iscsi_outbox_steps.specs.declared.sent.Sent.{Sent}
use Rattle.iscsi_outbox_steps.specs.State.{State}
use Rattle.iscsi_tracked.specs.declared.command.Command.{Command}
use Rattle.iscsi_tracked.specs.Tracked.{Tracked}
use Rattle.iscsi_outbox_law.specs.private.Pairs.{PairsOf}
use Rattle.iscsi_outbox_law.specs.private.Links.{AreLinks, AreQueues, IsEntry, IsQueue}
use Rattle.iscsi_outbox_law.specs.private.Commands.{AreCommands, IsCommand, IsLastOut, IsOut, link_in, of_ticket}
use Rattle.iscsi_outbox_law.specs.private.Fences.{IsFence, IsLastFence}
use Rattle.iscsi_outbox_law.specs.private.Stands.{StandsWith}
use Rattle.iscsi_outbox_law.proofs.general.PairLemmas.{pairs-weaken, pairs-set, pairs-at, each-at, each-set}
use Rattle.iscsi_outbox_law.proofs.general.PlaceLemmas.{conns_of}

-- what was handed out stays, and so does its stamp; and no fenced answer isn't known to have arrived that was
pub record Moves (l m : Link) : Type 0 where
  pub conn : m.conn ≡ l.conn
  pub handed : m.handed ≡ l.handed
  pub stamps : (place : ℕ) → place < length l.handed → stamp_at m place ≡ stamp_at l place
  pub fence : (is_open l ≡ true → list_any fenced_handed (unarrived l) ≡ false) → is_open m ≡ true → list_any fenced_handed (unarrived m) ≡ false

pub stays : (l : Link) → Moves l l
stays l = record { conn = refl; handed = refl; stamps = λ place lt. refl; fence = λ none. none }

pub up_within : (test : Handed → Bool) (hs : List Handed) (place : ℕ) → IsUpToLast test hs (place + 1) → place < length hs
up_within test hs place up =
    ⊎_elim (λ lt. lt)
    (λ past. absurd (false≢true (sym (ap (list_any test) (drop_all place hs past)) ∙ up place ∙ lt-ltb place (place + 1) (omega arith))))
    (cases_lt place (length hs))

module _ (links : List Link) (p : ℕ) (m : Link) (within : p < length links) (mv : Moves (link_in links p) m) where
  pub each_moves : (n : ℕ) → Moves (link_in links n) (link_in (set links p m) n)
  each_moves n =
      ⊎_elim
      (λ same. subst (λ k. Moves (link_in links k) (link_in (set links p m) k)) (sym same) (subst (Moves (link_in links p)) (sym (get_or-set_same links p m (new_link 0) within)) mv))
      (λ apart. subst (Moves (link_in links n)) (sym (get_or-set_other links p n m (new_link 0) apart)) (stays (link_in links n)))
      (cases_eq n p)

  pub conns_same : conns_of (set links p m) ≡ conns_of links
  conns_same =
      map-set (λ (l : Link). l.conn) links p m ∙ ap (set (conns_of links) p) (mv.conn ∙ sym (get_or-map (λ (l : Link). l.conn) links p (new_link 0) 0 within))
      ∙ set-get_or (conns_of links) p 0

  pub links_set : (cids : List ℕ) (counts : List Counts) (c : Counts) → StandsFor c m → AreLinks cids counts links → AreLinks cids (set counts p c) (set links p m)
  links_set cids counts c st h = record { conns = conns_same ∙ h.conns; each = pairs-set StandsFor counts links p c m st h.each }

  -- ---- commands

  out_moved : (under : ℕ → Bool) (ticket n : ℕ) (out : Option Stamp) → IsOut under ticket (link_in links n) out → IsOut under ticket (link_in (set links p m) n) out
  out_moved under ticket n None h = h
  out_moved under ticket n (Some stamp) h =
      let k : IsLastOut ticket (link_in links n) stamp = h.1 in
      let moves : Moves (link_in links n) (link_in (set links p m) n) = each_moves n in (
        h.0,
        record {
          place = k.place;
          stamp = k.stamp ∙ sym (moves.stamps k.place (up_within (of_ticket ticket) (link_in links n).handed k.place k.last));
          last = subst (λ hs. IsUpToLast (of_ticket ticket) hs (k.place + 1)) (sym moves.handed) k.last;
        },
      )

  pub command_moved : (under : ℕ → Bool) (cids : List ℕ) (c : Command) (t : Task) → IsCommand under cids links c t → IsCommand under cids (set links p m) c t
  command_moved under cids c t h = record {
    ticket = h.ticket;
    conn = h.conn;
    unit = h.unit;
    tag = h.tag;
    numbered = h.numbered;
    phase = h.phase;
    out = out_moved under c.ticket c.conn c.last_out h.out;
  }

  pub commands_moved : (under : ℕ → Bool) (cids : List ℕ) (tasks : List Task) (v : Tracked) → AreCommands under cids links tasks v → AreCommands under cids (set links p m) tasks v
  commands_moved under cids tasks v h = pairs-weaken (IsCommand under cids links) (IsCommand under cids (set links p m)) v.commands _ (command_moved under cids) h

  -- ---- the fence

  pub fence_moved : (looks : Bool) (f : Option Sent) → IsFence looks links f → IsFence looks (set links p m) f
  fence_moved looks None h =
      each-set (λ (l : Link). list_any fenced_handed l.handed ≡ false) links p m
      (ap (list_any fenced_handed) mv.handed ∙ each-at (λ (l : Link). list_any fenced_handed l.handed ≡ false) links p (new_link 0) within h) h
  fence_moved looks (Some f) h =
      let k : IsLastFence looks links f = h in
      let moves : Moves (link_in links f.conn) (link_in (set links p m) f.conn) = each_moves f.conn in
      record {
        place = k.place;
        stamp = k.stamp ∙ sym (moves.stamps k.place (up_within fenced_handed (link_in links f.conn).handed k.place k.last));
        last = subst (λ hs. IsUpToLast fenced_handed hs (k.place + 1)) (sym moves.handed) k.last;
        conn = omega (arith, k.conn, length-set links p m);
        others = λ looking n lt apart is. (each_moves n).fence (k.others looking n (omega (arith, lt, length-set links p m)) apart) is;
      }

  -- ---- what waits there

  pub queue_as : (v : Tracked) (q : List Entry) (l : Link) (k : Link) → k.conn ≡ l.conn → k.queue ≡ l.queue → IsQueue v q l → IsQueue v q k
  queue_as v q l k conn queue h =
      subst (λ outs. PairsOf (IsEntry v k.conn) q outs) (sym queue) (subst (λ cid. PairsOf (IsEntry v cid) q l.queue) (sym conn) h)

  pub queues_set : (v : Tracked) (queues : List (List Entry)) (q : List Entry) → IsQueue v q m → AreQueues v queues links → AreQueues v (set queues p q) (set links p m)
  queues_set v queues q is h = pairs-set (IsQueue v) queues links p q m is h

  pub queues_same : (v : Tracked) (queues : List (List Entry)) → m.queue ≡ (link_in links p).queue → AreQueues v queues links → AreQueues v queues (set links p m)
  queues_same v queues same h =
      subst (λ qs. AreQueues v qs (set links p m)) (set-get_or queues p [])
      (queues_set v queues (get_or queues p []) (queue_as v (get_or queues p []) (link_in links p) m mv.conn same (pairs-at (IsQueue v) queues links p [] (new_link 0) within h)) h)

-- ---- all of it

pub stands_moved : (under : ℕ → Bool) (o : Opening) (s : State) (b : Box) (p : ℕ) (c : Counts) (m : Link) → StandsWith under o s b → p < length b.links → Moves (link_in b.links p) m → m.queue ≡ (link_in b.links p).queue → StandsFor c m
    → StandsWith under o (record s { links = set s.links p c }) (record b { links = set b.links p m })
stands_moved under o s b p c m h within mv queue st = record {
  sizes = record { limits = h.sizes.limits; waits = h.sizes.waits; answers = h.sizes.answers; commands = h.sizes.commands; trails = h.sizes.trails };
  numbers = record { time = h.numbers.time; exp = h.numbers.exp; max = h.numbers.max; shown = h.numbers.shown; reached = h.numbers.reached; sent = h.numbers.sent };
  links = links_set b.links p m within mv s.limits.cids s.links c st h.links;
  queues = queues_same b.links p m within mv s.tracked s.waits.queues queue h.queues;
  commands = commands_moved b.links p m within mv under s.limits.cids b.tasks s.tracked h.commands;
  placed = h.placed;
  trails = h.trails;
  left = h.left;
  answers = h.answers;
  fence = fence_moved b.links p m within mv s.limits.looks s.fence h.fence;
}

-- what waits there changes, too
pub stands_set : (under : ℕ → Bool) (o : Opening) (s : State) (b : Box) (p : ℕ) (c : Counts) (q : List Entry) (m : Link) → StandsWith under o s b → p < length b.links → Moves (link_in b.links p) m → IsQueue s.tracked q m → StandsFor c m
    → StandsWith under o (record s { links = set s.links p c; waits = record s.waits { queues = set s.waits.queues p q } }) (record b { links = set b.links p m })
stands_set under o s b p c q m h within mv queue st = record {
  sizes = record { limits = h.sizes.limits; waits = h.sizes.waits; answers = h.sizes.answers; commands = h.sizes.commands; trails = h.sizes.trails };
  numbers = record { time = h.numbers.time; exp = h.numbers.exp; max = h.numbers.max; shown = h.numbers.shown; reached = h.numbers.reached; sent = h.numbers.sent };
  links = links_set b.links p m within mv s.limits.cids s.links c st h.links;
  queues = queues_set b.links p m within mv s.tracked s.waits.queues q queue h.queues;
  commands = commands_moved b.links p m within mv under s.limits.cids b.tasks s.tracked h.commands;
  placed = h.placed;
  trails = h.trails;
  left = h.left;
  answers = h.answers;
  fence = fence_moved b.links p m within mv s.limits.looks s.fence h.fence;
}

-- the same commands are taken to be under way
pub stands_under : (under more : ℕ → Bool) (o : Opening) (s : State) (b : Box) → ((t : ℕ) → under t ≡ more t) → StandsWith under o s b → StandsWith more o s b
stands_under under more o s b same h = subst (λ (test : ℕ → Bool). StandsWith test o s b) (λ i t. same t i) h
