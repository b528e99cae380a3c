-- All connections change in what waits there; what waits of a command is dropped, or waits on and is of none.
use Rattle.std.proofs.Common.{◌≡◌, ℕ, zero, suc, ◌+◌, ◌==◌, ◌||◌, not, cond, Bool, true, false, List, [], ◌∷◌, map, filter, Option, Some, None, refl, ap, sym, subst, ◌∙◌, arith}
use Rattle.std.specs.List.{list_any}
use Rattle.std.proofs.lemmas.Bool.{true≢false, false≢true, not-true}
use Rattle.std.proofs.lemmas.List.{length-map}
use Rattle.iscsi_arrivals.specs.declared.stamp.Stamp.{Stamp}
use Rattle.iscsi_arrivals.specs.Counts.{Counts}
use Rattle.iscsi_arrivals.specs.Stamps.{IsUpToLast}
use Rattle.iscsi_arrivals.specs.Standing.{StandsFor}
use Rattle.iscsi_outbox_rules.specs.rules.Calls.{Opening}
use Rattle.iscsi_outbox_rules.specs.rules.Boxes.{Task, Outgoing, Link}
use Rattle.iscsi_outbox_rules.specs.rules.Words.{contains, has_under_way, is_of}
use Rattle.iscsi_outbox_rules.specs.rules.Queues.{without}
use Rattle.iscsi_outbox_rules.specs.rules.Handing.{fenced_handed}
use Rattle.iscsi_outbox_rules.specs.rules.Run.{new_link}
use Rattle.iscsi_outbox_state.specs.Waits.{Entry, entry, is_of as is_of_command, of_none, released}
use Rattle.iscsi_outbox_steps.specs.declared.sent.Sent.{Sent}
use Rattle.iscsi_tracked.specs.declared.command.Command.{Command}
use Rattle.iscsi_tracked.specs.Tracked.{Tracked}
use Rattle.iscsi_outbox_law.specs.private.Pairs.{PairsOf}
use Rattle.iscsi_outbox_law.specs.private.Links.{AreLinks, AreQueues, IsEntry, IsQueue, live_place, place_of_command}
use Rattle.iscsi_outbox_law.specs.private.Commands.{AreCommands, IsCommand, IsLastOut, IsOut, is_under_way, link_in, of_ticket}
use Rattle.iscsi_outbox_law.specs.private.Fences.{IsFence, IsLastFence}
use Rattle.iscsi_outbox_law.proofs.general.PairLemmas.{each-map, pairs-filter, pairs-map, pairs-weaken}
use Rattle.iscsi_outbox_law.proofs.general.Members.{in_filter}
use Rattle.iscsi_outbox_law.proofs.general.PlaceLemmas.{conns_of}
use Rattle.iscsi_outbox_law.proofs.connections.LinkChanges.{Moves, up_within}
use Rattle.iscsi_outbox_law.proofs.connections.CountChanges.{stands_queue}
use Rattle.iscsi_outbox_law.proofs.sending.HandedLemmas.{pairs_keep, pairs_turn}
use Rattle.iscsi_outbox_law.proofs.commands.TrackedLemmas.{any_map}

-- ---- all connections

module _ (g : Link → Link) (moves : (l : Link) → Moves l (g l)) (new : g (new_link 0) ≡ new_link 0) where
  pub link_map : (links : List Link) (n : ℕ) → link_in (map g links) n ≡ g (link_in links n)
  link_map [] n = sym new
  link_map (l ∷ links) zero = refl
  link_map (l ∷ links) (suc n) = link_map links n

  map_moves : (links : List Link) (n : ℕ) → Moves (link_in links n) (link_in (map g links) n)
  map_moves links n = subst (Moves (link_in links n)) (sym (link_map links n)) (moves (link_in links n))

  pub conns_map : (links : List Link) → conns_of (map g links) ≡ conns_of links
  conns_map [] = refl
  conns_map (l ∷ links) = ap (λ c. c ∷ conns_of (map g links)) (moves l).conn ∙ ap (λ cs. l.conn ∷ cs) (conns_map links)

  out_map : (links : List Link) (under : ℕ → Bool) (ticket n : ℕ) (out : Option Stamp) → IsOut under ticket (link_in links n) out → IsOut under ticket (link_in (map g links) n) out
  out_map links under ticket n None h = h
  out_map links under ticket n (Some stamp) h =
      let k : IsLastOut ticket (link_in links n) stamp = h.1 in
      let mv : Moves (link_in links n) (link_in (map g links) n) = map_moves links n in (
        h.0,
        record {
          place = k.place;
          stamp = k.stamp ∙ sym (mv.stamps k.place (up_within (of_ticket ticket) (link_in links n).handed k.place k.last));
          last = subst (λ hs. IsUpToLast (of_ticket ticket) hs (k.place + 1)) (sym mv.handed) k.last;
        },
      )

  pub commands_map : (under : ℕ → Bool) (cids : List ℕ) (links : List Link) (tasks : List Task) (v : Tracked) → AreCommands under cids links tasks v → AreCommands under cids (map g links) tasks v
  commands_map under cids links tasks v h = pairs-weaken (IsCommand under cids links) (IsCommand under cids (map g links)) v.commands _ weaken h
    where
      weaken : (c : Command) (t : Task) → IsCommand under cids links c t → IsCommand under cids (map g links) c t
      weaken c t k = record {
        ticket = k.ticket;
        conn = k.conn;
        unit = k.unit;
        tag = k.tag;
        numbered = k.numbered;
        phase = k.phase;
        out = out_map links under c.ticket c.conn c.last_out k.out;
      }

  pub fence_map : (looks : Bool) (links : List Link) (f : Option Sent) → IsFence looks links f → IsFence looks (map g links) f
  fence_map looks links None h =
      each-map (λ (l : Link). list_any fenced_handed l.handed ≡ false) (λ (l : Link). list_any fenced_handed l.handed ≡ false) g links (λ l none. ap (list_any fenced_handed) (moves l).handed ∙ none) h
  fence_map looks links (Some f) h =
      let k : IsLastFence looks links f = h in
      let mv : Moves (link_in links f.conn) (link_in (map g links) f.conn) = map_moves links f.conn in
      record {
        place = k.place;
        stamp = k.stamp ∙ sym (mv.stamps k.place (up_within fenced_handed (link_in links f.conn).handed k.place k.last));
        last = subst (λ hs. IsUpToLast fenced_handed hs (k.place + 1)) (sym mv.handed) k.last;
        conn = omega (arith, k.conn, length-map links g);
        others = λ looking n lt apart is. (map_moves links n).fence (k.others looking n (omega (arith, lt, length-map links g)) apart) is;
      }

-- ---- what waits

pub moves_without : (these : ℕ → Bool) (l : Link) → Moves l (without these l)
moves_without these l = record { conn = refl; handed = refl; stamps = λ place lt. refl; fence = λ none. none }

pub links_without : (these : ℕ → Bool) (cids : List ℕ) (counts : List Counts) (links : List Link) → AreLinks cids counts links → AreLinks cids counts (map (without these) links)
links_without these cids counts links h = record {
  conns = conns_map (without these) (moves_without these) refl links ∙ h.conns;
  each = all_stand counts links h.each;
}
  where
    all_stand : (cs : List Counts) (ls : List Link) → PairsOf StandsFor cs ls → PairsOf StandsFor cs (map (without these) ls)
    all_stand [] [] k = tt
    all_stand (c ∷ cs) (l ∷ ls) k = (stands_queue c l k.0 (filter (λ out. not (is_of these out)) l.queue), all_stand cs ls k.1)
    all_stand [] (l ∷ ls) k = absurd k
    all_stand (c ∷ cs) [] k = absurd k

pub under_without : (o : Opening) (these : ℕ → Bool) (links : List Link) (t : ℕ) → is_under_way o (map (without these) links) t ≡ is_under_way o links t
under_without o these links t = any_map (has_under_way o (λ k. k == t)) (without these) links (λ l. refl)

-- the live command with this ticket stands in this place
module _ (v v' : Tracked) (ticket place : ℕ)
    (named : (k : ℕ) → (elim (live_place v k) as (λ (x : Option ℕ). Bool) [ Some n ↦ n == place | None ↦ false ]) ≡ (ticket == k))
    (places : (k : ℕ) → live_place v' k ≡ cond (ticket == k) None (live_place v k)) where
  these : ℕ → Bool
  these = contains (ticket ∷ [])

  entry_named : (cid : ℕ) (e : Entry) (out : Outgoing) → IsEntry v cid e out → is_of_command place e ≡ is_of (contains (ticket ∷ [])) out
  entry_named cid e out k = ap (λ (x : Option ℕ). elim x as (λ (y : Option ℕ). Bool) [ Some n ↦ n == place | None ↦ false ]) k.command ∙ by_ticket (out.ticket)
    where
      or_no : (w : Bool) → w ≡ (w || false)
      or_no true = refl
      or_no false = refl

      by_ticket : (x : Option ℕ) → (elim (place_of_command v x) as (λ (y : Option ℕ). Bool) [ Some n ↦ n == place | None ↦ false ]) ≡ (elim x as (λ (y : Option ℕ). Bool) [ Some k ↦ contains (ticket ∷ []) k | None ↦ false ])
      by_ticket None = refl
      by_ticket (Some k) = named k ∙ or_no (ticket == k)

  other_place : (x : Option ℕ) → (elim x as (λ (y : Option ℕ). Bool) [ Some k ↦ contains (ticket ∷ []) k | None ↦ false ]) ≡ false → place_of_command v' x ≡ place_of_command v x
  other_place None isnt = refl
  other_place (Some k) isnt = places k ∙ by_test (ticket == k) isnt
    where
      by_test : (w : Bool) → (w || false) ≡ false → cond w None (live_place v k) ≡ live_place v k
      by_test true e = absurd (true≢false e)
      by_test false e = refl

  mine_nowhere : (x : Option ℕ) → (elim x as (λ (y : Option ℕ). Bool) [ Some k ↦ contains (ticket ∷ []) k | None ↦ false ]) ≡ true → place_of_command v' x ≡ None
  mine_nowhere None is = absurd (false≢true is)
  mine_nowhere (Some k) is = places k ∙ by_test (ticket == k) is
    where
      by_test : (w : Bool) → (w || false) ≡ true → cond w None (live_place v k) ≡ None
      by_test true e = refl
      by_test false e = absurd (false≢true e)

  entry_with : (cid : ℕ) (e : Entry) (out : Outgoing) → place_of_command v' out.ticket ≡ place_of_command v out.ticket → IsEntry v cid e out → IsEntry v' cid e out
  entry_with cid e out same k = record { time = k.time; pdu = k.pdu; sent = k.sent; takes = k.takes; fenced = k.fenced; numbered = k.numbered; ends = k.ends; command = k.command ∙ sym same }

  pub queues_dropped : (queues : List (List Entry)) (links : List Link) → AreQueues v queues links → AreQueues v' (map (λ (q : List Entry). filter (λ e. not (is_of_command place e)) q) queues) (map (without (contains (ticket ∷ []))) links)
  queues_dropped queues links h = pairs-map (IsQueue v) (IsQueue v') (λ (q : List Entry). filter (λ e. not (is_of_command place e)) q) (without (contains (ticket ∷ []))) queues links queue_dropped h
    where
      queue_dropped : (q : List Entry) (l : Link) → IsQueue v q l → IsQueue v' (filter (λ e. not (is_of_command place e)) q) (without (contains (ticket ∷ [])) l)
      queue_dropped q l k =
          pairs_keep (IsEntry v l.conn) (IsEntry v' l.conn) (filter (λ e. not (is_of_command place e)) q) (filter (λ out. not (is_of (contains (ticket ∷ [])) out)) l.queue)
          (λ e out at for j. entry_with l.conn e out (other_place (out.ticket) (not-true (is_of (contains (ticket ∷ [])) out) (in_filter (λ x. not (is_of (contains (ticket ∷ [])) x)) l.queue out for).1)) j)
          (pairs-filter (IsEntry v l.conn) (λ e. not (is_of_command place e)) (λ out. not (is_of (contains (ticket ∷ [])) out)) q l.queue (λ e out j. ap not (entry_named l.conn e out j)) k)

  pub queues_released : (queues : List (List Entry)) (links : List Link) → AreQueues v queues links → AreQueues v' (map (λ (q : List Entry). map (released place) q) queues) links
  queues_released queues links h = pairs_turn (IsQueue v) (IsQueue v') (λ (q : List Entry). map (released place) q) queues links (λ q l at for k. queue_released q l k) h
    where
      one_released : (cid : ℕ) (e : Entry) (out : Outgoing) → IsEntry v cid e out → IsEntry v' cid (released place e) out
      one_released cid e out k = elim (is_of_command place e) as (λ w. is_of_command place e ≡ w → IsEntry v' cid (cond w (entry e.time (of_none e.item)) e) out) [
        | true ↦ λ here.
            record { time = k.time; pdu = k.pdu; sent = k.sent; takes = k.takes; fenced = k.fenced; numbered = k.numbered; ends = k.ends; command = sym (mine_nowhere (out.ticket) (sym (entry_named cid e out k) ∙ here)) }
        | false ↦ λ apart. entry_with cid e out (other_place (out.ticket) (sym (entry_named cid e out k) ∙ apart)) k
      ] refl

      queue_released : (q : List Entry) (l : Link) → IsQueue v q l → IsQueue v' (map (released place) q) l
      queue_released q l k = pairs_turn (IsEntry v l.conn) (IsEntry v' l.conn) (released place) q l.queue (λ e out at for j. one_released l.conn e out j) k
