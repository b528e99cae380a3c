-- The oldest PDU of a connection that wasn't written is.
use Rattle.std.proofs.Common.{◌≡◌, ℕ, zero, suc, ◌+◌, ◌<◌, ◌≤◌, ◌==◌, ◌&&◌, ⊎_elim, cond, nat_lt, Bool, true, false, List, [], ◌∷◌, ◌++◌, length, drop, count_by, Option, Some, None, refl, ap, sym, subst, ◌∙◌, arith, lt-ltb, le-ltb, length-drop, length-set, ne_eqb}
use Rattle.std.proofs.lemmas.Bool.{cond_both, eqb-true, eq-eqb, cases_eq}
use Rattle.std.proofs.lemmas.List.{append-nil, get_or-set_same, get_or-set_other}
use Rattle.iscsi_rules.proofs.general.CountLemmas.{one, count-cons}
use Rattle.iscsi_outbox_rules.specs.rules.Calls as outbox
use Rattle.iscsi_outbox_rules.specs.rules.Boxes.{Box, Handed, Link}
use Rattle.iscsi_outbox_rules.specs.rules.Queues.{at_link}
use Rattle.iscsi_outbox_rules.specs.rules.Run.{after_call, one_written}
use Rattle.iscsi_outbox_law.specs.private.Commands.{is_under_way, link_in}
use Rattle.iscsi_outbox_law.specs.private.Pairs.{EachOf, PairsOf}
use Rattle.iscsi_outbox_law.specs.private.Stands.{Stands as OutboxStands}
use Rattle.iscsi_outbox_law.proofs.arrivals.Hearing.{writes_stands}
use Rattle.iscsi_outbox_law.proofs.general.PlaceLemmas.{IsPlace, none_here, one_place}
use Rattle.iscsi_outbox_law.proofs.general.PairLemmas.{each-at, each-set, each-weaken, pairs-weaken}
use Rattle.iscsi_outbox_law.proofs.connections.Standing.{links_apart, stands_nowhere, stands_there}
use Rattle.iscsi_outbox_law.proofs.commands.TurningCount.{call_last}
use Rattle.iscsi_outbox_steps.specs.State.{State as OutboxState, place_of}
use Rattle.iscsi_outbox_steps.specs.Steps.{is_running_ticket, written}
use Rattle.iscsi_requests.specs.Conns.{behind_oldest, of_conn, oldest}
use Rattle.iscsi_requests.specs.Unwritten.{Unwritten, popped}
use Rattle.iscsi_requests.specs.Cookies.{uses_at}
use Rattle.iscsi_ffi_commands.specs.Commands.{is_live}
use Rattle.iscsi_ffi_rules.specs.rules.Calls.{Interface, Writes}
use Rattle.iscsi_ffi_rules.specs.rules.Needs.{is_noted, left_to_write}
use Rattle.iscsi_ffi_rules.specs.rules.Sides.{Side}
use Rattle.iscsi_ffi_steps.specs.State.{State}
use Rattle.iscsi_ffi_steps.specs.Steps.{Side as StepsSide, write_on}
use Rattle.iscsi_ffi_steps.specs.Walk.{Doing, release_if}
use Rattle.iscsi_ffi_law.specs.Alike.{GoesAlike}
use Rattle.iscsi_ffi_law.specs.Fit.{IsFit}
use Rattle.iscsi_ffi_law.specs.Names.{handed_notes, note_places, waiting_notes}
use Rattle.iscsi_ffi_law.specs.Parts.{IsAbout, IsConn, IsOneUse, noted_in}
use Rattle.iscsi_ffi_law.specs.Stands.{Stands}
use Rattle.iscsi_ffi_law.specs.Uses.{is_place, uses_of}
use Rattle.iscsi_ffi_law.proofs.calls.Changed.{IsChanged, changed_to, conn_kept, requests_changed}
use Rattle.iscsi_ffi_law.proofs.calls.Ends.{EndsAlike, ends_alike, moved_ends, left_fit}
use Rattle.iscsi_ffi_law.proofs.calls.Finish.{as_many_links}
use Rattle.iscsi_ffi_law.proofs.general.Lists.{lists_set}
use Rattle.iscsi_ffi_law.proofs.calls.Moved.{all_queued, run_same, uses_run, with_box}
use Rattle.iscsi_ffi_law.proofs.own_pdus.NotePlaces.{handed_whole, waiting_whole}
use Rattle.iscsi_ffi_law.proofs.calls.Quiet.{IsSettledBy, SameQueue, runs_by_tasks, settled_by, settled_tasks}
use Rattle.iscsi_ffi_law.proofs.requests.Releasing.{ending}

-- ---- a connection

abbrev writes_at : ℕ → Link → Link
writes_at cid l = cond (l.conn == cid) (one_written l) l

same_written : (cid : ℕ) (l : Link) → SameQueue l (writes_at cid l)
same_written cid l =
    cond_both (l.conn == cid) (one_written l) l (SameQueue l)
    (λ is. cond_both (nat_lt l.written (length l.handed)) (record l { written = l.written + 1 }) l (SameQueue l)
    (λ some. record { conn = refl; takes = refl; queue = refl }) (λ none. record { conn = refl; takes = refl; queue = refl }))
    (λ isnt. record { conn = refl; takes = refl; queue = refl })

drop_nothing : (n : ℕ) (hs : List Handed) → drop n hs ≡ [] → length hs ≤ n
drop_nothing n hs none = let long = length-drop n hs in let empty : length (drop n hs) ≡ 0 = ap length none in omega (arith, long, empty)

drop_some : (n : ℕ) (hs rest : List Handed) (h : Handed) → drop n hs ≡ h ∷ rest → (n < length hs) × (drop (n + 1) hs ≡ rest)
drop_some n hs rest h some =
    let long = length-drop n hs in
    let many : length (drop n hs) ≡ suc (length rest) = ap length some in
    (omega (arith, long, many), more n hs some)
  where
    more : (m : ℕ) (gs : List Handed) → drop m gs ≡ h ∷ rest → drop (m + 1) gs ≡ rest
    more m gs is = let next : suc m ≡ m + 1 = omega arith in subst (λ k. drop k gs ≡ rest) next (behind m gs is)
      where
        behind : (k : ℕ) (ks : List Handed) → drop k ks ≡ h ∷ rest → drop (suc k) ks ≡ rest
        behind zero [] e = absurd cc
        behind zero (g ∷ ks) e = cc
        behind (suc k) [] e = absurd cc
        behind (suc k) (g ∷ ks) e = behind k ks e

-- nothing is left to write
none_written : (l : Link) → left_to_write l ≡ [] → left_to_write (one_written l) ≡ left_to_write l
none_written l none = by_lost l.lost refl
  where
    lost_now : Bool → List Handed
    lost_now v = cond v [] (drop l.written l.handed)

    by_lost : (v : Bool) → l.lost ≡ v → left_to_write (one_written l) ≡ left_to_write l
    by_lost true is =
        cond_both (nat_lt l.written (length l.handed)) (record l { written = l.written + 1 }) l (λ (m : Link). left_to_write m ≡ left_to_write l)
        (λ some. ap (λ v. cond v [] (drop (l.written + 1) l.handed)) is ∙ sym (ap (λ v. cond v [] (drop l.written l.handed)) is)) (λ no. refl)
    by_lost false is =
        let all : length l.handed ≤ l.written = drop_nothing l.written l.handed (sym (ap (λ v. cond v [] (drop l.written l.handed)) is) ∙ none) in
        ap (λ v. left_to_write (cond v (record l { written = l.written + 1 }) l)) (le-ltb l.written (length l.handed) all)

-- the first one is
first_written : (l : Link) (h : Handed) (rest : List Handed) → left_to_write l ≡ h ∷ rest → left_to_write (one_written l) ≡ rest
first_written l h rest some = by_lost l.lost refl
  where
    by_lost : (v : Bool) → l.lost ≡ v → left_to_write (one_written l) ≡ rest
    by_lost true is = absurd (let none : [] ≡ h ∷ rest = sym (ap (λ v. cond v [] (drop l.written l.handed)) is) ∙ some in cc)
    by_lost false is =
        let left = drop_some l.written l.handed rest h (sym (ap (λ v. cond v [] (drop l.written l.handed)) is) ∙ some) in
        ap (λ v. left_to_write (cond v (record l { written = l.written + 1 }) l)) (lt-ltb l.written (length l.handed) left.0)
        ∙ ap (λ v. cond v [] (drop (l.written + 1) l.handed)) is ∙ left.1

module _ (i : Interface) (s : StepsSide) (r : Side) (h : Stands i s r) (cid : ℕ) (fit : IsFit i r.both.box (after_call i.outbox r.both.box (outbox.Writes cid))) where
  abbrev b' : Box
  b' = after_call i.outbox r.both.box (outbox.Writes cid)

  o : OutboxState
  o = written cid s.state.outbox

  stands : OutboxStands i.outbox (written cid s.state.outbox) (after_call i.outbox r.both.box (outbox.Writes cid))
  stands = writes_stands i.outbox s.state.outbox r.both.box h.outbox fit.sound fit.distinct fit.fits cid fit.short.time

  settled_now : IsSettledBy h.names s.state r (writes_at cid) (after_call i.outbox r.both.box (outbox.Writes cid))
  settled_now = settled_by i.outbox h.names s.state r (writes_at cid) (same_written cid) (all_queued i h.names h.notes (λ place. 0) (λ p. []) s.state r h.requests h.outbox fit.distinct fit.sound)

  runs : (ticket : ℕ) → is_running_ticket ticket (written cid s.state.outbox) ≡ is_running_ticket ticket s.state.outbox
  runs = run_same i s.state r (written cid s.state.outbox) (after_call i.outbox r.both.box (outbox.Writes cid)) h.outbox fit.sound stands fit.sound_after fit.distinct
      (runs_by_tasks r.both.box (after_call i.outbox r.both.box (outbox.Writes cid)) (settled_tasks i.outbox [] r.both.box.undue (record r.both.box { links = at_link cid one_written r.both.box.links })))

  -- nothing is left to write there
  calmly : ((p : ℕ) → p < length r.both.box.links → left_to_write (writes_at cid (link_in r.both.box.links p)) ≡ left_to_write (link_in r.both.box.links p))
      → EndsAlike i (record { event = s.event; trace = s.trace; doing = record { state = record s.state { outbox = written cid s.state.outbox }; actions = []; forgets = [] } }) (with_box r (after_call i.outbox r.both.box (outbox.Writes cid))) []
  calmly same = moved_ends i s r h (written cid s.state.outbox) (after_call i.outbox r.both.box (outbox.Writes cid)) (left_fit i r.both.box (after_call i.outbox r.both.box (outbox.Writes cid)) fit) stands (call_last i.outbox s.state.outbox r.both.box (outbox.Writes cid) h.counts.tracked tt) runs (record {
    long = settled_now.long;
    sent = settled_now.sent;
    queued = settled_now.all.queued;
    undue = settled_now.all.undue_are;
    conn = settled_now.conn;
    left = λ p within. settled_now.left p within ∙ same p (omega (arith, within, settled_now.long));
  })

  -- the first one is written
  module _ (p : ℕ) (within : p < length r.both.box.links) (is : (link_in r.both.box.links p).conn ≡ cid) (x : Option ℕ) (xs : List (Option ℕ)) (waits : of_conn p s.state.unwritten.handed ≡ x ∷ xs)
      (w : Handed) (ws : List Handed) (left : left_to_write (link_in r.both.box.links p) ≡ w ∷ ws) where
    abbrev gone : ℕ → List (Option ℕ)
    gone q = cond (q == p) (cond (is_noted w.out.pdu) (x ∷ []) []) []

    abbrev unwritten' : Unwritten
    unwritten' = popped p s.state.unwritten

    abbrev s' : State
    s' = changed_to s.state (written cid s.state.outbox) s.state.cookies s.state.replies s.state.noted (popped p s.state.unwritten)

    many : length s.state.unwritten.handed ≡ length r.both.box.links
    many = h.sizes.unwritten ∙ sym (as_many_links i s.state r h.outbox)

    here_left : of_conn p (popped p s.state.unwritten).handed ≡ xs
    here_left = get_or-set_same s.state.unwritten.handed p (behind_oldest (of_conn p s.state.unwritten.handed)) [] (omega (arith, within, many)) ∙ ap behind_oldest waits

    others_left : (q : ℕ) → (q ≡ p → ⊥) → of_conn q (popped p s.state.unwritten).handed ≡ of_conn q s.state.unwritten.handed
    others_left q other = get_or-set_other s.state.unwritten.handed p q (behind_oldest (of_conn p s.state.unwritten.handed)) [] other

    ending_is : (place : ℕ) (y : Option ℕ) → one (is_place place y) ≡ ending y place
    ending_is place (Some q) = refl
    ending_is place None = refl

    uses_now : (place : ℕ) → uses_at place s.state.cookies ≡ uses_of place s' + ending x place
    uses_now place =
        let moved = uses_run place s.state (written cid s.state.outbox) runs in
        let set_there = lists_set (is_place place) s.state.unwritten.handed p (behind_oldest (of_conn p s.state.unwritten.handed)) (omega (arith, within, many)) in
        let all : count_by (is_place place) (of_conn p s.state.unwritten.handed) ≡ one (is_place place x) + count_by (is_place place) xs = ap (count_by (is_place place)) waits ∙ count-cons (is_place place) x xs in
        let rest : count_by (is_place place) (behind_oldest (of_conn p s.state.unwritten.handed)) ≡ count_by (is_place place) xs = ap (λ ys. count_by (is_place place) (behind_oldest ys)) waits in
        omega (arith, moved, set_there, all, rest, ending_is place x, h.requests.uses place)

    conn_now : IsConn h.names h.notes [] s.state r p (link_in r.both.box.links p)
    conn_now = h.requests.conns p within

    written_now : PairsOf (IsAbout h.names h.notes r (link_in r.both.box.links p).conn) (x ∷ xs) (w ∷ ws)
    written_now = subst (λ ys. PairsOf (IsAbout h.names h.notes r (link_in r.both.box.links p).conn) ys (w ∷ ws)) waits
        (subst (λ hs. PairsOf (IsAbout h.names h.notes r (link_in r.both.box.links p).conn) (of_conn p s.state.unwritten.handed) hs) left (h.requests.conns p within).written)

    -- the connection itself
    here : (within' : p < length (after_call i.outbox r.both.box (outbox.Writes cid)).links) → IsConn h.names h.notes (cond (is_noted w.out.pdu) (x ∷ []) []) s' (with_box r (after_call i.outbox r.both.box (outbox.Writes cid))) p (link_in (after_call i.outbox r.both.box (outbox.Writes cid)).links p)
    here within' =
        let l' : Link = link_in (after_call i.outbox r.both.box (outbox.Writes cid)).links p in
        let conn : (link_in (after_call i.outbox r.both.box (outbox.Writes cid)).links p).conn ≡ (link_in r.both.box.links p).conn = settled_now.conn p within' in
        let left' : left_to_write (link_in (after_call i.outbox r.both.box (outbox.Writes cid)).links p) ≡ ws
        = settled_now.left p within' ∙ ap (λ v. left_to_write (cond v (one_written (link_in r.both.box.links p)) (link_in r.both.box.links p))) (eq-eqb (link_in r.both.box.links p).conn cid is) ∙ first_written (link_in r.both.box.links p) w ws left in
        record {
          replies = conn_now.replies;
          queued = settled_now.all.queued p within';
          written = subst (λ hs. PairsOf (IsAbout h.names h.notes (with_box r (after_call i.outbox r.both.box (outbox.Writes cid))) (link_in (after_call i.outbox r.both.box (outbox.Writes cid)).links p).conn) (of_conn p (popped p s.state.unwritten).handed) hs) (sym left')
              (subst (λ ys. PairsOf (IsAbout h.names h.notes (with_box r (after_call i.outbox r.both.box (outbox.Writes cid))) (link_in (after_call i.outbox r.both.box (outbox.Writes cid)).links p).conn) ys ws) (sym here_left)
              (subst (λ k. PairsOf (IsAbout h.names h.notes (with_box r (after_call i.outbox r.both.box (outbox.Writes cid))) k) xs ws) (sym conn)
              (pairs-weaken (IsAbout h.names h.notes r (link_in r.both.box.links p).conn) (IsAbout h.names h.notes (with_box r (after_call i.outbox r.both.box (outbox.Writes cid))) (link_in r.both.box.links p).conn) xs ws
              (λ y z k. record { named = k.named; noted = k.noted }) written_now.1)));
          noted = record {
            gone_handed = cond (is_noted w.out.pdu) (x ∷ []) [];
            gone_waiting = [];
            gone_are = sym (append-nil (cond (is_noted w.out.pdu) (x ∷ []) []));
            waiting_are = ap (λ k. note_places k (waiting_notes h.notes)) conn
                ∙ waiting_whole h.notes (link_in r.both.box.links p).conn (of_conn p s.state.noted.handed) (noted_in (of_conn p s.state.unwritten.handed) (left_to_write (link_in r.both.box.links p))) conn_now.noted;
            handed_are =
                ap (λ k. note_places k (handed_notes h.notes)) conn
                ∙ handed_whole h.notes (link_in r.both.box.links p).conn (of_conn p s.state.noted.handed) (noted_in (of_conn p s.state.unwritten.handed) (left_to_write (link_in r.both.box.links p))) conn_now.noted
                ∙ ap (λ ys. noted_in ys (left_to_write (link_in r.both.box.links p))) waits ∙ ap (noted_in (x ∷ xs)) left ∙ parts (is_noted w.out.pdu)
                ∙ ap (λ hs. cond (is_noted w.out.pdu) (x ∷ []) [] ++ noted_in xs hs) (sym left')
                ∙ ap (λ ys. cond (is_noted w.out.pdu) (x ∷ []) [] ++ noted_in ys (left_to_write (link_in (after_call i.outbox r.both.box (outbox.Writes cid)).links p))) (sym here_left);
          };
        }
      where
        parts : (v : Bool) → cond v (x ∷ noted_in xs ws) (noted_in xs ws) ≡ cond v (x ∷ []) [] ++ noted_in xs ws
        parts true = refl
        parts false = refl

    -- another one
    elsewhere : (q : ℕ) → (q ≡ p → ⊥) → (within' : q < length (after_call i.outbox r.both.box (outbox.Writes cid)).links) → IsConn h.names h.notes [] s' (with_box r (after_call i.outbox r.both.box (outbox.Writes cid))) q (link_in (after_call i.outbox r.both.box (outbox.Writes cid)).links q)
    elsewhere q other within' =
        let short : q < length r.both.box.links = omega (arith, within', settled_now.long) in
        let apart : ((link_in r.both.box.links q).conn == cid) ≡ false = ne_eqb (link_in r.both.box.links q).conn cid (λ same. other (one_place r.both.box.links q p (links_apart (is_under_way i.outbox r.both.box.links) i.outbox s.state.outbox r.both.box h.outbox fit.distinct) short within (same ∙ sym is))) in
        conn_kept h.names h.notes [] s.state s' r (after_call i.outbox r.both.box (outbox.Writes cid)) q (link_in r.both.box.links q) (link_in (after_call i.outbox r.both.box (outbox.Writes cid)).links q) (h.requests.conns q short) refl refl (others_left q other)
        (settled_now.conn q within') (settled_now.left q within' ∙ ap (λ v. left_to_write (cond v (one_written (link_in r.both.box.links q)) (link_in r.both.box.links q))) apart) (settled_now.all.queued q within')

    changed_now : IsChanged h.names h.notes (ending x) gone s.state r (written cid s.state.outbox) s.state.cookies s.state.replies s.state.noted (popped p s.state.unwritten) (after_call i.outbox r.both.box (outbox.Writes cid))
    changed_now = record {
      kept = h.requests.kept;
      counted = h.requests.counted;
      uses = uses_now;
      once = h.requests.once;
      last = h.requests.last;
      one_use = each-weaken (IsOneUse s.state.outbox) (IsOneUse (written cid s.state.outbox)) s.state.commands.items (λ c k. ap (λ v. is_live c && v) (runs c.ticket) ∙ k) h.requests.one_use;
      sent = settled_now.sent;
      long = settled_now.long;
      conn = settled_now.conn;
      conns = λ q within'. ⊎_elim
          (λ (same : q ≡ p). subst (λ k. (k < length (after_call i.outbox r.both.box (outbox.Writes cid)).links) → IsConn h.names h.notes (gone k) s' (with_box r (after_call i.outbox r.both.box (outbox.Writes cid))) k (link_in (after_call i.outbox r.both.box (outbox.Writes cid)).links k)) (sym same)
          (λ there. subst (λ v. IsConn h.names h.notes (cond v (cond (is_noted w.out.pdu) (x ∷ []) []) []) s' (with_box r (after_call i.outbox r.both.box (outbox.Writes cid))) p (link_in (after_call i.outbox r.both.box (outbox.Writes cid)).links p)) (sym (eq-eqb p p refl)) (here there)) within')
          (λ (other : q ≡ p → ⊥). subst (λ v. IsConn h.names h.notes (cond v (cond (is_noted w.out.pdu) (x ∷ []) []) []) s' (with_box r (after_call i.outbox r.both.box (outbox.Writes cid))) q (link_in (after_call i.outbox r.both.box (outbox.Writes cid)).links q)) (sym (ne_eqb q p other)) (elsewhere q other within'))
          (cases_eq q p);
      undue = settled_now.all.undue_are;
    }

    few_left : EachOf (λ (ys : List (Option ℕ)). length ys ≤ i.unwritten) (popped p s.state.unwritten).handed
    few_left =
        let here_few : length (x ∷ xs) ≤ i.unwritten = subst (λ (ys : List (Option ℕ)). length ys ≤ i.unwritten) waits (each-at (λ (ys : List (Option ℕ)). length ys ≤ i.unwritten) s.state.unwritten.handed p [] (omega (arith, within, many)) h.sizes.few) in
        each-set (λ (ys : List (Option ℕ)). length ys ≤ i.unwritten) s.state.unwritten.handed p (behind_oldest (of_conn p s.state.unwritten.handed))
        (subst (λ (ys : List (Option ℕ)). length (behind_oldest ys) ≤ i.unwritten) (sym waits) (let less : length xs ≤ i.unwritten = omega (arith, here_few) in less)) h.sizes.few

    first_ends : EndsAlike i (record { event = s.event; trace = s.trace; doing = release_if x (record { state = s'; actions = []; forgets = [] }) }) (with_box r (after_call i.outbox r.both.box (outbox.Writes cid))) []
    first_ends =
        ends_alike i h.names h.notes gone x s' (with_box r (after_call i.outbox r.both.box (outbox.Writes cid))) (record {
          outbox = stands;
          sound = fit.sound_after;
          few = fit.short.handed;
          distinct = fit.distinct;
          sizes = record { room = h.sizes.room; functions = h.sizes.functions; replies = h.sizes.replies; noted = h.sizes.noted; unwritten = length-set s.state.unwritten.handed p (behind_oldest (of_conn p s.state.unwritten.handed)) ∙ h.sizes.unwritten; noted_room = h.sizes.noted_room; unwritten_room = h.sizes.unwritten_room; replies_room = h.sizes.replies_room; slots = h.sizes.slots; few = few_left };
          flags = record { awake = h.flags.awake; over = h.flags.over };
          requests = requests_changed h.names h.notes (λ place. 0) (ending x) (λ q. []) gone s.state r h.requests (written cid s.state.outbox) s.state.cookies s.state.replies s.state.noted (popped p s.state.unwritten) (after_call i.outbox r.both.box (outbox.Writes cid)) changed_now;
          counts = record { units = h.counts.units; last = h.counts.last; tracked = call_last i.outbox s.state.outbox r.both.box (outbox.Writes cid) h.counts.tracked tt };
          withheld = h.withheld;
          calm = h.calm;
          slots = h.slots;
          functions = h.functions;
        }) fit.some (record { event = s.event; trace = s.trace; doing = release_if x (record { state = s'; actions = []; forgets = [] }) }) refl h.event h.trace

  -- ---- all of it

  abbrev doing_now : Doing
  doing_now = record { state = record s.state { outbox = written cid s.state.outbox }; actions = []; forgets = [] }

  Ends : Doing → Type 0
  Ends d = EndsAlike i (record { event = s.event; trace = s.trace; doing = d }) (with_box r (after_call i.outbox r.both.box (outbox.Writes cid))) []

  there_ends : (p : ℕ) → p < length r.both.box.links → (link_in r.both.box.links p).conn ≡ cid → EndsAlike i (record { event = s.event; trace = s.trace; doing = write_on p doing_now }) (with_box r (after_call i.outbox r.both.box (outbox.Writes cid))) []
  there_ends p within is = by_list (of_conn p s.state.unwritten.handed) refl (left_to_write (link_in r.both.box.links p)) refl (h.requests.conns p within).written
    where
      same_there : left_to_write (link_in r.both.box.links p) ≡ [] → (q : ℕ) → q < length r.both.box.links → left_to_write (writes_at cid (link_in r.both.box.links q)) ≡ left_to_write (link_in r.both.box.links q)
      same_there none q short =
          cond_both ((link_in r.both.box.links q).conn == cid) (one_written (link_in r.both.box.links q)) (link_in r.both.box.links q) (λ (m : Link). left_to_write m ≡ left_to_write (link_in r.both.box.links q))
          (λ at.
          let same : q ≡ p = one_place r.both.box.links q p (links_apart (is_under_way i.outbox r.both.box.links) i.outbox s.state.outbox r.both.box h.outbox fit.distinct) short within (eqb-true (link_in r.both.box.links q).conn cid at ∙ sym is) in
          none_written (link_in r.both.box.links q) (ap (λ k. left_to_write (link_in r.both.box.links k)) same ∙ none))
          (λ isnt. refl)

      by_list : (xs : List (Option ℕ)) → of_conn p s.state.unwritten.handed ≡ xs → (ws : List Handed) → left_to_write (link_in r.both.box.links p) ≡ ws
          → PairsOf (IsAbout h.names h.notes r (link_in r.both.box.links p).conn) (of_conn p s.state.unwritten.handed) (left_to_write (link_in r.both.box.links p))
          → EndsAlike i (record { event = s.event; trace = s.trace; doing = write_on p doing_now }) (with_box r (after_call i.outbox r.both.box (outbox.Writes cid))) []
      by_list [] waits [] left pairs =
          subst (λ (ys : List (Option ℕ)). EndsAlike i (record { event = s.event; trace = s.trace; doing = elim (oldest ys) [ Some x ↦ release_if x (record { state = changed_to s.state (written cid s.state.outbox) s.state.cookies s.state.replies s.state.noted (popped p s.state.unwritten); actions = []; forgets = [] }) | None ↦ doing_now ] })
          (with_box r (after_call i.outbox r.both.box (outbox.Writes cid))) []) (sym waits) (calmly (same_there left))
      by_list [] waits (w ∷ ws) left pairs = absurd (subst (λ (ys : List (Option ℕ)). PairsOf (IsAbout h.names h.notes r (link_in r.both.box.links p).conn) ys (w ∷ ws)) waits
          (subst (λ (hs : List Handed). PairsOf (IsAbout h.names h.notes r (link_in r.both.box.links p).conn) (of_conn p s.state.unwritten.handed) hs) left pairs))
      by_list (x ∷ xs) waits [] left pairs = absurd (subst (λ (ys : List (Option ℕ)). PairsOf (IsAbout h.names h.notes r (link_in r.both.box.links p).conn) ys []) waits
          (subst (λ (hs : List Handed). PairsOf (IsAbout h.names h.notes r (link_in r.both.box.links p).conn) (of_conn p s.state.unwritten.handed) hs) left pairs))
      by_list (x ∷ xs) waits (w ∷ ws) left pairs =
          subst (λ (ys : List (Option ℕ)). EndsAlike i (record { event = s.event; trace = s.trace; doing = elim (oldest ys) [ Some y ↦ release_if y (record { state = changed_to s.state (written cid s.state.outbox) s.state.cookies s.state.replies s.state.noted (popped p s.state.unwritten); actions = []; forgets = [] }) | None ↦ doing_now ] })
          (with_box r (after_call i.outbox r.both.box (outbox.Writes cid))) []) (sym waits) (first_ends p within is x xs waits w ws left)

  nowhere_ends : place_of s.state.outbox cid ≡ None → EndsAlike i (record { event = s.event; trace = s.trace; doing = doing_now }) (with_box r (after_call i.outbox r.both.box (outbox.Writes cid))) []
  nowhere_ends none = calmly (λ q short.
      cond_both ((link_in r.both.box.links q).conn == cid) (one_written (link_in r.both.box.links q)) (link_in r.both.box.links q) (λ (m : Link). left_to_write m ≡ left_to_write (link_in r.both.box.links q))
      (λ at. absurd (none_here r.both.box.links cid q (stands_nowhere (is_under_way i.outbox r.both.box.links) i.outbox s.state.outbox r.both.box h.outbox cid none) short (eqb-true (link_in r.both.box.links q).conn cid at)))
      (λ isnt. refl))

  all_end : (y : Option ℕ) → place_of s.state.outbox cid ≡ y
      → EndsAlike i (elim y [ Some conn ↦ record { event = s.event; trace = s.trace; doing = write_on conn doing_now } | None ↦ record { event = s.event; trace = s.trace; doing = doing_now } ]) (with_box r (after_call i.outbox r.both.box (outbox.Writes cid))) []
  all_end None none = nowhere_ends none
  all_end (Some p) found =
      let at : IsPlace r.both.box.links cid p = stands_there (is_under_way i.outbox r.both.box.links) i.outbox s.state.outbox r.both.box h.outbox cid p found in
      there_ends p at.within at.is

  pub writes_alike : GoesAlike i s r (Writes cid)
  writes_alike = let e = all_end (place_of s.state.outbox cid) refl in record { answer = refl; tells = e.tells; stands = e.stands }
