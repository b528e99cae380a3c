-- A PDU is handed out: what the connection has then.
use Rattle.std.proofs.Common.{◌≡◌, ℕ, zero, suc, ◌+◌, ◌<◌, ◌≤◌, ◌==◌, ◌&&◌, ⊎_elim, not, cond, Bool, true, false, List, [], ◌∷◌, ◌++◌, length, map, drop, filter, Option, None, refl, ap, sym, subst, ◌∙◌, arith, ne_eqb, length-set, length-append}
use Rattle.std.proofs.lemmas.Bool.{cond_both, eq-eqb, cases_eq, not-true}
use Rattle.std.proofs.lemmas.List.{get_or-set_same, get_or-set_other, length-map}
use Rattle.std.proofs.lemmas.List.Sums.{sum_by-append}
use Rattle.iscsi_rules.specs.rules.Trace.{entered}
use Rattle.iscsi_rules.proofs.general.BoolLemmas.{and_parts}
use Rattle.iscsi_rules.proofs.general.CountLemmas.{one, count-cons}
use Rattle.iscsi_outbox_rules.specs.rules.Boxes.{Box, Handed, Link, Outgoing}
use Rattle.iscsi_outbox_rules.specs.rules.Handing.{after_given, is_from_queue, taken_from}
use Rattle.iscsi_outbox_rules.specs.rules.Words.{is_open}
use Rattle.iscsi_outbox_law.specs.private.Commands.{is_under_way, link_in}
use Rattle.iscsi_outbox_law.specs.private.Pairs.{EachOf, PairsOf}
use Rattle.iscsi_outbox_law.specs.private.Stands.{Stands as OutboxStands}
use Rattle.iscsi_outbox_law.proofs.general.PairLemmas.{each-set, each-weaken, pairs-append, pairs-weaken}
use Rattle.iscsi_outbox_law.proofs.general.PlaceLemmas.{one_place}
use Rattle.iscsi_outbox_law.proofs.connections.Standing.{counts_at, links_apart}
use Rattle.iscsi_outbox_steps.specs.State.{State as OutboxState}
use Rattle.iscsi_outbox_steps.specs.Steps.{is_running_ticket}
use Rattle.iscsi_requests.specs.Conns.{of_conn}
use Rattle.iscsi_requests.specs.Cookies.{Cookies, uses_at}
use Rattle.iscsi_requests.specs.Replies.{WaitingReplies, has_log_place}
use Rattle.iscsi_requests.specs.Unwritten.{Unwritten, pushed}
use Rattle.iscsi_requests.specs.declared.replies.WaitingReply.{WaitingReply}
use Rattle.iscsi_ffi_commands.specs.Commands.{is_live}
use Rattle.iscsi_ffi_rules.specs.rules.Calls.{Interface}
use Rattle.iscsi_ffi_rules.specs.rules.Needs.{is_noted, left_to_write}
use Rattle.iscsi_ffi_rules.specs.rules.Sides.{Noted, Side}
use Rattle.iscsi_ffi_steps.specs.State.{State}
use Rattle.iscsi_ffi_steps.specs.Steps.{Side as StepsSide}
use Rattle.iscsi_ffi_law.specs.Names.{AreNoted, Note}
use Rattle.iscsi_ffi_law.specs.Parts.{AreCounted, AreKept, AreNotesOn, IsAbout, IsAnswered, IsBefore, IsCommand, IsConn, IsNote, IsOneUse, IsQueued, IsRequest, is_named, noted_in}
use Rattle.iscsi_ffi_law.specs.Stands.{AreRequests, Stands}
use Rattle.iscsi_ffi_law.specs.Uses.{count_lists, is_place, uses_of}
use Rattle.iscsi_ffi_law.proofs.calls.Changed.{changed_to}
use Rattle.iscsi_ffi_law.proofs.calls.Ends.{EndsAlike, IsLeft, ends_alike}
use Rattle.iscsi_ffi_law.proofs.calls.Finish.{as_many_links}
use Rattle.iscsi_ffi_law.proofs.general.Lists.{lists_set}
use Rattle.iscsi_ffi_law.proofs.calls.Moved.{same_homes, uses_run, with_box}
use Rattle.iscsi_ffi_law.proofs.own_pdus.NoteMoves.{AreRenoted, about_renoted, apart_renoted, each_renoted, kept_renoted}
use Rattle.iscsi_ffi_law.proofs.own_pdus.NotePlaces.{notes_same}
use Rattle.iscsi_ffi_law.proofs.sending.Queued.{link_map}
use Rattle.iscsi_ffi_law.proofs.calls.Quiet.{queued_same}

-- ---- a list more

drop_more : (n : ℕ) (hs : List Handed) (g : Handed) → n ≤ length hs → drop n (hs ++ g ∷ []) ≡ drop n hs ++ g ∷ []
drop_more zero hs g few = refl
drop_more (suc n) [] g few = absurd (let none : ⊥ = omega (arith, few) in none)
drop_more (suc n) (x ∷ hs) g few = drop_more n hs g (omega (arith, few))

pub noted_more : (P : Option ℕ → Handed → Type 0) (xs : List (Option ℕ)) (hs : List Handed) (x : Option ℕ) (g : Handed) → PairsOf P xs hs → noted_in (xs ++ x ∷ []) (hs ++ g ∷ []) ≡ noted_in xs hs ++ cond (is_noted g.out.pdu) (x ∷ []) []
noted_more P [] [] x g pairs = refl
noted_more P [] (h ∷ hs) x g pairs = absurd pairs
noted_more P (y ∷ xs) [] x g pairs = absurd pairs
noted_more P (y ∷ xs) (h ∷ hs) x g pairs = either (noted_more P xs hs x g pairs.1) (is_noted h.out.pdu)
  where
    either : noted_in (xs ++ x ∷ []) (hs ++ g ∷ []) ≡ noted_in xs hs ++ cond (is_noted g.out.pdu) (x ∷ []) [] → (v : Bool)
        → cond v (y ∷ noted_in (xs ++ x ∷ []) (hs ++ g ∷ [])) (noted_in (xs ++ x ∷ []) (hs ++ g ∷ [])) ≡ cond v (y ∷ noted_in xs hs) (noted_in xs hs) ++ cond (is_noted g.out.pdu) (x ∷ []) []
    either later true = ap (λ ys. y ∷ ys) later
    either later false = later

-- ---- the connection

taken_conn : (out : Outgoing) (l : Link) → (taken_from out l).conn ≡ l.conn
taken_conn out l = cond_both (is_from_queue out) (record l { queue = drop 1 l.queue }) l (λ (m : Link). m.conn ≡ l.conn) (λ is. refl) (λ isnt. refl)

taken_left : (out : Outgoing) (l : Link) (g : Handed) → l.lost ≡ false → l.written ≤ length l.handed → left_to_write (record (taken_from out l) { handed = (taken_from out l).handed ++ g ∷ [] }) ≡ left_to_write l ++ g ∷ []
taken_left out l g kept few =
    cond_both (is_from_queue out) (record l { queue = drop 1 l.queue }) l (λ (m : Link). left_to_write (record m { handed = m.handed ++ g ∷ [] }) ≡ left_to_write l ++ g ∷ []) (λ is. same) (λ isnt. same)
  where
    same : cond l.lost [] (drop l.written (l.handed ++ g ∷ [])) ≡ cond l.lost [] (drop l.written l.handed) ++ g ∷ []
    same = ap (λ v. cond v [] (drop l.written (l.handed ++ g ∷ []))) kept ∙ drop_more l.written l.handed g few ∙ ap (λ v. cond v [] (drop l.written l.handed) ++ g ∷ []) (sym kept)

module _ (i : Interface) (s : StepsSide) (r : Side) (h : Stands i s r) (p : ℕ) (within : p < length r.both.box.links) (opens : is_open (link_in r.both.box.links p) ≡ true) (g : Handed) where
  abbrev pub l : Link
  l = link_in r.both.box.links p

  abbrev pub box_after : Box
  box_after = after_given i.outbox r.both.box (link_in r.both.box.links p) g

  -- what is handed out, and what waits then; by the rules these words are of own PDUs that wait then, and of those that were handed out
  pub record IsHandedOn (x : Option ℕ) (v : Cookies) (replies : WaitingReplies) (noted : Unwritten) (notes : List Note) (waiting handed : List Noted) : Type 0 where
    pub about : IsAbout h.names h.notes r (link_in r.both.box.links p).conn x g
    pub kept : AreKept h.names h.notes v
    pub counted : AreCounted v
    pub uses : (place : ℕ) → uses_at place v ≡ uses_of place (changed_to s.state s.state.outbox v replies noted s.state.unwritten) + one (is_place place x)
    pub once : (log_place : ℕ) → count_lists (has_log_place log_place) replies.waiting ≤ 1
    pub replies_long : length replies.waiting ≡ length s.state.replies.waiting
    pub replies_room : replies.room ≡ s.state.replies.room
    pub replies_last : replies.last ≡ s.state.replies.last
    pub noted_long : length noted.handed ≡ length s.state.noted.handed
    pub noted_room : noted.room ≡ s.state.noted.room
    pub answered : (q : ℕ) → EachOf (λ (y : WaitingReply). IsAnswered h.names r.answers y.log_place y.request) (of_conn q replies.waiting)
    pub queued_here : IsQueued h.names r.both.trace r.answers r.both.box.undue (of_conn p replies.waiting) (length (of_conn p noted.handed)) (taken_from g.out (link_in r.both.box.links p))
    pub queued_others : (q : ℕ) → q < length r.both.box.links → (q ≡ p → ⊥) → IsQueued h.names r.both.trace r.answers r.both.box.undue (of_conn q replies.waiting) (length (of_conn q noted.handed)) (link_in r.both.box.links q)
    pub renoted : AreRenoted h.notes notes
    pub are_noted : AreNoted notes waiting handed
    pub noted_here : AreNotesOn notes (link_in r.both.box.links p).conn [] (of_conn p noted.handed) (noted_in (of_conn p s.state.unwritten.handed ++ x ∷ []) (left_to_write (link_in r.both.box.links p) ++ g ∷ []))
    pub noted_others : (q : ℕ) → q < length r.both.box.links → (q ≡ p → ⊥)
        → AreNotesOn notes (link_in r.both.box.links q).conn [] (of_conn q noted.handed) (noted_in (of_conn q s.state.unwritten.handed) (left_to_write (link_in r.both.box.links q)))

  unlost : (link_in r.both.box.links p).lost ≡ false
  unlost = not-true (link_in r.both.box.links p).lost (and_parts (link_in r.both.box.links p).joined (not (link_in r.both.box.links p).lost) opens).1

  abbrev takes : Link → Link
  takes m = cond (m.conn == (link_in r.both.box.links p).conn) (taken_from g.out m) m

  abbrev gets : Link → Link
  gets m = cond (m.conn == (link_in r.both.box.links p).conn) (record m { handed = m.handed ++ g ∷ [] }) m

  many : length (after_given i.outbox r.both.box (link_in r.both.box.links p) g).links ≡ length r.both.box.links
  many = length-map (map takes r.both.box.links) gets ∙ length-map r.both.box.links takes

  link_mapped : (q : ℕ) → q < length r.both.box.links → link_in (after_given i.outbox r.both.box (link_in r.both.box.links p) g).links q ≡ gets (takes (link_in r.both.box.links q))
  link_mapped q short = link_map gets (map takes r.both.box.links) q (omega (arith, short, length-map r.both.box.links takes)) ∙ ap gets (link_map takes r.both.box.links q short)

  link_here : link_in (after_given i.outbox r.both.box (link_in r.both.box.links p) g).links p ≡ record (taken_from g.out (link_in r.both.box.links p)) { handed = (taken_from g.out (link_in r.both.box.links p)).handed ++ g ∷ [] }
  link_here =
      link_mapped p within
      ∙ ap (λ v. gets (cond v (taken_from g.out (link_in r.both.box.links p)) (link_in r.both.box.links p))) (eq-eqb (link_in r.both.box.links p).conn (link_in r.both.box.links p).conn refl)
      ∙ ap (λ v. cond v (record (taken_from g.out (link_in r.both.box.links p)) { handed = (taken_from g.out (link_in r.both.box.links p)).handed ++ g ∷ [] }) (taken_from g.out (link_in r.both.box.links p)))
      (eq-eqb (taken_from g.out (link_in r.both.box.links p)).conn (link_in r.both.box.links p).conn (taken_conn g.out (link_in r.both.box.links p)))

  module _ (left : IsLeft i (after_given i.outbox r.both.box (link_in r.both.box.links p) g)) (o : OutboxState) (stands : OutboxStands i.outbox o (after_given i.outbox r.both.box (link_in r.both.box.links p) g)) (tracked : o.tracked.last ≤ length (after_given i.outbox r.both.box (link_in r.both.box.links p) g).tasks)
      (runs : (ticket : ℕ) → is_running_ticket ticket o ≡ is_running_ticket ticket s.state.outbox) (x : Option ℕ) (v : Cookies) (replies : WaitingReplies) (noted : Unwritten)
      (notes : List Note) (waiting handed : List Noted) (c : IsHandedOn x v replies noted notes waiting handed)
      (free : length (of_conn p s.state.unwritten.handed) < i.unwritten) where
    abbrev b' : Box
    b' = after_given i.outbox r.both.box (link_in r.both.box.links p) g

    abbrev r' : Side
    r' = record (with_box r (after_given i.outbox r.both.box (link_in r.both.box.links p) g)) { noted = waiting; handed_notes = handed }

    abbrev s' : State
    s' = changed_to s.state o v replies noted (pushed p x s.state.unwritten)

    long : length s.state.unwritten.handed ≡ length r.both.box.links
    long = h.sizes.unwritten ∙ sym (as_many_links i s.state r h.outbox)

    link_other : (q : ℕ) → q < length r.both.box.links → (q ≡ p → ⊥) → link_in (after_given i.outbox r.both.box (link_in r.both.box.links p) g).links q ≡ link_in r.both.box.links q
    link_other q short other =
        let apart : ((link_in r.both.box.links q).conn == (link_in r.both.box.links p).conn) ≡ false = ne_eqb (link_in r.both.box.links q).conn (link_in r.both.box.links p).conn
        (λ same. other (one_place r.both.box.links q p (links_apart (is_under_way i.outbox r.both.box.links) i.outbox s.state.outbox r.both.box h.outbox left.distinct) short within same)) in
        link_mapped q short ∙ ap (λ w. gets (cond w (taken_from g.out (link_in r.both.box.links q)) (link_in r.both.box.links q))) apart ∙ ap (λ w. cond w (record (link_in r.both.box.links q) { handed = (link_in r.both.box.links q).handed ++ g ∷ [] }) (link_in r.both.box.links q)) apart

    here_pushed : of_conn p (pushed p x s.state.unwritten).handed ≡ of_conn p s.state.unwritten.handed ++ x ∷ []
    here_pushed = get_or-set_same s.state.unwritten.handed p (of_conn p s.state.unwritten.handed ++ x ∷ []) [] (omega (arith, within, long))

    others_pushed : (q : ℕ) → (q ≡ p → ⊥) → of_conn q (pushed p x s.state.unwritten).handed ≡ of_conn q s.state.unwritten.handed
    others_pushed q other = get_or-set_other s.state.unwritten.handed p q (of_conn p s.state.unwritten.handed ++ x ∷ []) [] other

    uses_now : (place : ℕ) → uses_at place v ≡ uses_of place s' + 0
    uses_now place =
        let moved = uses_run place (changed_to s.state s.state.outbox v replies noted s.state.unwritten) o runs in
        let set_there = lists_set (is_place place) s.state.unwritten.handed p (of_conn p s.state.unwritten.handed ++ x ∷ []) (omega (arith, within, long)) in
        let all = sum_by-append (λ (y : Option ℕ). cond (is_place place y) 1 0) (of_conn p s.state.unwritten.handed) (x ∷ []) in
        omega (arith, moved, set_there, all, count-cons (is_place place) x [], c.uses place)

    left_here : left_to_write (link_in (after_given i.outbox r.both.box (link_in r.both.box.links p) g).links p) ≡ left_to_write (link_in r.both.box.links p) ++ g ∷ []
    left_here = ap left_to_write link_here ∙ taken_left g.out (link_in r.both.box.links p) g unlost (counts_at (is_under_way i.outbox r.both.box.links) i.outbox s.state.outbox r.both.box h.outbox p within).few_written

    conn_here : (link_in (after_given i.outbox r.both.box (link_in r.both.box.links p) g).links p).conn ≡ (link_in r.both.box.links p).conn
    conn_here = ap (λ (m : Link). m.conn) link_here ∙ taken_conn g.out (link_in r.both.box.links p)

    about_now : (q : ℕ) (y : Option ℕ) (z : Handed) → IsAbout h.names h.notes r (link_in r.both.box.links q).conn y z → IsAbout h.names notes r' (link_in r.both.box.links q).conn y z
    about_now q y z k = let a = about_renoted h.names h.notes notes c.renoted r (link_in r.both.box.links q).conn y z k in record { named = a.named; noted = a.noted }

    now_here : IsConn h.names notes [] s' r' p (link_in (after_given i.outbox r.both.box (link_in r.both.box.links p) g).links p)
    now_here = record {
      replies = c.answered p;
      queued = queued_same h.names r.both.trace r.answers (λ q. of_conn q replies.waiting) (λ q. length (of_conn q noted.handed)) r.both.box.undue (of_conn p replies.waiting) (length (of_conn p noted.handed))
          (taken_from g.out (link_in r.both.box.links p)) (link_in b'.links p) (ap (λ (m : Link). m.conn) link_here) (ap (λ (m : Link). m.queue) link_here) c.queued_here;
      written = subst (λ hs. PairsOf (IsAbout h.names notes r' (link_in b'.links p).conn) (of_conn p (pushed p x s.state.unwritten).handed) hs) (sym left_here)
          (subst (λ ys. PairsOf (IsAbout h.names notes r' (link_in b'.links p).conn) ys (left_to_write (link_in r.both.box.links p) ++ g ∷ [])) (sym here_pushed)
          (subst (λ k. PairsOf (IsAbout h.names notes r' k) (of_conn p s.state.unwritten.handed ++ x ∷ []) (left_to_write (link_in r.both.box.links p) ++ g ∷ [])) (sym conn_here)
          (pairs-weaken (IsAbout h.names h.notes r (link_in r.both.box.links p).conn) (IsAbout h.names notes r' (link_in r.both.box.links p).conn) (of_conn p s.state.unwritten.handed ++ x ∷ []) (left_to_write (link_in r.both.box.links p) ++ g ∷ [])
          (about_now p)
          (pairs-append (IsAbout h.names h.notes r (link_in r.both.box.links p).conn) (of_conn p s.state.unwritten.handed) (x ∷ []) (left_to_write (link_in r.both.box.links p)) (g ∷ []) (h.requests.conns p within).written (c.about, tt)))));
      noted = notes_same notes [] (link_in r.both.box.links p).conn (link_in b'.links p).conn (of_conn p noted.handed) (of_conn p noted.handed) (noted_in (of_conn p s.state.unwritten.handed ++ x ∷ []) (left_to_write (link_in r.both.box.links p) ++ g ∷ []))
          (noted_in (of_conn p (pushed p x s.state.unwritten).handed) (left_to_write (link_in b'.links p))) conn_here refl
          (ap (λ ys. noted_in ys (left_to_write (link_in b'.links p))) here_pushed ∙ ap (noted_in (of_conn p s.state.unwritten.handed ++ x ∷ [])) left_here) c.noted_here;
    }

    now_elsewhere : (q : ℕ) → q < length r.both.box.links → (q ≡ p → ⊥) → IsConn h.names notes [] s' r' q (link_in (after_given i.outbox r.both.box (link_in r.both.box.links p) g).links q)
    now_elsewhere q short other =
        let k : IsConn h.names h.notes [] s.state r q (link_in r.both.box.links q) = h.requests.conns q short in
        subst (IsConn h.names notes [] s' r' q) (sym (link_other q short other)) (record {
          replies = c.answered q;
          queued = c.queued_others q short other;
          written = subst (λ ys. PairsOf (IsAbout h.names notes r' (link_in r.both.box.links q).conn) ys (left_to_write (link_in r.both.box.links q))) (sym (others_pushed q other))
              (pairs-weaken (IsAbout h.names h.notes r (link_in r.both.box.links q).conn) (IsAbout h.names notes r' (link_in r.both.box.links q).conn) (of_conn q s.state.unwritten.handed) (left_to_write (link_in r.both.box.links q)) (about_now q) k.written);
          noted = notes_same notes [] (link_in r.both.box.links q).conn (link_in r.both.box.links q).conn (of_conn q noted.handed) (of_conn q noted.handed) (noted_in (of_conn q s.state.unwritten.handed) (left_to_write (link_in r.both.box.links q)))
              (noted_in (of_conn q (pushed p x s.state.unwritten).handed) (left_to_write (link_in r.both.box.links q))) refl refl (ap (λ ys. noted_in ys (left_to_write (link_in r.both.box.links q))) (others_pushed q other)) (c.noted_others q short other);
        })

    same_conn : (q : ℕ) → q < length r.both.box.links → (link_in (after_given i.outbox r.both.box (link_in r.both.box.links p) g).links q).conn ≡ (link_in r.both.box.links q).conn
    same_conn q short = ⊎_elim
        (λ (same : q ≡ p). subst (λ k. (link_in b'.links k).conn ≡ (link_in r.both.box.links k).conn) (sym same) conn_here)
        (λ (other : q ≡ p → ⊥). ap (λ (m : Link). m.conn) (link_other q short other)) (cases_eq q p)

    requests_now : AreRequests h.names notes (λ place. 0) (λ q. []) s' r'
    requests_now = record {
      asked = h.requests.asked;
      noted = c.are_noted;
      apart = apart_renoted h.names h.notes notes c.renoted h.requests.apart;
      kept = kept_renoted h.names h.notes notes c.renoted v c.kept;
      counted = c.counted;
      uses = uses_now;
      named = each-weaken (IsRequest s.state r.both.trace) (IsRequest s' r.both.trace) h.names (λ n q. record { held = q.held; waiting = q.waiting }) h.requests.named;
      noted_apart = each-weaken (IsNote s.state r.both.box.links) (IsNote s' b'.links) notes
          (λ n q. record { held = q.held; waiting = q.waiting; home = same_homes r.both.box.links b'.links n.conn many (λ q' short. same_conn q' (omega (arith, short, many))) q.home })
          (each_renoted h.names h.notes notes c.renoted s.state r.both.box.links h.requests.noted_apart);
      tickets = h.requests.tickets;
      commands = pairs-weaken (IsCommand h.names r) (IsCommand h.names r') s.state.commands.items (filter (is_named h.names) (entered r.both.trace))
          (λ y d k. record { ticket = k.ticket; unit = k.unit; attr = k.attr; request = k.request; live = k.live; going = k.going; marked = k.marked; freed = k.freed }) h.requests.commands;
      live_named = h.requests.live_named;
      one_use = each-weaken (IsOneUse s.state.outbox) (IsOneUse o) s.state.commands.items (λ y k. ap (λ w. is_live y && w) (runs y.ticket) ∙ k) h.requests.one_use;
      numbered = h.requests.numbered;
      answers = h.requests.answers;
      once = c.once;
      last = subst (IsBefore (length r.answers)) (sym c.replies_last) h.requests.last;
      conns = λ q short. ⊎_elim
          (λ (same : q ≡ p). subst (λ k. IsConn h.names notes [] s' r' k (link_in b'.links k)) (sym same) now_here)
          (λ (other : q ≡ p → ⊥). now_elsewhere q (omega (arith, short, many)) other) (cases_eq q p);
      undue = h.requests.undue;
    }

    pub handed_ends : EndsAlike i (record { event = s.event; trace = s.trace; doing = record { state = s'; actions = []; forgets = [] } }) r' []
    handed_ends =
        ends_alike i h.names notes (λ q. []) None s' r' (record {
          outbox = stands;
          sound = left.sound;
          few = left.few;
          distinct = left.distinct;
          sizes = record {
            room = h.sizes.room;
            functions = h.sizes.functions;
            replies = c.replies_long ∙ h.sizes.replies;
            noted = c.noted_long ∙ h.sizes.noted;
            unwritten = length-set s.state.unwritten.handed p (of_conn p s.state.unwritten.handed ++ x ∷ []) ∙ h.sizes.unwritten;
            noted_room = c.noted_room ∙ h.sizes.noted_room;
            unwritten_room = h.sizes.unwritten_room;
            replies_room = c.replies_room ∙ h.sizes.replies_room;
            slots = h.sizes.slots;
            few = each-set (λ (ys : List (Option ℕ)). length ys ≤ i.unwritten) s.state.unwritten.handed p (of_conn p s.state.unwritten.handed ++ x ∷ [])
                (let e = length-append (of_conn p s.state.unwritten.handed) (x ∷ []) in let less : length (of_conn p s.state.unwritten.handed ++ x ∷ []) ≤ i.unwritten = omega (arith, e, free) in less) h.sizes.few;
          };
          flags = record { awake = h.flags.awake; over = h.flags.over };
          requests = requests_now;
          counts = record { units = h.counts.units; last = h.counts.last; tracked = tracked };
          withheld = h.withheld;
          calm = h.calm;
          slots = h.slots;
          functions = h.functions;
        }) left.some (record { event = s.event; trace = s.trace; doing = record { state = s'; actions = []; forgets = [] } }) refl h.event h.trace
