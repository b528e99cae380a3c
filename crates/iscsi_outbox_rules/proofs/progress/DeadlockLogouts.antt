-- Behind a Logout that closes a connection nothing waits there any more, so that it is over once all is written.
use Rattle.std.proofs.Common.{◌≡◌, ℕ, ◌==◌, ◌&&◌, ◌||◌, not, Bool, true, false, List, [], ◌∷◌, ◌++◌, map, Some, refl, ap, sym, subst, ◌∙◌}
use Rattle.std.specs.List.{list_any, list_all, flat_map}
use Rattle.std.proofs.lemmas.Bool.{false≢true, eqb-true}
use Rattle.iscsi_rules.specs.declared.effect.Effect.{Effect}
use Rattle.iscsi_rules.specs.declared.entry.Entry.{Entry}
use Rattle.iscsi_rules.specs.promises.Order.{in_parts}
use Rattle.iscsi_rules.proofs.general.BoolLemmas.{and_parts, and_both, or_second}
use Rattle.iscsi_outbox_rules.specs.rules.Calls.{Opening, Call}
use Rattle.iscsi_outbox_rules.specs.rules.Boxes.{Outgoing, Handed, Answer, Link, Box}
use Rattle.iscsi_outbox_rules.specs.rules.Words.{contains, is_open, unwritten}
use Rattle.iscsi_outbox_rules.specs.rules.Queues.{takes_more}
use Rattle.iscsi_outbox_rules.specs.rules.Handing.{is_behind_logout, is_over}
use Rattle.iscsi_outbox_rules.specs.rules.Run.{new_link, opened, after_calls}
use Rattle.iscsi_outbox_rules.specs.promises.Deeds.{deeds_of, items_in, FollowsKnown}
use Rattle.iscsi_outbox_rules.proofs.general.EachLemmas.{EachOf, each-any, each-first_of, each-second}
use Rattle.iscsi_outbox_rules.proofs.general.SortedLemmas.{SortedBy}
use Rattle.iscsi_outbox_rules.proofs.general.FoundLemmas.{find_link}
use Rattle.iscsi_outbox_rules.proofs.general.ConnLemmas.{conns_of, Twins}
use Rattle.iscsi_outbox_rules.proofs.general.Cuts.{keeps}
use Rattle.iscsi_outbox_rules.proofs.order.SentLemmas.{items_logged}
use Rattle.iscsi_outbox_rules.proofs.general.LinkRuns.{LinkShows, link_starts}
use Rattle.iscsi_outbox_rules.proofs.closes.MarkRuns.{closed_by, cut_by, Marked}
use Rattle.iscsi_outbox_rules.proofs.closes.MarkCalls.{marks_start, cut_closed}
use Rattle.iscsi_outbox_rules.proofs.closes.SealRuns.{Shut, Last, Over, LineOf}
use Rattle.iscsi_outbox_rules.proofs.closes.SealCalls.{SealStand, seal_kept}
use Rattle.iscsi_outbox_rules.proofs.closes.ClosedParts.{EachAt, each-at}
use Rattle.iscsi_outbox_rules.proofs.closes.ClosedItems.{Fitting, fitting_log}
use Rattle.iscsi_outbox_rules.proofs.progress.DeadlockQueues.{takes_on}

-- ---- what stands of a connection that closes

module _ (o : Opening) (calls : List Call) (follows : FollowsKnown o calls) (c : ℕ) (known : list_any (λ k. k == c) (conns_of (opened o).links) ≡ true) where
  abbrev all : List (List Effect)
  all = items_in (deeds_of o calls)

  fitting : EachAt Fitting [] all
  fitting =
      subst (EachAt Fitting []) (sym (items_logged o (opened o) calls ∙ ap (flat_map (λ (e : Entry). in_parts e.effects)) follows.follows)) (fitting_log o.session follows.events follows.known)

  unqueued : (xs : List (ℕ × ℕ)) → EachOf (λ (l : Link). l.queue ≡ []) (map (λ (x : ℕ × ℕ). new_link x.0) xs)
  unqueued [] = tt
  unqueued (x ∷ xs) = (refl, unqueued xs)

  empty_line : (m : Link) → m.handed ≡ [] → m.queue ≡ [] → LineOf c [] [] m
  empty_line m none nothing =
      let same : [] ≡ map (λ (x : Handed). x.out) m.handed ++ m.queue = sym (ap (λ hs. map (λ (x : Handed). x.out) hs ++ m.queue) none ∙ nothing) in
      record { last = subst (SortedBy (Last c)) same tt; over = subst (EachOf (Over c [])) same tt; clear = tt }

  starts : (l : Link) → find_link c (opened o).links ≡ Some l → LineOf c [] [] l
  starts l found =
      let shows : LinkShows [] l = each-first_of (LinkShows []) (λ (m : Link). m.conn == c) (opened o).links l found (link_starts o).links in
      empty_line l shows.handed (each-first_of (λ (m : Link). m.queue ≡ []) (λ (m : Link). m.conn == c) (opened o).links l found (unqueued o.session.conns))

  pub seals : SealStand c o (conns_of (opened o).links) known all (deeds_of o calls) (after_calls o (opened o) calls)
  seals =
      keeps o (SealStand c o (conns_of (opened o).links) known all)
      (seal_kept c o (conns_of (opened o).links) known all (λ b rest item split s found at. ap (closed_by b) (sym at) ∙ (each-at Fitting all b rest item fitting split).on_open s.0 s.1 found))
      [] (opened o) calls (record { shows = link_starts o; marks = marks_start o; sealed = λ rest is. record { lines = starts; undue = tt; undue_over = tt } })

-- ---- so it ends

none_of : {A : Type 0} (p : A → Bool) (xs : List A) → EachOf (λ (x : A). p x ≡ false) xs → list_any p xs ≡ false
none_of p [] h = refl
none_of p (x ∷ xs) h = ap (λ v. v || list_any p xs) h.0 ∙ none_of p xs h.1

each-then : {A : Type 0} (P Q : A → Type 0) (xs : List A) → ((x : A) → P x → Q x) → EachOf P xs → EachOf Q xs
each-then P Q [] f h = tt
each-then P Q (x ∷ xs) f h = (f x h.0, each-then P Q xs f h.1)

module _ (c : ℕ) where
  abbrev closing : Handed → Bool
  closing h = contains h.out.closes c

  -- what closes it is the last
  none_waits : (hs : List Handed) (queue : List Outgoing) → SortedBy (Last c) (map (λ (h : Handed). h.out) hs ++ queue) → list_any closing hs ≡ true → queue ≡ []
  none_waits hs [] sorted some = refl
  none_waits hs (y ∷ queue) sorted some = absurd (none hs sorted some)
    where
      none : (gs : List Handed) → SortedBy (Last c) (map (λ (h : Handed). h.out) gs ++ y ∷ queue) → list_any closing gs ≡ true → ⊥
      none [] s h = false≢true h
      none (g ∷ gs) s h =
          let shut : contains g.out.closes c ≡ false = (each-second (Last c g.out) (map (λ (x : Handed). x.out) gs) (y ∷ queue) s.0).0 in
          none gs s.1 (sym (ap (λ v. v || list_any closing gs) shut) ∙ h)

  is_closed : (items : List (List Effect)) (hs : List Handed) (queue : List Outgoing) → EachOf (Over c items) (map (λ (h : Handed). h.out) hs ++ queue) → list_any closing hs ≡ true → closed_by items c ≡ true
  is_closed items [] queue over some = absurd (false≢true some)
  is_closed items (h ∷ hs) queue over some =
      elim (contains h.out.closes c) as (λ v. contains h.out.closes c ≡ v → (v || list_any closing hs) ≡ true → closed_by items c ≡ true) [
        | true ↦ λ is here. over.0 is
        | false ↦ λ is later. is_closed items hs queue over.1 later
      ] refl some

  all_shut : (hs : List Handed) (queue : List Outgoing) → EachOf (Shut c) (map (λ (h : Handed). h.out) hs ++ queue) → list_any closing hs ≡ false
  all_shut [] queue h = refl
  all_shut (g ∷ hs) queue h = ap (λ v. v || list_any closing hs) h.0 ∙ all_shut hs queue h.1

-- nothing waits on it
record Ended (b : Box) (l : Link) : Type 0 where
  closed : l.closed ≡ true
  queue : l.queue ≡ []
  undue : list_any (λ (a : Answer). a.conn == l.conn) b.undue ≡ false

some_link : (l m : Link) → Some l ≡ Some m → l ≡ m
some_link l m h = cc

module _ (cs : List ℕ) (items : List (List Effect)) (b : Box) (l : Link) (mark : Marked cs (closed_by items) (cut_by items) l) (line : LineOf l.conn items b.undue l) (found : find_link l.conn b.links ≡ Some l) (twins : Twins b.links)
    (takers : EachOf (λ (a : Answer). takes_on b.links a.conn ≡ true) b.undue) where
  by_cut : l.cut ≡ true → Ended b l
  by_cut is = record {
    closed = mark.closed ∙ cut_closed items l.conn (sym mark.cut ∙ is);
    queue = mark.empty is;
    undue = none_of (λ (a : Answer). a.conn == l.conn) b.undue (each-then (λ (a : Answer). takes_on b.links a.conn ≡ true) (λ (a : Answer). (a.conn == l.conn) ≡ false) b.undue (λ a k. by_conn a (a.conn == l.conn) refl k) takers);
  }
    where
      by_conn : (a : Answer) (v : Bool) → (a.conn == l.conn) ≡ v → takes_on b.links a.conn ≡ true → (a.conn == l.conn) ≡ false
      by_conn a false at k = at
      by_conn a true at k =
          let m = each-any (λ (x : Link). find_link x.conn b.links ≡ Some x) (λ (x : Link). (x.conn == a.conn) && takes_more x) b.links k twins in
          let test = and_parts (m.0.conn == a.conn) (takes_more m.0) m.1 in
          let same : m.0 ≡ l = some_link m.0 l (sym m.2 ∙ ap (λ e. find_link e b.links) (eqb-true m.0.conn a.conn test.0 ∙ eqb-true a.conn l.conn at) ∙ found) in
          let uncut : not l.cut ≡ true = (and_parts (l.joined && not l.lost) (not l.cut) (ap takes_more (sym same) ∙ test.1)).1 in
          absurd (false≢true (sym (ap not is) ∙ uncut))

  by_handed : list_any (λ (h : Handed). contains h.out.closes l.conn) l.handed ≡ true → Ended b l
  by_handed some = record {
    closed = mark.closed ∙ is_closed l.conn items l.handed l.queue line.over some;
    queue = none_waits l.conn l.handed l.queue line.last some;
    undue = none_of (λ (a : Answer). a.conn == l.conn) b.undue
        (each-then (λ (a : Answer). a.conn ≡ l.conn → EachOf (Shut l.conn) (map (λ (h : Handed). h.out) l.handed ++ l.queue)) (λ (a : Answer). (a.conn == l.conn) ≡ false) b.undue (λ a k. by_conn a (a.conn == l.conn) refl k) line.clear);
  }
    where
      by_conn : (a : Answer) (v : Bool) → (a.conn == l.conn) ≡ v → (a.conn ≡ l.conn → EachOf (Shut l.conn) (map (λ (h : Handed). h.out) l.handed ++ l.queue)) → (a.conn == l.conn) ≡ false
      by_conn a false at k = at
      by_conn a true at k = absurd (false≢true (sym (all_shut l.conn l.handed l.queue (k (eqb-true a.conn l.conn at))) ∙ some))

  ended : is_behind_logout l ≡ true → Ended b l
  ended is = by_either l.cut refl is
    where
      by_either : (v : Bool) → l.cut ≡ v → (v || list_any (λ (h : Handed). contains h.out.closes l.conn) l.handed) ≡ true → Ended b l
      by_either true cut either = by_cut cut
      by_either false cut later = by_handed later

  all_written : (hs : List Handed) → list_any (λ (h : Handed). true) hs ≡ false → list_all (λ (h : Handed). false) hs ≡ true
  all_written [] none = refl
  all_written (h ∷ hs) none = absurd (false≢true (sym none))

  -- the connection is over
  pub ends : is_open l ≡ true → list_any (λ (h : Handed). true) (unwritten l) ≡ false → is_behind_logout l ≡ true → is_over b l ≡ true
  ends opens written is =
      let e : Ended b l = ended is in
      let queue : list_all (λ (out : Outgoing). false) l.queue ≡ true = ap (list_all (λ (out : Outgoing). false)) e.queue in
      and_both (is_open l && l.closed && list_all (λ (out : Outgoing). false) l.queue && not (list_any (λ (a : Answer). a.conn == l.conn) b.undue)) (l.cut || list_all (λ (h : Handed). false) (unwritten l))
      (and_both (is_open l && l.closed && list_all (λ (out : Outgoing). false) l.queue) (not (list_any (λ (a : Answer). a.conn == l.conn) b.undue))
      (and_both (is_open l && l.closed) (list_all (λ (out : Outgoing). false) l.queue) (and_both (is_open l) l.closed opens e.closed) queue) (ap not e.undue))
      (or_second l.cut (list_all (λ (h : Handed). false) (unwritten l)) (all_written (unwritten l) written))
