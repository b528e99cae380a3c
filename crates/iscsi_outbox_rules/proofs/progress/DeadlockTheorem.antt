-- Where units and transports have done what they owe, something goes out as long as anything waits.
use Rattle.std.proofs.Common.{◌≡◌, ℕ, ⊎_elim, ◌≤◌, ◌&&◌, ◌||◌, not, Bool, true, false, List, [], ◌∷◌, Some, None, refl, ap, sym, subst, ◌∙◌}
use Rattle.std.specs.List.{list_any, list_all}
use Rattle.std.proofs.lemmas.Bool.{false≢true}
use Rattle.std.proofs.lemmas.List.{append-nil}
use Rattle.iscsi_rules.specs.declared.effect.Effect.{Effect}
use Rattle.iscsi_rules.proofs.general.BoolLemmas.{and_parts, or_none, not_true}
use Rattle.iscsi_outbox_rules.specs.rules.Calls.{Opening}
use Rattle.iscsi_outbox_rules.specs.rules.Boxes.{Task, Outgoing, Answer, Link, Box}
use Rattle.iscsi_outbox_rules.specs.rules.Words.{is_running_phase, is_open}
use Rattle.iscsi_outbox_rules.specs.rules.Handing.{chosen}
use Rattle.iscsi_outbox_rules.specs.rules.Run.{opened, after_calls}
use Rattle.iscsi_outbox_rules.specs.promises.Deeds.{Deed, deeds_of, items_in}
use Rattle.iscsi_outbox_rules.specs.promises.Deadlock.{is_served, gives_somewhere, NoDeadlock}
use Rattle.iscsi_outbox_rules.proofs.general.EachLemmas.{EachOf, each-weaken}
use Rattle.iscsi_outbox_rules.proofs.general.FoundLemmas.{find_link}
use Rattle.iscsi_outbox_rules.proofs.general.Cuts.{keeps}
use Rattle.iscsi_outbox_rules.proofs.general.ConnLemmas.{Twins, twins_kept, HeldBy, conn_boxes, conns_of}
use Rattle.iscsi_outbox_rules.proofs.general.Boxwise.{box_keeps}
use Rattle.iscsi_outbox_rules.proofs.order.OwnTheorem.{new_twins}
use Rattle.iscsi_outbox_rules.proofs.closes.MarkRuns.{closed_by, cut_by, Marked}
use Rattle.iscsi_outbox_rules.proofs.closes.MarkItems.{MarksStand}
use Rattle.iscsi_outbox_rules.proofs.closes.MarkCalls.{marks_kept, marks_start}
use Rattle.iscsi_outbox_rules.proofs.aborts.ScopeLeaves.{each-in}
use Rattle.iscsi_outbox_rules.proofs.progress.DeadlockQueues.{Timed, has_left, QueuesStand, queues_stand}
use Rattle.iscsi_outbox_rules.proofs.progress.DeadlockSettled.{NoneDue, Settled, all_settled}
use Rattle.iscsi_outbox_rules.proofs.progress.DeadlockLogouts.{seals, ends}
use Rattle.iscsi_outbox_rules.proofs.progress.DeadlockGives.{none_of, each-none, each-all, each-both, any_in, any_passing, rank, AtLeast, Least, least_of, Ranked, ranked, unranked, none_earlier, wants, shown, gives_ping, gives_first, Ends, calm, IsCalm, none_undue, passes_all}

pub no_deadlock : (o : Opening) → NoDeadlock o
no_deadlock o cs follows quiet waits = by_wants (list_any (wants o b) b.links) refl
  where
    b : Box
    b = after_calls o (opened o) cs

    items : List (List Effect)
    items = items_in (deeds_of o cs)

    cids : List ℕ
    cids = conns_of (opened o).links

    queues : QueuesStand b
    queues = queues_stand o cs

    settled : Settled o b
    settled = all_settled o cs

    twins : Twins b.links
    twins =
        keeps o (λ (ds : List Deed) (x : Box). Twins x.links) (λ ds x c h. box_keeps o (λ es y. Unit {0}) (HeldBy Twins twins_kept) (conn_boxes Twins twins_kept o (λ es y. Unit {0})) ds x c tt h)
        [] (opened o) cs (new_twins 0 o.session.conns o.session.conns (λ e some. some))

    marks : EachOf (Marked cids (closed_by items) (cut_by items)) b.links
    marks = (let m : MarksStand cids items b = keeps o (λ (ds : List Deed) (x : Box). MarksStand cids (items_in ds) x) (marks_kept o cids) [] (opened o) cs (marks_start o) in m).marks

    over : EachOf (Ends o b) b.links
    over =
        each-both (Marked cids (closed_by items) (cut_by items)) (λ (l : Link). find_link l.conn b.links ≡ Some l) (Ends o b) b.links
        (λ l mark found. ends cids items b l mark (((seals o cs follows l.conn mark.known).sealed [] (append-nil items)).lines l found) found twins queues.takers) marks twins

    first : (not (list_any (λ (t : Task). is_running_phase t.phase) b.tasks) && list_all (is_served b) b.links ≡ true) × (not (list_any (λ (a : Answer). a.uncleared) b.undue) ≡ true)
    first = and_parts (not (list_any (λ (t : Task). is_running_phase t.phase) b.tasks) && list_all (is_served b) b.links) (not (list_any (λ (a : Answer). a.uncleared) b.undue)) quiet

    second : (not (list_any (λ (t : Task). is_running_phase t.phase) b.tasks) ≡ true) × (list_all (is_served b) b.links ≡ true)
    second = and_parts (not (list_any (λ (t : Task). is_running_phase t.phase) b.tasks)) (list_all (is_served b) b.links) first.0

    running : list_any (λ (t : Task). is_running_phase t.phase) b.tasks ≡ false
    running = not_true (list_any (λ (t : Task). is_running_phase t.phase) b.tasks) second.0

    -- where no connection wants a ping
    calms : list_any (wants o b) b.links ≡ false → EachOf (IsCalm o b) b.links
    calms asleep =
        each-both (λ (l : Link). (is_served b l ≡ true) × Ends o b l) (λ (l : Link). wants o b l ≡ false) (IsCalm o b) b.links (λ l k none. calm o b l k.0 k.1 none)
        (each-both (λ (l : Link). is_served b l ≡ true) (Ends o b) (λ (l : Link). (is_served b l ≡ true) × Ends o b l) b.links (λ l s e. (s, e)) (each-all (is_served b) b.links second.1) over) (each-none (wants o b) b.links asleep)

    by_least : list_any (wants o b) b.links ≡ false → list_any (λ (l : Link). is_open l && list_any (λ (out : Outgoing). true) l.queue) b.links ≡ true → Least b.links → gives_somewhere o b ≡ true
    by_least asleep some k =
        let r : Ranked k.link k.time = ranked k.link k.time k.is in
        any_in (λ (l : Link). shown o b (chosen o b l)) b.links k.link k.there
        (gives_first o b k.link r.out r.rest r.opens (each-in (λ (l : Link). wants o b l ≡ false) b.links k.link k.there (each-none (wants o b) b.links asleep)) r.queue_is
        (passes_all o b k.link k.time r k.there (calms asleep)
        (each-both (Timed b.time) (λ (m : Link). AtLeast k.time (rank m)) (λ (m : Link). is_open m ≡ true → EachOf (λ (y : Outgoing). k.time ≤ y.time) m.queue) b.links (λ m timed least opens. none_earlier b.time k.time m timed opens least)
        queues.times k.least)))

    by_queues : list_any (wants o b) b.links ≡ false → list_any (λ (l : Link). is_open l && list_any (λ (out : Outgoing). true) l.queue) b.links ≡ true → gives_somewhere o b ≡ true
    by_queues asleep some =
        ⊎_elim
        (λ (none : EachOf (λ (l : Link). rank l ≡ None) b.links).
        absurd (false≢true (sym (none_of (λ (l : Link). is_open l && list_any (λ (out : Outgoing). true) l.queue) b.links
        (each-weaken (λ (l : Link). rank l ≡ None) (λ (l : Link). (is_open l && list_any (λ (out : Outgoing). true) l.queue) ≡ false) b.links unranked none)) ∙ some)))
        (λ k. by_least asleep some k) (least_of b.links)

    by_undue : list_any (wants o b) b.links ≡ false → (xs : List Answer) → b.undue ≡ xs → gives_somewhere o b ≡ true
    by_undue asleep [] is =
        by_queues asleep (sym (ap (λ as'. list_any (λ (a : Answer). true) as' || list_any (λ (l : Link). is_open l && list_any (λ (out : Outgoing). true) l.queue) b.links) is) ∙ waits)
    by_undue asleep (a ∷ rest) is =
        let cleared : list_any (λ (x : Answer). x.uncleared) (a ∷ rest) ≡ false = sym (ap (list_any (λ (x : Answer). x.uncleared)) is) ∙ not_true (list_any (λ (x : Answer). x.uncleared) b.undue) first.1 in
        absurd (none_undue o b a rest (calms asleep) (subst (EachOf (λ (x : Answer). EachOf (λ k. has_left b.tasks k ≡ true) x.out.scope)) is queues.scopes).0 running
        (or_none a.uncleared (list_any (λ (x : Answer). x.uncleared) rest) cleared).0 (subst (NoneDue o b []) is settled).0)

    by_wants : (v : Bool) → list_any (wants o b) b.links ≡ v → gives_somewhere o b ≡ true
    by_wants true is = any_passing (wants o b) (λ (l : Link). shown o b (chosen o b l)) b.links (gives_ping o b) is
    by_wants false is = by_undue is b.undue refl
